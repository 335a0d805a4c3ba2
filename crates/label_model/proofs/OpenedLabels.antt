-- The entries that a label file is read as have labels of the grammar.
use Rattle.std.proofs.Common.{◌≡◌, ℕ, List, [], ◌∷◌, ◌++◌, refl, sym, subst, ⊎_elim}
use Rattle.wf_model.specs.Lists.{IsIn}
use Rattle.wf_model.specs.Grammar.{Grammar}
use Rattle.wf_model.proofs.Lists.{in_append_cases}
use Rattle.label_model.specs.Reading.{IsLabelBytes}
use Rattle.label_model.specs.Files.{Entry, Answer, Accepted, ReadsFrom, at_end, cut, bad_name, name_twice, bad_label, whole, Opens, short, other_start, other_digest, head}

-- each entry has the bytes of a label of the grammar
abbrev pub HaveLabels : Grammar → List Entry → Type 0
HaveLabels g entries = (e : Entry) → IsIn e entries → IsLabelBytes g e.label

one_more : (g : Grammar) (before : List Entry) (e : Entry) → HaveLabels g before → IsLabelBytes g e.label → HaveLabels g (before ++ e ∷ [])
one_more g before e all label x i =
    ⊎_elim (λ j. all x j) (λ j. ⊎_elim (λ q. subst (λ (z : Entry). IsLabelBytes g z.label) (sym q) label) (λ none. absurd none) j) (in_append_cases x before (e ∷ []) i)

-- so have those that are read after such entries
read_labels : (g : Grammar) {offset : ℕ} {before : List Entry} {bytes : List ℕ} {a : Answer} → ReadsFrom g offset before bytes a → HaveLabels g before → (entries : List Entry) → a ≡ Accepted entries → HaveLabels g entries
read_labels g (at_end {before = before}) all entries q = let same : before ≡ entries = cc in subst (HaveLabels g) same all
read_labels g (cut n none) all entries q = absurd (cc)
read_labels g (bad_name e h n) all entries q = absurd (cc)
read_labels g (name_twice e h n t) all entries q = absurd (cc)
read_labels g (bad_label e h n t l) all entries q = absurd (cc)
read_labels g (whole {before = before} e h n t l rest) all entries q = read_labels g rest (one_more g before e all l) entries q

-- bytes that are accepted hold entries with labels of the grammar
pub opened_labels : (g : Grammar) (digests : List (List ℕ)) (bytes : List ℕ) (entries : List Entry) → Opens g digests bytes (Accepted entries) → HaveLabels g entries
opened_labels g digests bytes entries opens = go opens refl
  where
    go : {a : Answer} → Opens g digests bytes a → a ≡ Accepted entries → HaveLabels g entries
    go (short h) q = absurd (cc)
    go (other_start h) q = absurd (cc)
    go (other_digest f r l is n) q = absurd (cc)
    go (head f r i l is reads) q = read_labels g reads (λ e i. absurd i) entries q
