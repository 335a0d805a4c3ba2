-- The entries that a label file is read as have names that differ.
use Rattle.std.proofs.Common.{◌≡◌, ℕ, List, [], ◌∷◌, ◌++◌, refl, sym, subst, inl, inr}
use Rattle.std.proofs.lemmas.List.{map-append}
use Rattle.wf_model.specs.Lists.{IsIn, AllDiffer}
use Rattle.wf_model.specs.Grammar.{Grammar}
use Rattle.label_model.specs.Files.{Entry, names_of_entries, Answer, Accepted, ReadsFrom, at_end, cut, bad_name, name_twice, bad_label, whole, Opens, short, other_start, other_digest, head}
use Rattle.label_model.proofs.Differing.{differ-append}

-- a name that is none of those before differs from them
one_more : (before : List Entry) (e : Entry) → AllDiffer (names_of_entries before) → (IsIn e.name (names_of_entries before) → ⊥) → AllDiffer (names_of_entries (before ++ e ∷ []))
one_more before e differ new =
    subst AllDiffer (sym (map-append (λ (z : Entry). z.name) before (e ∷ [])))
    (differ-append (names_of_entries before) (e.name ∷ []) differ ((λ i. i), tt) (λ n i j. none n i j))
  where
    none : (n : List ℕ) → IsIn n (names_of_entries before) → IsIn n (e.name ∷ []) → ⊥
    none n i (inl q) = new (subst (λ z. IsIn z (names_of_entries before)) q i)
    none n i (inr j) = j

-- so do those that are read after entries whose names differ
read_differ : (g : Grammar) {offset : ℕ} {before : List Entry} {bytes : List ℕ} {a : Answer} → ReadsFrom g offset before bytes a → AllDiffer (names_of_entries before) → (entries : List Entry) → a ≡ Accepted entries → AllDiffer (names_of_entries entries)
read_differ g (at_end {before = before}) differ entries q = let same : before ≡ entries = cc in subst (λ es. AllDiffer (names_of_entries es)) same differ
read_differ g (cut n none) differ entries q = absurd (cc)
read_differ g (bad_name e h n) differ entries q = absurd (cc)
read_differ g (name_twice e h n t) differ entries q = absurd (cc)
read_differ g (bad_label e h n t l) differ entries q = absurd (cc)
read_differ g (whole {before = before} e h n t l rest) differ entries q = read_differ g rest (one_more before e differ t) entries q

-- bytes that are accepted hold entries with names that differ
pub opened_differ : (g : Grammar) (digests : List (List ℕ)) (bytes : List ℕ) (entries : List Entry) → Opens g digests bytes (Accepted entries) → AllDiffer (names_of_entries entries)
opened_differ g digests bytes entries opens = go opens refl
  where
    go : {a : Answer} → Opens g digests bytes a → a ≡ Accepted entries → AllDiffer (names_of_entries entries)
    go (short h) q = absurd (cc)
    go (other_start h) q = absurd (cc)
    go (other_digest f r l is n) q = absurd (cc)
    go (head f r i l is reads) q = read_differ g reads tt entries q
