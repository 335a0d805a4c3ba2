-- A label file is read in one way.
use Rattle.std.proofs.Common.{◌≡◌, ◌≢◌, ℕ, ◌+◌, ◌/◌, ◌%◌, ◌<◌, ◌⊎◌, List, [], ◌∷◌, ◌++◌, length, codes, refl, sym, ap, ◌∙◌, subst, inl, inr, ⊎_elim, arith, append_assoc, length-append}
use Rattle.std.proofs.lemmas.List.{append_cancel_left}
use Rattle.wf_model.specs.Lists.{IsIn}
use Rattle.wf_model.specs.Grammar.{Grammar}
use Rattle.bit_pack.proofs.Fronts.{same_front}
use Rattle.label_model.specs.Reading.{IsLabelBytes}
use Rattle.wf_model.specs.Items.{IsItemName}
use Rattle.label_model.specs.Files.{head_bytes, Entry, entry_bytes, names_of_entries, Answer, Accepted, Truncated, BadName, NameTwice, BadLabel, IsFront, ReadsFrom, at_end, cut, bad_name, name_twice, bad_label, whole, Opens, short, other_start, other_digest, head}
use Rattle.label_model.specs.FileLaws.{OneReadingLaw}

pub length-entry : (e : Entry) → length (entry_bytes e) ≡ length e.name + length e.label + 3
length-entry e =
    let a = length-append ((length e.name ∷ []) ++ e.name) (length e.label / 256 ∷ length e.label % 256 ∷ []) in
    let b = length-append ((length e.name ∷ []) ++ e.name ++ (length e.label / 256 ∷ length e.label % 256 ∷ [])) e.label in
    let c = length-append (length e.name ∷ []) e.name in
    omega (arith, a, b, c)

-- an entry part by part, and what follows it
pub entry_spread : (e : Entry) (r : List ℕ) → entry_bytes e ++ r ≡ length e.name ∷ (e.name ++ (length e.label / 256 ∷ (length e.label % 256 ∷ (e.label ++ r))))
entry_spread e r = simp append_assoc

-- one entry stands at a front
pub one_front : (e f : Entry) (x y : List ℕ) → entry_bytes e ++ x ≡ entry_bytes f ++ y → (e ≡ f) × (x ≡ y)
one_front e f x y q =
    let w = sym (entry_spread e x) ∙ (q ∙ entry_spread f y) in
    let n : length e.name ≡ length f.name = cc in
    let t : e.name ++ (length e.label / 256 ∷ (length e.label % 256 ∷ (e.label ++ x))) ≡ f.name ++ (length f.label / 256 ∷ (length f.label % 256 ∷ (f.label ++ y))) = cc in
    let r = same_front e.name f.name _ _ n t in
    let r1 = r.1 in
    let hi : length e.label / 256 ≡ length f.label / 256 = cc in
    let lo : length e.label % 256 ≡ length f.label % 256 = cc in
    let rest : e.label ++ x ≡ f.label ++ y = cc in
    let l : length e.label ≡ length f.label = omega (arith, hi, lo) in
    let s = same_front e.label f.label x y l rest in
    ((λ i. record { name = r.0 i; label = s.0 i }), s.1)

front_one : (e f : Entry) (bytes x y : List ℕ) → IsFront e bytes x → IsFront f bytes y → (e ≡ f) × (x ≡ y)
front_one e f bytes x y h k = one_front e f x y (sym h.is ∙ k.is)

-- no entry stands at the front of no bytes
no_front : (e : Entry) (rest : List ℕ) → IsFront e [] rest → ⊥
no_front e rest h = let n = ap length h.is in let m = length-append (entry_bytes e) rest in let l = length-entry e in absurd (omega (arith, n, m, l))

-- what the reading says where an entry stands at the front
abbrev Rest : (g : Grammar) → ℕ → List Entry → Entry → List ℕ → Answer → Type 0
Rest g o before e r b =
    ((IsItemName e.name → ⊥) × (b ≡ BadName (length before))) ⊎
    ((IsItemName e.name × IsIn e.name (names_of_entries before) × (b ≡ NameTwice (length before))) ⊎
    ((IsItemName e.name × (IsIn e.name (names_of_entries before) → ⊥) × (IsLabelBytes g e.label → ⊥) × (b ≡ BadLabel (length before))) ⊎
    (IsItemName e.name × (IsIn e.name (names_of_entries before) → ⊥) × IsLabelBytes g e.label × ReadsFrom g (o + length (entry_bytes e)) (before ++ e ∷ []) r b)))

read_on : (g : Grammar) {o : ℕ} {before : List Entry} {bytes : List ℕ} {b : Answer} → ReadsFrom g o before bytes b → (e : Entry) (r : List ℕ) → IsFront e bytes r → Rest g o before e r b
read_on g at_end e r h = absurd (no_front e r h)
read_on g (cut n none) e r h = absurd (none e r h)
read_on g (bad_name {bytes = bytes} {rest = x} f k n) e r h =
    let q = front_one f e bytes x r k h in inl ((λ z. n (subst (λ (w : Entry). IsItemName w.name) (sym q.0) z)), refl)
read_on g (name_twice {before = before} {bytes = bytes} {rest = x} f k n t) e r h =
    let q = front_one f e bytes x r k h in
    inr (inl (subst (λ (w : Entry). IsItemName w.name) q.0 n, subst (λ (w : Entry). IsIn w.name (names_of_entries before)) q.0 t, refl))
read_on g (bad_label {before = before} {bytes = bytes} {rest = x} f k n t l) e r h =
    let q = front_one f e bytes x r k h in
    inr (inr (inl (subst (λ (w : Entry). IsItemName w.name) q.0 n, subst (λ (w : Entry). IsIn w.name (names_of_entries before) → ⊥) q.0 t, subst (λ (w : Entry). IsLabelBytes g w.label → ⊥) q.0 l, refl)))
read_on g {o = o} (whole {before = before} {bytes = bytes} {rest = x} {a = b} f k n t l w) e r h =
    let q = front_one f e bytes x r k h in
    inr (inr (inr (
      subst (λ (w : Entry). IsItemName w.name) q.0 n,
      subst (λ (w : Entry). IsIn w.name (names_of_entries before) → ⊥) q.0 t,
      subst (λ (w : Entry). IsLabelBytes g w.label) q.0 l,
      subst (λ z. ReadsFrom g (o + length (entry_bytes e)) (before ++ e ∷ []) z b) q.1 (subst (λ (z : Entry). ReadsFrom g (o + length (entry_bytes z)) (before ++ z ∷ []) x b) q.0 w),
    )))

-- the reading of bytes where no entry stands at the front
read_nothing : (g : Grammar) {o : ℕ} {before : List Entry} {bytes : List ℕ} {b : Answer} → ReadsFrom g o before bytes b → ((e : Entry) (rest : List ℕ) → IsFront e bytes rest → ⊥) → bytes ≢ [] → b ≡ Truncated o
read_nothing g at_end none n = absurd (n refl)
read_nothing g (cut m none') none n = refl
read_nothing g (bad_name {rest = r} e k m) none n = absurd (none e r k)
read_nothing g (name_twice {rest = r} e k m t) none n = absurd (none e r k)
read_nothing g (bad_label {rest = r} e k m t l) none n = absurd (none e r k)
read_nothing g (whole {rest = r} e k m t l w) none n = absurd (none e r k)

-- the reading of no bytes
read_end : (g : Grammar) {o : ℕ} {before : List Entry} {bytes : List ℕ} {b : Answer} → ReadsFrom g o before bytes b → bytes ≡ [] → b ≡ Accepted before
read_end g at_end q = refl
read_end g (cut n none) q = absurd (n q)
read_end g (bad_name {rest = r} e k m) q = absurd (no_front e r (subst (λ z. IsFront e z r) q k))
read_end g (name_twice {rest = r} e k m t) q = absurd (no_front e r (subst (λ z. IsFront e z r) q k))
read_end g (bad_label {rest = r} e k m t l) q = absurd (no_front e r (subst (λ z. IsFront e z r) q k))
read_end g (whole {rest = r} e k m t l w) q = absurd (no_front e r (subst (λ z. IsFront e z r) q k))

-- entries are read in one way
one_read : (g : Grammar) {o : ℕ} {before : List Entry} {bytes : List ℕ} {a : Answer} → ReadsFrom g o before bytes a → (b : Answer) → ReadsFrom g o before bytes b → a ≡ b
one_read g at_end b x = sym (read_end g x refl)
one_read g (cut n h) b x = sym (read_nothing g x h n)
one_read g (bad_name {rest = r} e h n) b x =
    ⊎_elim (λ q. sym q.1) (λ w. ⊎_elim (λ q. absurd (n q.0)) (λ w. ⊎_elim (λ q. absurd (n q.0)) (λ q. absurd (n q.0)) w) w) (read_on g x e r h)
one_read g (name_twice {rest = r} e h n t) b x =
    ⊎_elim (λ q. absurd (q.0 n)) (λ w. ⊎_elim (λ q. sym q.2) (λ w. ⊎_elim (λ q. absurd (q.1 t)) (λ q. absurd (q.1 t)) w) w) (read_on g x e r h)
one_read g (bad_label {rest = r} e h n t l) b x =
    ⊎_elim (λ q. absurd (q.0 n)) (λ w. ⊎_elim (λ q. absurd (t q.1)) (λ w. ⊎_elim (λ q. sym q.3) (λ q. absurd (l q.2)) w) w) (read_on g x e r h)
one_read g (whole {rest = r} e h n t l w) b x =
    ⊎_elim (λ q. absurd (q.0 n)) (λ v. ⊎_elim (λ q. absurd (t q.1)) (λ v. ⊎_elim (λ q. absurd (q.2 l)) (λ q. one_read g w b q.3) v) v) (read_on g x e r h)

-- a digest has 32 bytes, and so the head 36
pub length-head : (digest : List ℕ) → length digest ≡ 32 → length (head_bytes digest) ≡ 36
length-head digest l = omega (arith, length-append (codes "WFL1") digest, l)

-- one head stands at a front
same_head : (d e x y : List ℕ) → length d ≡ 32 → length e ≡ 32 → head_bytes d ++ x ≡ head_bytes e ++ y → (d ≡ e) × (x ≡ y)
same_head d e x y ld le q =
    let w : codes "WFL1" ++ (d ++ x) ≡ codes "WFL1" ++ (e ++ y) = sym (append_assoc (codes "WFL1") d x) ∙ (q ∙ append_assoc (codes "WFL1") e y) in
    same_front d e x y (ld ∙ sym le) (append_cancel_left (codes "WFL1") (d ++ x) (e ++ y) w)

pub one_reading_law : OneReadingLaw
one_reading_law g digests bytes a b x y = go x y
  where
    long : (d rest : List ℕ) → length d ≡ 32 → bytes ≡ head_bytes d ++ rest → length bytes < 36 → ⊥
    long d rest l q h = absurd (omega (arith, ap length q, length-append (head_bytes d) rest, length-head d l))

    starts : (d rest : List ℕ) → bytes ≡ head_bytes d ++ rest → bytes ≡ codes "WFL1" ++ (d ++ rest)
    starts d rest q = q ∙ append_assoc (codes "WFL1") d rest

    go : {a b : Answer} → Opens g digests bytes a → Opens g digests bytes b → a ≡ b
    go (short h) (short k) = refl
    go (short h) (other_start k) = refl
    go (short h) (other_digest f r l q n) = absurd (long f r l q h)
    go (short h) (head f r i l q w) = absurd (long f r l q h)
    go (other_start h) (short k) = refl
    go (other_start h) (other_start k) = refl
    go (other_start h) (other_digest f r l q n) = absurd (h (f ++ r) (starts f r q))
    go (other_start h) (head f r i l q w) = absurd (h (f ++ r) (starts f r q))
    go (other_digest f r l q n) (short k) = absurd (long f r l q k)
    go (other_digest f r l q n) (other_start k) = absurd (k (f ++ r) (starts f r q))
    go (other_digest f r l q n) (other_digest f' r' l' q' n') = refl
    go (other_digest f r l q n) (head f' r' i' l' q' w') = absurd (n (subst (λ z. IsIn z digests) (sym (same_head f f' r r' l l' (sym q ∙ q')).0) i'))
    go (head f r i l q w) (short k) = absurd (long f r l q k)
    go (head f r i l q w) (other_start k) = absurd (k (f ++ r) (starts f r q))
    go (head f r i l q w) (other_digest f' r' l' q' n') = absurd (n' (subst (λ z. IsIn z digests) (same_head f f' r r' l l' (sym q ∙ q')).0 i))
    go {b = b} (head f r i l q w) (head f' r' i' l' q' w') =
        let e = (same_head f f' r r' l l' (sym q ∙ q')).1 in one_read g w b (subst (λ z. ReadsFrom g 36 [] z b) (sym e) w')
