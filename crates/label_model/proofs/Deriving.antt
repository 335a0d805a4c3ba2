-- What a module derives as it is computed is what the definition names.
use Rattle.std.proofs.Common.{◌≡◌, ℕ, zero, suc, ◌<◌, ◌≤◌, Bool, true, false, cond, eqb, List, [], ◌∷◌, length, refl, sym, subst, inl, inr, ⊎_elim, arith}
use Rattle.std.proofs.lemmas.Bool.{eqb-true, eq-eqb, or_cases, or_left, or_right}
use Rattle.wf_model.specs.Lists.{IsIn, AllDiffer, some, numbers_from, Walk, here, onward}
use Rattle.wf_model.specs.Grammar.{Grammar, head_of, body_of}
use Rattle.wf_model.specs.WellFormed.{IsWellFormed}
use Rattle.wf_model.specs.Proper.{Makes, Derives}
use Rattle.wf_model.proofs.Lists.{in_flat_map, in_flat_map_from, some_from, some_gives}
use Rattle.wf_model.proofs.Level.{in_numbers, numbers_in}
use Rattle.wf_model.proofs.Going.{made_below}
use Rattle.wf_model.proofs.NumberLists.{length-numbers, in_or_not}
use Rattle.label_model.specs.Continuing.{makes, derives_within, derives}
use Rattle.label_model.specs.ContinuingLaws.{DerivesLaw}
use Rattle.label_model.proofs.Differing.{no_more}

pub if_head : {A : Type 0} (x : A) (xs : List A) (t : Bool) → IsIn x (cond t xs []) → IsIn x xs × (t ≡ true)
if_head x xs true h = (h, refl)
if_head x xs false h = absurd h

pub head_if : {A : Type 0} (x : A) (xs : List A) (t : Bool) → IsIn x xs → t ≡ true → IsIn x (cond t xs [])
head_if x xs t h e = subst (λ z. IsIn x (cond z xs [])) (sym e) h

pub makes_gives : (g : Grammar) (a b : ℕ) → IsIn b (makes g a) → Makes g a b
makes_gives g a b h =
    let r = in_flat_map_from (λ p. cond (eqb (head_of g p) a) (body_of g p) []) b (numbers_from 0 (length g.productions)) h in
    let q = if_head b (body_of g r.0) (eqb (head_of g r.0) a) r.2 in
    let i : r.0 < length g.productions = let z = in_numbers r.0 0 (length g.productions) r.1 in omega arith in
    (r.0, (i, eqb-true (head_of g r.0) a q.1), q.0)

pub makes_from : (g : Grammar) (a b : ℕ) → Makes g a b → IsIn b (makes g a)
makes_from g a b h =
    let i = h.1.0 in
    in_flat_map (λ p. cond (eqb (head_of g p) a) (body_of g p) []) h.0 b (numbers_from 0 (length g.productions)) (numbers_in h.0 0 (length g.productions) (omega arith) (omega arith))
    (head_if b (body_of g h.0) (eqb (head_of g h.0) a) h.2 (eq-eqb (head_of g h.0) a h.1.1))

within_sound : (g : Grammar) (n a b : ℕ) → derives_within g n a b ≡ true → Derives g a b
unfolding derives_within
within_sound g zero a b h = subst (λ z. Derives g a z) (eqb-true a b h) here
within_sound g (suc n) a b h =
    ⊎_elim (λ e. subst (λ z. Derives g a z) (eqb-true a b e) here)
    (λ s. let r = some_gives (λ k. derives_within g n k b) (makes g a) s in onward (makes_gives g a r.0 r.1) (within_sound g n r.0 b r.2))
    (or_cases (eqb a b) (some (λ k. derives_within g n k b) (makes g a)) h)

pub derives_gives : (g : Grammar) (a b : ℕ) → derives g a b ≡ true → Derives g a b
unfolding derives
derives_gives g a b h = within_sound g (length g.modules) a b h

-- from a through the list to b
IsTrail : Grammar → ℕ → ℕ → List ℕ → Type 0
IsTrail g b a [] = a ≡ b
IsTrail g b a (k ∷ ks) = Makes g a k × IsTrail g b k ks

trail_within : (g : Grammar) (b : ℕ) (ks : List ℕ) (a n : ℕ) → IsTrail g b a ks → length ks ≤ n → derives_within g n a b ≡ true
unfolding IsTrail derives_within
trail_within g b [] a zero h l = eq-eqb a b h
trail_within g b [] a (suc n) h l = or_left (eqb a b) _ (eq-eqb a b h)
trail_within g b (k ∷ ks) a zero h l = absurd (omega arith)
trail_within g b (k ∷ ks) a (suc n) h l =
    or_right (eqb a b) (some (λ k. derives_within g n k b) (makes g a)) (some_from (λ k. derives_within g n k b) k (makes g a) (makes_from g a k h.0) (trail_within g b ks k n h.1 (omega arith)))

-- a trail on which no module stands twice
record IsSimple (g : Grammar) (b a : ℕ) (ks : List ℕ) : Type 0 where
  trail : IsTrail g b a ks
  differ : AllDiffer (a ∷ ks)

cut : (g : Grammar) (b : ℕ) (ks : List ℕ) (y a : ℕ) → IsIn a (y ∷ ks) → IsSimple g b y ks → (js : List ℕ) × IsSimple g b a js
unfolding IsTrail
cut g b ks y a (inl e) s = (ks, subst (λ z. IsSimple g b z ks) (sym e) s)
cut g b [] y a (inr h) s = absurd h
cut g b (k ∷ ks) y a (inr h) s = cut g b ks k a h (record { trail = s.trail.1; differ = s.differ.1 })

simple : (g : Grammar) {a b : ℕ} → Walk (Makes g) a b → (ks : List ℕ) × IsSimple g b a ks
unfolding IsTrail
simple g here = ([], record { trail = refl; differ = ((λ h. h), tt) })
simple g {b = b} (onward {x = x} {y = y} r w) =
    let s = simple g w in
    ⊎_elim (λ i. cut g b s.0 y x i s.1) (λ n. (y ∷ s.0, record { trail = (r, s.1.trail); differ = (n, s.1.differ) })) (in_or_not x (y ∷ s.0))

trail_small : (g : Grammar) → IsWellFormed g → (b : ℕ) (ks : List ℕ) (a : ℕ) → IsTrail g b a ks → (k : ℕ) → IsIn k ks → k < length g.modules
unfolding IsTrail
trail_small g wf b [] a h k i = absurd i
trail_small g wf b (j ∷ ks) a h k (inl e) = subst (λ z. z < length g.modules) (sym e) (made_below g wf a j h.0)
trail_small g wf b (j ∷ ks) a h k (inr i) = trail_small g wf b ks j h.1 k i

pub derives_from : (g : Grammar) → IsWellFormed g → (a b : ℕ) → Derives g a b → derives g a b ≡ true
unfolding derives
derives_from g wf a b w =
    let s = simple g w in
    let small = trail_small g wf b s.0 a s.1.trail in
    let l = no_more s.0 (numbers_from 0 (length g.modules)) s.1.differ.1 (λ k i. let z = small k i in numbers_in k 0 (length g.modules) (omega arith) (omega arith)) in
    trail_within g b s.0 a (length g.modules) s.1.trail (omega (arith, l, length-numbers 0 (length g.modules)))

pub derives_law : DerivesLaw
derives_law g wf a b = ((λ h. derives_gives g a b h), (λ h. derives_from g wf a b h))
