-- Links of a body and its head: ends as they are read, and the head as a single position.
use Rattle.std.proofs.Common.{◌≡◌, ◌↔◌, ℕ, zero, suc, ◌<◌, ◌≤◌, Bool, true, false, IsTrue, List, [], ◌∷◌, get_or, map, refl, sym, ap, subst, ◌∙◌, inl, inr, arith, true≢false}
use Rattle.wf_model.specs.declared.body.Inner.{Inner as InnerHeld}
use Rattle.wf_model.specs.Lists.{IsIn, AllDiffer}
use Rattle.wf_model.specs.Grammar.{Inner}
use Rattle.wf_model.specs.Meaning.{inner_of}
use Rattle.wf_model.proofs.Lists.{in_map, in_map_from}
use Rattle.wf_form.specs.Ends.{IsPortOf}
use Rattle.wf_form.specs.Wiring.{in_head, AreSmall}

-- what holds of ends holds of them as they are read
pub read_as : (P : List Inner → Type 0) (seen made : List InnerHeld) (ends : List Inner) → seen ≡ made → map inner_of made ≡ ends → P ends → P (map inner_of seen)
read_as P seen made ends kept is h = subst P (sym (ap (map inner_of) kept ∙ is)) h

-- and the other way
pub seen_as : (P : List Inner → Type 0) (seen made : List InnerHeld) (ends : List Inner) → seen ≡ made → map inner_of made ≡ ends → P (map inner_of seen) → P ends
seen_as P seen made ends kept is h = subst P (ap (map inner_of) kept ∙ is) h

-- things that differ after a function differ before it
pub differ_before : {A B : Type 0} (f : A → B) (xs : List A) → AllDiffer (map f xs) → AllDiffer xs
differ_before f [] d = tt
differ_before f (x ∷ xs) d = (λ i. d.0 (in_map f x xs i), differ_before f xs d.1)

-- and the other way, where the function keeps them apart
pub differ_after : {A B : Type 0} (f : A → B) (xs : List A) → ((x y : A) → IsIn x xs → IsIn y xs → f x ≡ f y → x ≡ y) → AllDiffer xs → AllDiffer (map f xs)
differ_after f [] apart d = tt
differ_after f (x ∷ xs) apart d = (
  λ i. (let r = in_map_from f (f x) xs i in d.0 (subst (λ z. IsIn z xs) (sym (apart x r.0 (inl refl) (inr r.1) r.2)) r.1)),
  differ_after f xs (λ y z i j. apart y z (inr i) (inr j)) d.1,
)

-- numbers of a head's ports differ exactly if the ports do
pub heads_differ : (ks : List ℕ) → AllDiffer (map in_head ks) ↔ AllDiffer ks
heads_differ ks = (differ_before in_head ks, differ_after in_head ks (λ x y i j e. ap (λ (p : Inner). p.port) e))

-- each port of a head is met exactly if its number is
heads_met : (n : ℕ) (ks : List ℕ) → ((i : Inner) → IsPortOf (n ∷ []) i → IsIn i (map in_head ks)) ↔ ((k : ℕ) → k < n → IsIn k ks)
heads_met n ks = (
  λ h k l. (let r = in_map_from in_head (in_head k) ks (h (in_head k) l) in subst (λ j. IsIn j ks) (sym (ap (λ (p : Inner). p.port) r.2)) r.1),
  λ h i l. go i.position i.port l h,
)
  where
    go : (k p : ℕ) → p < get_or (n ∷ []) k 0 → ((j : ℕ) → j < n → IsIn j ks) → IsIn (record { position = k; port = p }) (map in_head ks)
    go zero p l h = in_map in_head p ks (h p l)
    go (suc k) p l h = absurd (omega arith)

-- a test of two things, of which the first does not hold
pub not_both : (a : Bool) (P Q : Type 0) → a ≡ false → (IsTrue a ↔ P) → IsTrue false ↔ (P × Q)
not_both a P Q bad h = (λ t. absurd (true≢false (sym t)), λ d. absurd (true≢false (sym (h.1 d.0) ∙ bad)))

-- and of which it does
pub and_then_both : (a b : Bool) (P Q : Type 0) → a ≡ true → (IsTrue a ↔ P) → (IsTrue b ↔ Q) → IsTrue b ↔ (P × Q)
and_then_both a b P Q good h k = (λ t. (h.0 good, k.0 t), λ d. k.1 d.1)

-- the ports of one side of a head are met, as they are read
pub head_side : (n m : ℕ) (ks : List ℕ) (seen made : List InnerHeld) (b : Bool) → n ≡ m → seen ≡ made → map inner_of made ≡ map in_head ks
    → (IsTrue b ↔ ((i : Inner) → IsPortOf (n ∷ []) i → IsIn i (map inner_of seen))) → IsTrue b ↔ ((k : ℕ) → k < m → IsIn k ks)
head_side n m ks seen made b as_many kept is h = (
  λ t. subst (λ z. (k : ℕ) → k < z → IsIn k ks) as_many ((heads_met n ks).0 (seen_as All seen made (map in_head ks) kept is (h.0 t))),
  λ all. h.1 (read_as All seen made (map in_head ks) kept is ((heads_met n ks).1 (subst (λ z. (k : ℕ) → k < z → IsIn k ks) (sym as_many) all))),
)
  where
    All : List Inner → Type 0
    All l = (i : Inner) → IsPortOf (n ∷ []) i → IsIn i l

-- numbers below a number of ports stand small in a head
pub small_heads : (n : ℕ) (ks : List ℕ) → n ≤ 64 → ((k : ℕ) → IsIn k ks → k < n) → AreSmall 1 (map in_head ks)
small_heads n ks few below i here =
    let r = in_map_from in_head i ks here in
    let l = below r.0 r.1 in
    let p : i.position ≡ 0 = ap (λ (z : Inner). z.position) r.2 in
    let q : i.port ≡ r.0 = ap (λ (z : Inner). z.port) r.2 in
    (omega arith, omega arith)
