-- Bytes are a label of a grammar, or not.
use Rattle.std.proofs.Common.{◌≡◌, ◌≢◌, ℕ, zero, suc, ◌+◌, ◌-◌, ◌^◌, ◌<◌, ◌≤◌, Bool, true, false, List, [], ◌∷◌, ◌++◌, length, replicate, Option, Some, None, refl, sym, ap, ◌∙◌, subst, inl, inr, ⊎_elim, arith, length-append}
use Rattle.std.proofs.lemmas.List.{length-replicate}
use Rattle.std.proofs.lemmas.Option.{same_Some}
use Rattle.wf_model.specs.Grammar.{Grammar, production_at, inputs_of, outputs_of, head_of, body_of, alternative_of, IsProductionOf}
use Rattle.wf_model.specs.Reach.{Step, target_of}
use Rattle.wf_model.specs.Linear.{IsStepOf}
use Rattle.wf_model.proofs.Deciding.{Either, either_same, either_not, either_both, number_either, below_either, within_either, some_below}
use Rattle.bit_pack.specs.Bits.{bits_of}
use Rattle.bit_pack.specs.Gamma.{gamma}
use Rattle.bit_pack.proofs.Fronts.{no_one}
use Rattle.bit_pack.proofs.Codes.{prefix_free_law}
use Rattle.bit_pack.proofs.CodeOrNone.{one_or_zeros, code_or_none}
use Rattle.label_model.specs.Continuing.{continuing, after}
use Rattle.label_model.specs.Reading.{IsLabelBytes, IsPadding, IsPlaceLeft, IsPartLeft, IsChainLeft, IsPortLeft, IsLabelLeft}
use Rattle.label_model.proofs.ReadFromFront.{reading_law}
use Rattle.label_model.proofs.ReadByParts.{parts_law}

-- bits are padding, or not
padding_either : (bits : List Bool) → Either (IsPadding bits)
padding_either bits = ⊎_elim
    (λ r. inr (λ h. no_one r.0 h.0 r.1 (sym r.2 ∙ h.2)))
    (λ e. either_same (λ few. (length bits, few, e)) (λ h. let n = ap length h.2 in let k = length-replicate h.0 false in let few = h.1 in omega arith) (below_either (length bits) 8))
    (one_or_zeros bits)

-- bits begin with the code of a number with one added, and others are left
abbrev pub BeginsWith : List Bool → Type 0
BeginsWith bits = (n : ℕ) × (left : List Bool) × (bits ≡ gamma (n + 1) ++ left)

pub code_either : (bits : List Bool) → Either (BeginsWith bits)
code_either bits = ⊎_elim
    (λ r. let from_one = r.2.from_one in let e : r.0 ≡ (r.0 - 1) + 1 = omega arith in inl (r.0 - 1, r.1, r.2.is ∙ ap (λ n. gamma n ++ r.1) e))
    (λ none. inr (λ h. none (h.0 + 1) h.1 (omega arith) h.2))
    (code_or_none bits)

-- the code at the front is one
one_code : (bits : List Bool) (m n : ℕ) (x y : List Bool) → bits ≡ gamma (m + 1) ++ x → bits ≡ gamma (n + 1) ++ y → (m ≡ n) × (x ≡ y)
one_code bits m n x y p q = let r = prefix_free_law (m + 1) (n + 1) x y (omega arith) (omega arith) (sym p ∙ q) in (omega (arith, r.0), r.1)

-- a bit and two codes are at the front
abbrev HasTwoCodes : Bool → List Bool → Type 0
HasTwoCodes b bits = (m : ℕ) × (n : ℕ) × (rest : List Bool) × (bits ≡ gamma (m + 1) ++ (gamma (n + 1) ++ rest))

two_codes_either : (b : Bool) (bits : List Bool) → Either (HasTwoCodes b bits)
two_codes_either b bits = ⊎_elim
    (λ r. either_same (λ s. (r.0, s.0, s.1, r.2 ∙ ap (λ x. gamma (r.0 + 1) ++ x) s.2)) (λ h. (h.1, h.2, (one_code bits r.0 h.0 r.1 (gamma (h.1 + 1) ++ h.2) r.2 h.3).1)) (code_either r.1))
    (λ none. inr (λ h. none (h.0, gamma (h.1 + 1) ++ h.2, h.3)))
    (code_either bits)

-- what follows two codes is shorter
rest_shorter : (m n : ℕ) (bits rest : List Bool) → bits ≡ gamma (m + 1) ++ (gamma (n + 1) ++ rest) → length rest ≤ length bits
rest_shorter m n bits rest e =
    let a = ap length e in let b = length-append (gamma (m + 1)) (gamma (n + 1) ++ rest) in let c = length-append (gamma (n + 1)) rest in omega arith

-- what follows one code is not longer
pub left_shorter : (n : ℕ) (bits left : List Bool) → bits ≡ gamma (n + 1) ++ left → length left ≤ length bits
left_shorter n bits left e = let a = ap length e in let b = length-append (gamma (n + 1)) left in omega arith

-- steps are the same or not
pub step_either : (s t : Step) → Either (s ≡ t)
step_either s t = either_same (λ h i. record { production = h.0 i; position = h.1 i }) (λ e. (ap (λ (x : Step). x.production) e, ap (λ (x : Step). x.position) e)) (either_both (number_either s.production t.production) (number_either s.position t.position))

module _ (g : Grammar) where
  continuing_either : (k : ℕ) (t : Step) → Either (continuing g k ≡ Some t)
  continuing_either k t = go (continuing g k) refl
    where
      go : (o : Option Step) → continuing g k ≡ o → Either (continuing g k ≡ Some t)
      go None none = inr (λ e. let q = sym none ∙ e in absurd (cc))
      go (Some s) is = either_same (λ e. is ∙ ap Some e) (λ e. same_Some s t (sym is ∙ e)) (step_either s t)

  pub step_of_either : (m : ℕ) (s : Step) → Either (IsStepOf g m s)
  step_of_either m s = either_same
      (λ h. record { in_range = h.0; head = h.1; position = h.2 })
      (λ h. (h.in_range, h.head, h.position))
      (three (below_either s.production (length g.productions)) (number_either (head_of g s.production) m) (below_either s.position (length (body_of g s.production))))
    where
      three : {A B C : Type 0} → Either A → Either B → Either C → Either (A × B × C)
      three (inl a) (inl b) (inl c) = inl (a, b, c)
      three (inl a) (inl b) (inr n) = inr (λ h. n h.2)
      three (inl a) (inr n) c = inr (λ h. n h.1)
      three (inr n) b c = inr (λ h. n h.0)

  -- a step of k with these numbers that does not continue, and leaves a place
  abbrev LeavesBy : ℕ → ℕ → ℕ → List Bool → Type 0
  LeavesBy k a i rest = (t : Step) × IsStepOf g k t × (alternative_of g t.production ≡ a) × (t.position ≡ i) × (continuing g k ≢ Some t) × IsPlaceLeft g (target_of g t) rest

  abbrev LeavesAt : ℕ → ℕ → ℕ → List Bool → ℕ → Type 0
  LeavesAt k a i rest p = (IsStepOf g k (record { production = p; position = i }) × ((alternative_of g p ≡ a) × (continuing g k ≡ Some (record { production = p; position = i }) → ⊥))) × IsPlaceLeft g (target_of g (record { production = p; position = i })) rest

  leaves_either : (k a i : ℕ) (rest : List Bool) → ((m : ℕ) → Either (IsPlaceLeft g m rest)) → Either (LeavesBy k a i rest)
  leaves_either k a i rest next = either_same to from (some_below (LeavesAt k a i rest) (length g.productions) (λ p l. either_both (either_both (step_of_either k (at p)) (either_both (number_either (alternative_of g p) a) (either_not (continuing_either k (at p))))) (next (target_of g (at p)))))
    where
      at : ℕ → Step
      at p = record { production = p; position = i }

      to : (p : ℕ) × (p < length g.productions) × LeavesAt k a i rest p → LeavesBy k a i rest
      to r = (at r.0, r.2.0.0, r.2.0.1.0, refl, r.2.0.1.1, r.2.1)

      from : LeavesBy k a i rest → (p : ℕ) × (p < length g.productions) × LeavesAt k a i rest p
      from h =
          let same : h.0 ≡ at h.0.production = λ j. record { production = h.0.production; position = h.3 j } in
          (h.0.production, h.1.in_range, ((subst (IsStepOf g k) same h.1, (h.2, subst (λ t. continuing g k ≡ Some t → ⊥) same h.4)), subst (λ t. IsPlaceLeft g (target_of g t) rest) same h.5))

  -- an edge of a production of k with these numbers, and padding
  abbrev EndsBy : ℕ → ℕ → ℕ → List Bool → Type 0
  EndsBy k a e rest = (p : ℕ) × IsProductionOf g p k × (alternative_of g p ≡ a) × (e < length (production_at g p).edges) × IsPadding rest

  abbrev EndsAt : ℕ → ℕ → ℕ → ℕ → Type 0
  EndsAt k a e p = (head_of g p ≡ k) × ((alternative_of g p ≡ a) × (e < length (production_at g p).edges))

  ends_either : (k a e : ℕ) (rest : List Bool) → Either (EndsBy k a e rest)
  ends_either k a e rest = either_same
      (λ h. (h.0.0, (h.0.1, h.0.2.0), h.0.2.1.0, h.0.2.1.1, h.1))
      (λ h. ((h.0, h.1.0, (h.1.1, (h.2, h.3))), h.4))
      (either_both (some_below (EndsAt k a e) (length g.productions) (λ p l. either_both (number_either (head_of g p) k) (either_both (number_either (alternative_of g p) a) (below_either e (length (production_at g p).edges))))) (padding_either rest))

  -- a step or an ending is left, or not, where it is told of fewer bits whether a place is left
  part_either : (k : ℕ) (bits : List Bool) → ((rest : List Bool) → length rest < length bits → (m : ℕ) → Either (IsPlaceLeft g m rest)) → Either (IsPartLeft g k bits)
  part_either k [] next = inr (λ h. let c = parts_law.cut g k [] h in let e = c.4 in absurd (cc))
  part_either k (b ∷ bits) next = ⊎_elim
      (λ r. subst (λ x. Either (IsPartLeft g k (b ∷ x))) (sym r.3) (by_bit b r.0 r.1 r.2 (λ m. next r.2 (let l = rest_shorter r.0 r.1 bits r.2 r.3 in omega arith) m)))
      (λ none. inr (λ h. let c = parts_law.cut g k (b ∷ bits) h in let e : bits ≡ gamma (c.1 + 1) ++ (gamma (c.2 + 1) ++ c.3) = let q = c.4 in cc in none (c.1, c.2, c.3, e)))
      (two_codes_either b bits)
    where
      by_bit : (b : Bool) (a i : ℕ) (rest : List Bool) → ((m : ℕ) → Either (IsPlaceLeft g m rest)) → Either (IsPartLeft g k (b ∷ (gamma (a + 1) ++ (gamma (i + 1) ++ rest))))
      by_bit true a i rest next = let law = parts_law.a_step g k a i rest in either_same law.1 law.0 (leaves_either k a i rest next)
      by_bit false a e rest next = let law = parts_law.an_ending g k a e rest in either_same law.1 law.0 (ends_either k a e rest)

  -- so of a chain number
  chain_either : (m : ℕ) (bits : List Bool) → ((rest : List Bool) → length rest < length bits → (k : ℕ) → Either (IsPlaceLeft g k rest)) → Either (IsChainLeft g m bits)
  chain_either m bits next = go (continuing g m) refl
    where
      counted : continuing g m ≢ None → BeginsWith bits → Either (IsChainLeft g m bits)
      counted on r =
          let law = parts_law.a_chain g m r.0 r.1 on in
          let part = part_either (after g r.0 m) r.1 (λ rest l k. next rest (let s = left_shorter r.0 bits r.1 r.2 in omega arith) k) in
          subst (λ x. Either (IsChainLeft g m x)) (sym r.2) (either_same law.1 law.0 (either_both (within_either (r.0 + 1) (2 ^ 24)) part))

      go : (o : Option Step) → continuing g m ≡ o → Either (IsChainLeft g m bits)
      go None none = let law = parts_law.no_chain g m bits none in either_same law.1 law.0 (part_either m bits next)
      go (Some s) is =
          let on : continuing g m ≢ None = λ e. let q = sym is ∙ e in absurd (cc) in
          ⊎_elim (counted on) (λ none. inr (λ h. none (parts_law.chain_cut g m bits on h))) (code_either bits)

  -- a place is left, or not
  place_within : (fuel : ℕ) (bits : List Bool) → length bits < fuel → (m : ℕ) → Either (IsPlaceLeft g m bits)
  place_within zero bits l m = absurd (omega arith)
  place_within (suc fuel) bits l m = let law = reading_law.place g m bits in either_same law.1 law.0 (chain_either m bits (λ rest s k. place_within fuel rest (omega arith) k))

  place_either : (bits : List Bool) (m : ℕ) → Either (IsPlaceLeft g m bits)
  place_either bits m = place_within (suc (length bits)) bits (omega arith) m

  port_either : (ports : ℕ) (bits : List Bool) → Either (IsPortLeft ports bits)
  port_either ports bits = ⊎_elim
      (λ r. either_same
      (λ h. record { port = r.0; in_range = h.0; padding = h.1.0; few = h.1.1; is = r.2 ∙ ap (λ x. gamma (r.0 + 1) ++ x) h.1.2 })
      (λ h. let same = one_code bits r.0 h.port r.1 (replicate h.padding false) r.2 h.is in (subst (λ n. n < ports) (sym same.0) h.in_range, (h.padding, h.few, same.1)))
      (either_both (below_either r.0 ports) (padding_either r.1)))
      (λ none. inr (λ h. none (h.port, replicate h.padding false, h.is)))
      (code_either bits)

  label_left_either : (bits : List Bool) → Either (IsLabelLeft g bits)
  label_left_either [] = inr (λ h. h)
  label_left_either (true ∷ bits) = place_either bits g.start
  label_left_either (false ∷ []) = inr (λ h. h)
  label_left_either (false ∷ false ∷ bits) = port_either (inputs_of g g.start) bits
  label_left_either (false ∷ true ∷ bits) = port_either (outputs_of g g.start) bits

  -- bytes are a label of the grammar, or not
  pub label_either : (bytes : List ℕ) → Either (IsLabelBytes g bytes)
  label_either bytes = let law = reading_law.label g bytes in either_same law.1 law.0 (label_left_either (bits_of bytes))
