-- Bits begin with a code, or with none; and they are padding, or not.
use Rattle.std.proofs.Common.{◌≡◌, ◌⊎◌, ℕ, suc, ◌+◌, ◌*◌, ◌^◌, ◌≤◌, Bool, true, false, cond, List, [], ◌∷◌, ◌++◌, length, take, drop, replicate, refl, sym, ap, ◌∙◌, inl, inr, ⊎_elim, arith, append_assoc, length-append}
use Rattle.std.proofs.lemmas.Bool.{cases_lt}
use Rattle.std.proofs.lemmas.List.{length-take-le, take-append-drop}
use Rattle.std.proofs.lemmas.Nat.{pow_pos}
use Rattle.bit_pack.specs.Bits.{number}
use Rattle.bit_pack.specs.Gamma.{gamma, Begins, HasNoCode}
use Rattle.bit_pack.proofs.Fronts.{same_zeros}
use Rattle.bit_pack.proofs.Numbers.{number-cons}
use Rattle.bit_pack.proofs.Codes.{gamma_is, spelling_law}
use Rattle.bit_pack.proofs.CodesRead.{no_code_left}

-- a one stands behind some zeros
abbrev pub HasOne : List Bool → Type 0
HasOne bits = (z : ℕ) × (x : List Bool) × (bits ≡ replicate z false ++ true ∷ x)

-- bits have a first one, or all are zeros
pub one_or_zeros : (bits : List Bool) → HasOne bits ⊎ (bits ≡ replicate (length bits) false)
one_or_zeros [] = inr refl
one_or_zeros (true ∷ bits) = inl (0, bits, refl)
one_or_zeros (false ∷ bits) =
    ⊎_elim (λ r. inl (suc r.0, r.1, ap (λ x. false ∷ x) r.2)) (λ e. inr (ap (λ x. false ∷ x) e)) (one_or_zeros bits)

-- the first one and the bits behind it begin with a code, where there are as many as zeros before
code_behind : (bits : List Bool) (z : ℕ) (x : List Bool) → bits ≡ replicate z false ++ true ∷ x → z ≤ length x → Begins bits (number (true ∷ take z x)) (drop z x)
code_behind bits z x e l =
    let long = length-take-le z x l in
    let spelt : replicate z false ++ true ∷ take z x ≡ gamma (number (true ∷ take z x)) = ap (λ k. replicate k false ++ true ∷ take z x) (sym long) ∙ spelling_law (take z x) in
    record {
      from_one = let k : number (true ∷ take z x) ≡ cond true 1 0 * 2 ^ length (take z x) + number (take z x) = number-cons true (take z x) in let p = pow_pos (length (take z x)) in omega arith;
      is = e ∙ (ap (λ y. replicate z false ++ true ∷ y) (sym (take-append-drop z x)) ∙ (sym (append_assoc (replicate z false) (true ∷ take z x) (drop z x)) ∙ ap (λ y. y ++ drop z x) spelt));
    }

-- bits begin with the code of a number, or with none
pub code_or_none : (bits : List Bool) → ((n : ℕ) × (left : List Bool) × Begins bits n left) ⊎ HasNoCode bits
code_or_none bits = ⊎_elim by_one (λ e. inr (no_code_left bits (length bits) e)) (one_or_zeros bits)
  where
    by_one : HasOne bits → ((n : ℕ) × (left : List Bool) × Begins bits n left) ⊎ HasNoCode bits
    by_one r = ⊎_elim
        (λ l. inr (λ n left h e. let s = gamma_is n h left in let same = same_zeros r.0 (length s.0) r.1 (s.0 ++ left) (sym r.2 ∙ (e ∙ s.3)) in let m = ap length same.1 in let k = length-append s.0 left in let z = same.0 in absurd (omega arith)))
        (λ l. inl (number (true ∷ take r.0 r.1), drop r.0 r.1, code_behind bits r.0 r.1 r.2 l))
        (cases_lt (length r.1) r.0)
