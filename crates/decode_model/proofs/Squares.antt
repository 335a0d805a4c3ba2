-- The squares for the binary digits of a number make the power.
use Rattle.std.proofs.Common.{◌≡◌, ℕ, zero, suc, ◌+◌, ◌*◌, ◌%◌, ◌^◌, ◌<◌, Bool, true, false, cond, IsTrue, [], ◌∷◌, ◌++◌, refl, sym, ap, ◌∙◌, subst, arith, true≢false}
use Rattle.std.specs.Int.{bit_at}
use Rattle.std.proofs.Math.Nat.{mod-lt}
use Rattle.std.proofs.lemmas.Nat.{mod-pow-add}
use Rattle.std.proofs.lemmas.Nat.Bits.{bit_at-lt}
use Rattle.bool_mat.specs.Matrix.{Matrix, has, Power, Means}
use Rattle.bool_mat.proofs.Relations.{Same, same_sym, same_trans, then_same, then_id_right, power_zero, power_add}
use Rattle.bool_mat.proofs.Rows.{has_gives, has_from}
use Rattle.decode_model.specs.Rows.{Along}
use Rattle.decode_model.specs.Legs.{squares}
use Rattle.decode_model.proofs.RowProducts.{along_append, along_one}

-- one binary digit more
digit_one : (q n : ℕ) → IsTrue (has q n) → q % 2 ^ suc n ≡ q % 2 ^ n + 2 ^ n
digit_one q n h =
    let b = has_gives q n h in
    let e : suc n ≡ 1 + n = omega arith in
    let m : q % 2 ^ (1 + n) ≡ bit_at q n * 2 ^ n + q % 2 ^ n = mod-pow-add q 1 n in
    ap (λ z. q % 2 ^ z) e ∙ (m ∙ (ap (λ z. z * 2 ^ n + q % 2 ^ n) b ∙ (let f : 1 * 2 ^ n + q % 2 ^ n ≡ q % 2 ^ n + 2 ^ n = omega arith in f)))

digit_zero : (q n : ℕ) → has q n ≡ false → q % 2 ^ suc n ≡ q % 2 ^ n
digit_zero q n h =
    let l = bit_at-lt q n in
    let b : bit_at q n ≡ 0 = zero_from (bit_at q n) l (λ o. true≢false (sym (has_from q n o) ∙ h)) in
    let e : suc n ≡ 1 + n = omega arith in
    let m : q % 2 ^ (1 + n) ≡ bit_at q n * 2 ^ n + q % 2 ^ n = mod-pow-add q 1 n in
    ap (λ z. q % 2 ^ z) e ∙ (m ∙ (ap (λ z. z * 2 ^ n + q % 2 ^ n) b ∙ (let f : 0 * 2 ^ n + q % 2 ^ n ≡ q % 2 ^ n = omega arith in f)))
  where
    zero_from : (b : ℕ) → b < 2 → (b ≡ 1 → ⊥) → b ≡ 0
    zero_from zero l n = refl
    zero_from (suc zero) l n = absurd (n refl)
    zero_from (suc (suc b)) l n = absurd (omega arith)

-- the squares for the digits of q give the power
pub squares_power : (square : ℕ → Matrix) (R : ℕ → ℕ → Type 0) (q n : ℕ) → ((k : ℕ) → k < n → Means (square k) (Power R (2 ^ k))) → Same (Along (squares square q n)) (Power R (q % 2 ^ n))
squares_power square R q zero h =
    let e : q % 2 ^ 0 ≡ 0 = (let l = mod-lt q {m = 1} (omega arith) in let z : q % 1 ≡ 0 = omega arith in z) in
    subst (λ z. Same (λ i j. i ≡ j) (Power R z)) (sym e) (same_sym (power_zero R))
squares_power square R q (suc n) h = go (squares_power square R q n (λ k l. h k (omega arith))) (h n (omega arith)) (has q n) refl
  where
    go : Same (Along (squares square q n)) (Power R (q % 2 ^ n)) → Means (square n) (Power R (2 ^ n)) → (b : Bool) → has q n ≡ b → Same (Along (squares square q n ++ cond (has q n) (square n ∷ []) [])) (Power R (q % 2 ^ suc n))
    go before here true e =
        subst (λ z. Same (Along (squares square q n ++ cond z (square n ∷ []) [])) (Power R (q % 2 ^ suc n))) (sym e)
        (subst (λ z. Same (Along (squares square q n ++ square n ∷ [])) (Power R z)) (sym (digit_one q n e))
        (same_trans (along_append (squares square q n) (square n ∷ [])) (same_trans (then_same before (same_trans (along_one (square n)) here)) (same_sym (power_add R (q % 2 ^ n) (2 ^ n))))))
    go before here false e =
        subst (λ z. Same (Along (squares square q n ++ cond z (square n ∷ []) [])) (Power R (q % 2 ^ suc n))) (sym e)
        (subst (λ z. Same (Along (squares square q n ++ [])) (Power R z)) (sym (digit_zero q n e))
        (same_trans (along_append (squares square q n) []) (same_trans (then_id_right (Along (squares square q n))) before)))
