-- The squares up to the first that is its own square make the power.
use Rattle.std.proofs.Common.{◌≡◌, ℕ, zero, suc, ◌+◌, ◌-◌, ◌*◌, ◌/◌, ◌%◌, ◌^◌, ◌<◌, ◌≤◌, ◌⊎◌, inl, inr, Bool, true, false, cond, IsTrue, List, [], ◌∷◌, ◌++◌, get_or, bytes_eq, refl, sym, ap, ◌∙◌, subst, arith}
use Rattle.std.specs.Prelude.{◌==◌}
use Rattle.std.proofs.Math.Nat.{two-pow-succ}
use Rattle.std.proofs.Math.Dec.{eqb-suc-zero}
use Rattle.std.proofs.lemmas.Nat.{div-add-mod'}
use Rattle.std.proofs.lemmas.Bool.{cases_lt}
use Rattle.bool_mat.specs.Matrix.{Matrix, has, Joined, Power, Means}
use Rattle.bool_mat.proofs.Relations.{Same, same_refl, same_sym, same_trans, then_same, then_id_right, power_add}
use Rattle.wf_model.proofs.Lists.{same_bytes}
use Rattle.decode_model.specs.Rows.{Along}
use Rattle.decode_model.specs.Legs.{squares, still_from, still, squares_to}
use Rattle.decode_model.proofs.RowProducts.{along_append, along_one}
use Rattle.decode_model.proofs.Squares.{squares_power}

still_from_zero : (square : ℕ → Matrix) (k : ℕ) → still_from square k zero ≡ k
unfolding still_from
still_from_zero square k = refl

still_from_suc : (square : ℕ → Matrix) (k n : ℕ) → still_from square k (suc n) ≡ cond (bytes_eq (square k).rows (square (suc k)).rows) k (still_from square (suc k) n)
unfolding still_from
still_from_suc square k n = refl

-- one square is tried, of those up to the last
module _ (square : ℕ → Matrix) (k last : ℕ) where
  step : k < last → still_from square k (last - k) ≡ cond (bytes_eq (square k).rows (square (k + 1)).rows) k (still_from square (k + 1) (last - (k + 1)))
  step l =
      let e : last - k ≡ suc (last - (k + 1)) = omega arith in
      let s : suc k ≡ k + 1 = omega arith in
      ap (still_from square k) e ∙ (still_from_suc square k (last - (k + 1)) ∙ ap (λ z. cond (bytes_eq (square k).rows (square z).rows) k (still_from square z (last - (k + 1)))) s)

  -- it is its own square
  pub still_here : k < last → bytes_eq (square k).rows (square (k + 1)).rows ≡ true → still_from square k (last - k) ≡ k
  still_here l e = step l ∙ ap (λ b. cond b k (still_from square (k + 1) (last - (k + 1)))) e

  -- it is not, and the next is tried
  pub still_later : k < last → bytes_eq (square k).rows (square (k + 1)).rows ≡ false → still_from square k (last - k) ≡ still_from square (k + 1) (last - (k + 1))
  still_later l e = step l ∙ ap (λ b. cond b k (still_from square (k + 1) (last - (k + 1)))) e

  -- it is the last
  pub still_last : k ≡ last → still_from square k (last - k) ≡ k
  still_last l = let e : last - k ≡ zero = omega arith in ap (still_from square k) e ∙ still_from_zero square k

-- there the next square has the same rows, or it is the last
record IsStill (square : ℕ → Matrix) (last at : ℕ) : Type 0 where
  within : at ≤ last
  same : (at ≡ last) ⊎ ((square at).rows ≡ (square (suc at)).rows)

still_is : (square : ℕ → Matrix) (k n : ℕ) → IsStill square (k + n) (still_from square k n)
still_is square k zero = subst (IsStill square (k + zero)) (sym (still_from_zero square k)) (record { within = omega arith; same = inl (omega arith) })
still_is square k (suc n) = subst (IsStill square (k + suc n)) (sym (still_from_suc square k n)) (by (bytes_eq (square k).rows (square (suc k)).rows) refl (still_is square (suc k) n))
  where
    by : (b : Bool) → bytes_eq (square k).rows (square (suc k)).rows ≡ b → IsStill square (suc k + n) (still_from square (suc k) n) → IsStill square (k + suc n) (cond b k (still_from square (suc k) n))
    by true e later = record { within = omega arith; same = inr (same_bytes (square k).rows (square (suc k)).rows e) }
    by false e later =
        let s : suc k + n ≡ k + suc n = omega arith in
        subst (λ z. IsStill square z (still_from square (suc k) n)) s later

pub still_few : (square : ℕ → Matrix) → still square ≤ 23
still_few square = let w = (still_is square 0 23).within in omega arith

-- two matrices with the same rows join the same
joined_same : (a b : Matrix) → a.rows ≡ b.rows → Same (Joined a) (Joined b)
joined_same a b e i j = ((λ h. subst (λ (z : List ℕ). IsTrue (has (get_or z i 0) j)) e h), λ h. subst (λ (z : List ℕ). IsTrue (has (get_or z i 0) j)) (sym e) h)

-- a power that is its own square is each multiple of it
multiples : (R : ℕ → ℕ → Type 0) (n : ℕ) → Same (Power R (n + n)) (Power R n) → (t : ℕ) → Same (Power R (suc t * n)) (Power R n)
multiples R n own zero = let e : suc zero * n ≡ n = omega arith in subst (λ z. Same (Power R z) (Power R n)) (sym e) (same_refl (Power R n))
multiples R n own (suc t) =
    let e : suc (suc t) * n ≡ n + suc t * n = grind arith in
    subst (λ z. Same (Power R z) (Power R n)) (sym e)
    (same_trans (power_add R n (suc t * n)) (same_trans (then_same (same_refl (Power R n)) (multiples R n own t)) (same_trans (same_sym (power_add R n n)) own)))

module _ (square : ℕ → Matrix) (R : ℕ → ℕ → Type 0) (q : ℕ) (few : q < 2 ^ 24) (means : (k : ℕ) → k < 24 → Means (square k) (Power R (2 ^ k))) where
  -- the last square stands for a digit of its own
  last_only : (s t : ℕ) → s ≡ 23 → suc t * 2 ^ s ≤ q → Same (Joined (square s)) (Power R (suc t * 2 ^ s))
  last_only s zero e low = let p : suc zero * 2 ^ s ≡ 2 ^ s = omega arith in subst (λ z. Same (Joined (square s)) (Power R z)) (sym p) (means s (omega arith))
  last_only s (suc t) e low = let l : suc (suc t) * 2 ^ 23 ≤ q = subst (λ z. suc (suc t) * 2 ^ z ≤ q) e low in absurd (omega (arith, few))

  -- a square that is its own square stands for all higher digits
  any_more : (s t : ℕ) → s < 23 → (square s).rows ≡ (square (suc s)).rows → Same (Joined (square s)) (Power R (suc t * 2 ^ s))
  any_more s t l e =
      let own : Same (Power R (2 ^ suc s)) (Power R (2 ^ s)) = same_trans (same_sym (means (suc s) (omega arith))) (same_trans (same_sym (joined_same (square s) (square (suc s)) e)) (means s (omega arith))) in
      same_trans (means s (omega arith)) (same_sym (multiples R (2 ^ s) (subst (λ z. Same (Power R z) (Power R (2 ^ s))) (two-pow-succ s) own) t))

  higher : (s t : ℕ) → IsStill square 23 s → suc t * 2 ^ s ≤ q → Same (Joined (square s)) (Power R (suc t * 2 ^ s))
  higher s t is low = elim is.same [
    | inl e ↦ last_only s t e low
    | inr e ↦ elim (cases_lt s 23) [
      | inl l ↦ any_more s t l e
      | inr l ↦ let w = is.within in last_only s t (omega arith) low
    ]
  ]

  parts : (s h : ℕ) → IsStill square 23 s → q / 2 ^ s ≡ h → Same (Along (squares square q s ++ cond (h == 0) [] (square s ∷ []))) (Power R q)
  parts s zero is e =
      let f : zero * 2 ^ s + q % 2 ^ s ≡ q = ap (λ z. z * 2 ^ s + q % 2 ^ s) (sym e) ∙ div-add-mod' q (2 ^ s) in
      let whole : q % 2 ^ s ≡ q = omega arith in
      let w = is.within in
      same_trans (along_append (squares square q s) []) (same_trans (then_id_right (Along (squares square q s)))
      (subst (λ z. Same (Along (squares square q s)) (Power R z)) whole (squares_power square R q s (λ k l. means k (omega arith)))))
  parts s (suc t) is e =
      let f : suc t * 2 ^ s + q % 2 ^ s ≡ q = ap (λ z. z * 2 ^ s + q % 2 ^ s) (sym e) ∙ div-add-mod' q (2 ^ s) in
      let whole : q % 2 ^ s + suc t * 2 ^ s ≡ q = omega arith in
      let w = is.within in
      subst (λ b. Same (Along (squares square q s ++ cond b [] (square s ∷ []))) (Power R q)) (sym (eqb-suc-zero t)) (subst (λ z. Same (Along (squares square q s ++ square s ∷ [])) (Power R z)) whole
      (same_trans (along_append (squares square q s) (square s ∷ []))
      (same_trans (then_same (squares_power square R q s (λ k l. means k (omega arith))) (same_trans (along_one (square s)) (higher s t is (omega arith))))
      (same_sym (power_add R (q % 2 ^ s) (suc t * 2 ^ s))))))

  -- they give the power
  pub squares_to_power : Same (Along (squares_to square q)) (Power R q)
  squares_to_power = parts (still square) (q / 2 ^ still square) (still_is square 0 23) refl
