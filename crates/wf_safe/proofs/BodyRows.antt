-- Rows that are made bit by bit.
use Rattle.std.proofs.Common.{◌≡◌, ◌↔◌, ℕ, ◌+◌, ◌<◌, ◌^◌, IsTrue, List, [], ◌∷◌, ◌++◌, length, get_or, bit_or, sym, ap, ◌∙◌, subst, inl, inr, ⊎_elim, arith}
use Rattle.std.proofs.Math.Seq.{get_or-append_seam}
use Rattle.std.proofs.lemmas.List.{get_or_append_left}
use Rattle.std.proofs.lemmas.Nat.{or_lt, pow_pos, pow_below}
use Rattle.std.proofs.lemmas.Bool.{cases_eq}
use Rattle.bool_mat.specs.Matrix.{has}
use Rattle.bool_mat.proofs.Rows.{has_none, has_or}

-- the row has those of the first n columns that a property holds of, and no others
pub record IsRowOf (P : ℕ → Type 0) (n row : ℕ) : Type 0 where
  pub columns : (k : ℕ) → IsTrue (has row k) ↔ ((k < n) × P k)
  pub within : row < 2 ^ n

module _ (P : ℕ → Type 0) where
  pub row_none : IsRowOf P 0 0
  row_none = record { columns = λ k. ((λ t. absurd (has_none k t)), λ p. absurd (let l = p.0 in omega arith)); within = pow_pos 0 }

  pub row_in : (n row one : ℕ) → IsRowOf P n row → P n → ((k : ℕ) → IsTrue (has one k) ↔ (k ≡ n)) → one ≡ 2 ^ n → IsRowOf P (n + 1) (bit_or row one)
  row_in n row one r t o w =
      let grows : 2 ^ n < 2 ^ (n + 1) = pow_below n (n + 1) (omega arith) in
      let small = r.within in
      let row_small : row < 2 ^ (n + 1) = omega arith in
      let one_small : one < 2 ^ (n + 1) = omega arith in
      record {
        columns = λ k. (
          (λ h. ⊎_elim
              (λ a. let p = (r.columns k).0 a in let b = p.0 in let l : k < n + 1 = omega arith in (l, p.1))
              (λ a. let e : k ≡ n = (o k).0 a in let l : k < n + 1 = omega arith in (l, subst P (sym e) t))
              ((has_or row one k).0 h)),
          λ p. (has_or row one k).1 (⊎_elim
              (λ e. inr ((o k).1 e))
              (λ e. let b = p.0 in let l : k < n = omega arith in inl ((r.columns k).1 (l, p.1)))
              (cases_eq k n)),
        );
        within = or_lt (n + 1) row one row_small one_small;
      }

  pub row_out : (n row : ℕ) → IsRowOf P n row → (P n → ⊥) → IsRowOf P (n + 1) row
  row_out n row r f =
      let grows : 2 ^ n < 2 ^ (n + 1) = pow_below n (n + 1) (omega arith) in
      let small = r.within in
      record {
        columns = λ k. (
          (λ h. let p = (r.columns k).0 h in let b = p.0 in let l : k < n + 1 = omega arith in (l, p.1)),
          λ p. ⊎_elim
              (λ e. absurd (f (subst P e p.1)))
              (λ e. let b = p.0 in let l : k < n = omega arith in (r.columns k).1 (l, p.1))
              (cases_eq k n),
        );
        within = omega arith;
      }

-- one row more
pub rows_more : (R : ℕ → ℕ → Type 0) (columns n row : ℕ) (rows new : List ℕ) → length rows ≡ n → new ≡ rows ++ row ∷ [] →
    ((i o : ℕ) → i < n → o < columns → IsTrue (has (get_or rows i 0) o) ↔ R i o) → ((o : ℕ) → o < columns → IsTrue (has row o) ↔ R n o) →
    (i o : ℕ) → i < n + 1 → o < columns → IsTrue (has (get_or new i 0) o) ↔ R i o
rows_more R columns n row rows new count e h here i o l m =
    elim (cases_eq i n) [
      | inl s ↦ let last : get_or new i 0 ≡ row = ap (λ l. get_or l i 0) e ∙ (ap (λ k. get_or (rows ++ row ∷ []) k 0) (s ∙ sym count) ∙ get_or-append_seam rows row [] 0) in
          subst (λ w. IsTrue (has w o) ↔ R i o) (sym last) (subst (λ k. IsTrue (has row o) ↔ R k o) (sym s) (here o m))
      | inr d ↦ let low : i < n = omega arith in
          let within : i < length rows = omega arith in
          let first : get_or new i 0 ≡ get_or rows i 0 = ap (λ l. get_or l i 0) e ∙ get_or_append_left rows (row ∷ []) 0 i within in
          subst (λ w. IsTrue (has w o) ↔ R i o) (sym first) (h i o low m)
    ]
