-- Worked row products, computed.
use Rattle.std.proofs.Common.{◌≡◌, ℕ, zero, suc, ◌/◌, ◌%◌, ◌<◌, ◌↔◌, Bool, true, false, cond, IsTrue, List, [], ◌∷◌, map, length, get_or, bit_or, eqb, refl, sym, ◌∙◌, subst, inl, inr, ⊎_elim, arith}
use Rattle.std.proofs.lemmas.Bool.Decides.{Decides-eqb}
use Rattle.std.proofs.lemmas.Nat.Bits.{bit_at-suc, bit_at_lowest}
use Rattle.bool_mat.specs.Matrix.{Matrix, has, IsMatrix, Joined, Then, IsUnion, IsProduct}
use Rattle.bool_mat.proofs.Rows.{has_gives, has_from, has_none, has_or}
use Rattle.decode_model.specs.Rows.{Through}
use Rattle.decode_model.specs.Examples.{three, first, second, round_down, round_up, OrdersAreWorked}

-- the union of the rows that a row selects, computed
abbrev union_of : ℕ → List ℕ → ℕ
union_of row [] = 0
union_of row (r ∷ rs) = bit_or (cond (eqb (row % 2) 1) r 0) (union_of (row / 2) rs)

-- the union of the rows that a row selects, in words
abbrev Picks : ℕ → List ℕ → ℕ → Type 0
Picks row rows k = (j : ℕ) × IsTrue (has row j) × IsTrue (has (get_or rows j 0) k)

has_lowest : (row : ℕ) → IsTrue (has row 0) ↔ IsTrue (eqb (row % 2) 1)
has_lowest row = (
  (λ h. (Decides-eqb (row % 2) 1).1 (sym (bit_at_lowest row) ∙ has_gives row 0 h)),
  λ h. has_from row 0 (bit_at_lowest row ∙ (Decides-eqb (row % 2) 1).0 h),
)

has_half : (row j : ℕ) → IsTrue (has row (suc j)) ↔ IsTrue (has (row / 2) j)
has_half row j = (
  (λ h. has_from (row / 2) j (sym (bit_at-suc row j) ∙ has_gives row (suc j) h)),
  λ h. has_from row (suc j) (bit_at-suc row j ∙ has_gives (row / 2) j h),
)

-- the lowest column selects the first row
picks_first : (b : Bool) (r k : ℕ) → IsTrue (has (cond b r 0) k) → IsTrue b × IsTrue (has r k)
picks_first true r k h = (refl, h)
picks_first false r k h = absurd (has_none k h)

first_picked : (b : Bool) (r k : ℕ) → IsTrue b → IsTrue (has r k) → IsTrue (has (cond b r 0) k)
first_picked b r k e h = subst (λ z. IsTrue (has (cond z r 0) k)) (sym e) h

union_picks : (rows : List ℕ) (row k : ℕ) → IsTrue (has (union_of row rows) k) → Picks row rows k
union_picks [] row k h = absurd (has_none k h)
union_picks (r ∷ rs) row k h =
    ⊎_elim
    (λ x. let p = picks_first (eqb (row % 2) 1) r k x in (0, (has_lowest row).1 p.0, p.1))
    (λ x. let p = union_picks rs (row / 2) k x in (suc p.0, (has_half row p.0).1 p.1, p.2))
    ((has_or (cond (eqb (row % 2) 1) r 0) (union_of (row / 2) rs) k).0 h)

picks_union : (rows : List ℕ) (row k j : ℕ) → IsTrue (has row j) → IsTrue (has (get_or rows j 0) k) → IsTrue (has (union_of row rows) k)
picks_union [] row k j a b = absurd (has_none k b)
picks_union (r ∷ rs) row k zero a b = (has_or (cond (eqb (row % 2) 1) r 0) (union_of (row / 2) rs) k).1 (inl (first_picked (eqb (row % 2) 1) r k ((has_lowest row).0 a) b))
picks_union (r ∷ rs) row k (suc j) a b = (has_or (cond (eqb (row % 2) 1) r 0) (union_of (row / 2) rs) k).1 (inr (picks_union rs (row / 2) k j ((has_half row j).0 a) b))

union_is : (row : ℕ) (m : Matrix) → IsUnion row m (union_of row m.rows)
union_is row m k = (union_picks m.rows row k, λ h. picks_union m.rows row k h.0 h.1 h.2)

-- a row is the row times the matrix, if it is computed so
computed : (row : ℕ) (m : Matrix) (next : ℕ) → union_of row m.rows ≡ next → IsUnion row m next
computed row m next e = subst (λ z. IsUnion row m z) e (union_is row m)

two_rows : (a b : Matrix) (row next last : ℕ) → union_of row a.rows ≡ next → union_of next b.rows ≡ last → Through (a ∷ b ∷ []) row last
two_rows a b row next last e f = (next, computed row a next e, (last, computed next b last f, refl))

three_rows : (a b c : Matrix) (row next later last : ℕ) → union_of row a.rows ≡ next → union_of next b.rows ≡ later → union_of later c.rows ≡ last → Through (a ∷ b ∷ c ∷ []) row last
three_rows a b c row next later last e f g = (next, computed row a next e, two_rows b c next later last f g)

-- the rows of a product are those of the first factor times the second
product_rows : (b : Matrix) (rows : List ℕ) (i k : ℕ) → IsTrue (has (get_or (map (λ r. union_of r b.rows) rows) i 0) k) ↔ Picks (get_or rows i 0) b.rows k
product_rows b [] i k = ((λ h. absurd (has_none k h)), λ h. absurd (has_none h.0 h.1))
product_rows b (r ∷ rs) zero k = union_is r b k
product_rows b (r ∷ rs) (suc i) k = product_rows b rs i k

product_is : (a b p : Matrix) → IsMatrix p → length p.rows ≡ length a.rows → p.columns ≡ b.columns → map (λ r. union_of r b.rows) a.rows ≡ p.rows → IsProduct a b p
product_is a b p is rows columns e =
    record { is_matrix = is; rows = rows; columns = columns; pairs = λ i k. subst (λ z. IsTrue (has (get_or z i 0) k) ↔ Then (Joined a) (Joined b) i k) e (product_rows b a.rows i k) }

three_is_matrix : (a b c : ℕ) → a < 8 → b < 8 → c < 8 → IsMatrix (three a b c)
three_is_matrix a b c x y z = record { few_rows = omega arith; few_columns = omega arith; within = within }
  where
    within : (k d : ℕ) → k < 3 → get_or (a ∷ b ∷ c ∷ []) k d < 8
    within zero d l = x
    within (suc zero) d l = y
    within (suc (suc zero)) d l = z
    within (suc (suc (suc k))) d l = absurd (omega arith)

pub orders_are_worked : OrdersAreWorked
orders_are_worked =
    record {
      down_product = product_is first second round_down (three_is_matrix 4 1 2 (omega arith) (omega arith) (omega arith)) refl refl refl;
      up_product = product_is second first round_up (three_is_matrix 2 4 1 (omega arith) (omega arith) (omega arith)) refl refl refl;
      steps_down = three_rows first second first 1 2 4 4 refl refl refl;
      round_then_rest = two_rows round_down first 1 4 4 refl refl;
      rest_then_round = two_rows first round_down 1 2 1 refl refl;
      turned_then_rest = two_rows round_up first 1 2 1 refl refl;
      steps_up = three_rows first second first 4 4 2 1 refl refl refl;
      rest_then_round_up = two_rows first round_up 4 4 1 refl refl;
      round_then_rest_up = two_rows round_up first 4 1 2 refl refl;
      rest_then_turned = two_rows first round_down 4 4 2 refl refl;
    }
