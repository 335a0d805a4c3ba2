-- The laws of matrices.
use Rattle.std.proofs.Common.{◌≡◌, ℕ, suc, ◌+◌, ◌↔◌, IsTrue, List, [], ◌∷◌, length, get_or, refl, sym, ap, ◌∙◌, inl, inr, subst, arith}
use Rattle.std.specs.Int.{bit_at}
use Rattle.std.proofs.lemmas.Bool.{cases_lt}
use Rattle.std.proofs.lemmas.Nat.Bits.{bit_at-lt, same_from_bits}
use Rattle.bool_mat.specs.Matrix.{Matrix, IsMatrix, has, Joined, Power, IsPower}
use Rattle.bool_mat.specs.Laws.{SameLaw, OneProductLaw, AssociativeLaw, RowLaw, TwiceTransposedLaw, TransposeLaw, PowerSumLaw, CommuteLaw}
use Rattle.bool_mat.proofs.Rows.{has_gives, has_from}
use Rattle.bool_mat.proofs.Relations.{Same, same_refl, same_sym, same_trans, then_same, then_assoc, power_add, power_one}

-- rows with the same columns are equal
pub row_same : (a b : ℕ) → ((j : ℕ) → IsTrue (has a j) ↔ IsTrue (has b j)) → a ≡ b
row_same a b h = same_from_bits a b bit
  where
    bit : (j : ℕ) → bit_at a j ≡ bit_at b j
    bit j =
        let la = bit_at-lt a j in
        let lb = bit_at-lt b j in
        elim (cases_lt 0 (bit_at a j)) [
          | inl x ↦ let one : bit_at a j ≡ 1 = omega arith in one ∙ sym (has_gives b j ((h j).0 (has_from a j one)))
          | inr x ↦ elim (cases_lt 0 (bit_at b j)) [
            | inl y ↦ let one : bit_at b j ≡ 1 = omega arith in has_gives a j ((h j).1 (has_from b j one)) ∙ sym one
            | inr y ↦ omega arith
          ]
        ]

rows_same : (xs ys : List ℕ) → length xs ≡ length ys → ((i j : ℕ) → IsTrue (has (get_or xs i 0) j) ↔ IsTrue (has (get_or ys i 0) j)) → xs ≡ ys
rows_same [] [] e h = refl
rows_same [] (y ∷ ys) e h = absurd (omega arith)
rows_same (x ∷ xs) [] e h = absurd (omega arith)
rows_same (x ∷ xs) (y ∷ ys) e h =
    let e' : length xs ≡ length ys = omega arith in
    ap (λ z. z ∷ xs) (row_same x y (h 0)) ∙ ap (λ zs. y ∷ zs) (rows_same xs ys e' (λ i. h (suc i)))

pub same_law : SameLaw
same_law a b ma mb r c h =
    ap (λ (z : List ℕ). let m : Matrix = record { rows = z; columns = a.columns } in m) (rows_same a.rows b.rows r h) ∙ ap (λ (n : ℕ). let m : Matrix = record { rows = b.rows; columns = n } in m) c

pub associative_law : AssociativeLaw
associative_law a b c ab bc x y p q r s =
    let rp = p.rows in let rq = q.rows in let rs = s.rows in
    let columns : x.columns ≡ y.columns = q.columns ∙ (sym r.columns ∙ sym s.columns) in
    same_law x y q.is_matrix s.is_matrix (omega arith) columns
    (same_trans q.pairs (same_trans (then_same p.pairs (same_refl (Joined c))) (same_trans (then_assoc (Joined a) (Joined b) (Joined c)) (same_sym (same_trans s.pairs (then_same (same_refl (Joined a)) r.pairs))))))

pub power_sum_law : PowerSumLaw
power_sum_law a p q r m n hp hq hr =
    record {
      is_matrix = hr.is_matrix;
      rows = hr.rows ∙ hp.rows;
      columns = hr.columns ∙ hq.columns;
      pairs = same_trans hr.pairs (same_trans (then_same hp.pairs hq.pairs) (same_sym (power_add (Joined a) m n)));
    }

pub transpose_law : TransposeLaw
transpose_law a b p a' b' p' hp ha hb ht =
    record {
      is_matrix = ht.is_matrix;
      rows = ht.rows ∙ (hp.columns ∙ sym hb.rows);
      columns = ht.columns ∙ (hp.rows ∙ sym ha.columns);
      pairs = λ k i. (
        (λ h. let t = (hp.pairs i k).0 ((ht.pairs k i).0 h) in (t.0, (hb.pairs k t.0).1 t.2, (ha.pairs t.0 i).1 t.1)),
        λ h. (ht.pairs k i).1 ((hp.pairs i k).1 (h.0, (ha.pairs h.0 i).0 h.2, (hb.pairs k h.0).0 h.1)),
      );
    }

-- a matrix is its own first power
pub power_first : (a : Matrix) → IsMatrix a → IsPower a 1 a
power_first a m = record { is_matrix = m; rows = refl; columns = refl; pairs = same_sym (power_one (Joined a)) }

pub one_product_law : OneProductLaw
one_product_law a b p q hp hq = same_law p q hp.is_matrix hq.is_matrix (hp.rows ∙ sym hq.rows) (hp.columns ∙ sym hq.columns) (same_trans hp.pairs (same_sym hq.pairs))

pub row_law : RowLaw
row_law row middle last a b p hp hm hl k = (
  (λ t. let s = (hl k).0 t in let r = (hm s.0).0 s.1 in (r.0, r.1, (hp.pairs r.0 k).1 (s.0, r.2, s.2))),
  λ q. let t = (hp.pairs q.0 k).0 q.2 in (hl k).1 (t.0, (hm t.0).1 (q.0, q.1, t.1), t.2),
)

pub twice_transposed_law : TwiceTransposedLaw
twice_transposed_law a t u ha ht hu =
    same_law u a hu.is_matrix ha (hu.rows ∙ ht.columns) (hu.columns ∙ ht.rows)
    (λ i j. ((λ h. (ht.pairs j i).0 ((hu.pairs i j).0 h)), λ h. (hu.pairs i j).1 ((ht.pairs j i).1 h)))

pub commute_law : CommuteLaw
commute_law a p q r s m n hp hq hr hs =
    let x = power_sum_law a p q r m n hp hq hr in
    let y = power_sum_law a q p s n m hq hp hs in
    let e : n + m ≡ m + n = omega arith in
    let z : Same (Joined s) (Power (Joined a) (m + n)) = subst (λ w. Same (Joined s) (Power (Joined a) w)) e y.pairs in
    same_law r s x.is_matrix y.is_matrix (x.rows ∙ sym y.rows) (x.columns ∙ sym y.columns) (same_trans x.pairs (same_sym z))
