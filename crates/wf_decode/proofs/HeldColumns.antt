-- Columns of the way down that are held: a row meets one exactly if row products lead from it to the output.
use Rattle.std.proofs.Common.{◌≡◌, ℕ, zero, suc, ◌+◌, ◌^◌, ◌<◌, ◌↔◌, IsTrue, Bool, true, false, not, eqb, min, List, [], ◌∷◌, ◌++◌, get_or, bit_or, bit_and, refl, sym, ap, ◌∙◌, subst, inl, inr, ⊎_elim, arith, append_assoc, true≢false}
use Rattle.std.specs.Int.{bit_at, w64, trailing_zeros}
use mir.Val.{bits}
use Rattle.std.proofs.lemmas.Bool.{cases_Bool, cases_eq, eqb-true, eq-eqb}
use Rattle.std.proofs.lemmas.Nat.{and_le_l}
use Rattle.std.proofs.lemmas.Nat.Bits.{bit_at_and, bit_at-lt, bit_at-zero, bit_at-trailing_zeros}
use Rattle.bool_mat.specs.Matrix.{Matrix, has, Joined, IsUnion}
use Rattle.bool_mat.proofs.Rows.{has_gives, has_from, has_none, has_below, has_or}
use Rattle.decode_model.specs.Rows.{Through, Along}
use Rattle.decode_model.specs.Legs.{leg_down, way_down}
use Rattle.decode_model.proofs.RowProducts.{through_law, along_append, along_one}
use Rattle.wf_vlabel.specs.Seen.{ViewLabelSeen, matrices_of}
use Rattle.wf_decode.specs.declared.leg.Leg.{Leg as LegHeld}
use Rattle.wf_decode.specs.HeldLegs.{leg_of, legs_of}
use Rattle.wf_decode.specs.HeldWays.{IsColumnDown, Meet, LeadsInto, IsColumnBefore}
use Rattle.wf_decode.specs.Products.{matrices_below}

-- `a & b` is not 0 exactly if the rows have a column in common
pub common_column : (a b : ℕ) → a < 2 ^ 64 → IsTrue (not (eqb (bit_and a b) 0)) ↔ Meet a b
common_column a b low = (
  (λ n. let h = some_from (bit_and a b) n in
      let small = and_le_l a b in
      let l : bit_and a b < 2 ^ bits w64 = omega arith in
      let t = trailing_zeros w64 (bit_and a b) in
      let one = (bit_at-trailing_zeros w64 (bit_and a b) h l).1 in
      let both = bit_at_and a b t in
      let x = bit_at-lt a t in
      let y = bit_at-lt b t in
      let p : bit_at a t ≡ 1 = omega arith in
      let q : bit_at b t ≡ 1 = omega arith in
      (t, has_from a t p, has_from b t q)),
  λ m. not_none (bit_and a b) (m.0) (bit_at_and a b m.0 ∙ (let p = has_gives a m.0 m.1 in let q = has_gives b m.0 m.2 in let e : min (bit_at a m.0) (bit_at b m.0) ≡ 1 = omega arith in e)),
)
  where
    some_from : (n : ℕ) → IsTrue (not (eqb n 0)) → 0 < n
    some_from zero h = absurd (true≢false (sym h ∙ ap not (eq-eqb 0 0 refl)))
    some_from (suc n) h = omega arith

    not_none : (n j : ℕ) → bit_at n j ≡ 1 → IsTrue (not (eqb n 0))
    not_none n j e = ⊎_elim
        (λ h. let z = bit_at-zero j in let w : bit_at n j ≡ bit_at 0 j = ap (λ m. bit_at m j) (eqb-true n 0 h) in absurd (omega arith))
        (λ h. ap not h)
        (cases_Bool (eqb n 0))

-- some row of these, of which the first has the number at, is selected and has column k
abbrev SelectsFrom : ℕ → ℕ → List ℕ → ℕ → Type 0
SelectsFrom row at rows k = (j : ℕ) × IsTrue (has row (at + j)) × IsTrue (has (get_or rows j 0) k)

-- the union of what a row selects of one row more
with_first : (row at r u : ℕ) (rows : List ℕ) → ((k : ℕ) → IsTrue (has u k) ↔ SelectsFrom row (at + 1) rows k) → (b : Bool) → has row at ≡ b → (w : ℕ) × ((k : ℕ) → IsTrue (has w k) ↔ SelectsFrom row at (r ∷ rows) k)
with_first row at r u rows h true e = (bit_or r u, λ k. ((λ t. ⊎_elim (first k) (later k) ((has_or r u k).0 t)), λ s. back k s.0 s.1 s.2))
  where
    first : (k : ℕ) → IsTrue (has r k) → SelectsFrom row at (r ∷ rows) k
    first k t = let n : at ≡ at + 0 = omega arith in (0, subst (λ z. IsTrue (has row z)) n e, t)

    later : (k : ℕ) → IsTrue (has u k) → SelectsFrom row at (r ∷ rows) k
    later k t = let s = (h k).0 t in let n : at + 1 + s.0 ≡ at + suc s.0 = omega arith in (suc s.0, subst (λ z. IsTrue (has row z)) n s.1, s.2)

    back : (k j : ℕ) → IsTrue (has row (at + j)) → IsTrue (has (get_or (r ∷ rows) j 0) k) → IsTrue (has (bit_or r u) k)
    back k zero x y = (has_or r u k).1 (inl y)
    back k (suc j) x y = let n : at + suc j ≡ at + 1 + j = omega arith in (has_or r u k).1 (inr ((h k).1 (j, subst (λ z. IsTrue (has row z)) n x, y)))
with_first row at r u rows h false e = (u, λ k. ((λ t. later k t), λ s. back k s.0 s.1 s.2))
  where
    later : (k : ℕ) → IsTrue (has u k) → SelectsFrom row at (r ∷ rows) k
    later k t = let s = (h k).0 t in let n : at + 1 + s.0 ≡ at + suc s.0 = omega arith in (suc s.0, subst (λ z. IsTrue (has row z)) n s.1, s.2)

    back : (k j : ℕ) → IsTrue (has row (at + j)) → IsTrue (has (get_or (r ∷ rows) j 0) k) → IsTrue (has u k)
    back k zero x y = let n : at + 0 ≡ at = omega arith in absurd (true≢false (sym (subst (λ z. IsTrue (has row z)) n x) ∙ e))
    back k (suc j) x y = let n : at + suc j ≡ at + 1 + j = omega arith in (h k).1 (j, subst (λ z. IsTrue (has row z)) n x, y)

union_from : (row at : ℕ) (rows : List ℕ) → (u : ℕ) × ((k : ℕ) → IsTrue (has u k) ↔ SelectsFrom row at rows k)
union_from row at [] = (0, λ k. ((λ t. absurd (has_none k t)), λ s. absurd (has_none k s.2)))
union_from row at (r ∷ rows) = let u = union_from row (at + 1) rows in with_first row at r u.0 rows u.1 (has row at) refl

-- each row and matrix have a row product
union_exists : (row : ℕ) (m : Matrix) → (u : ℕ) × IsUnion row m u
union_exists row m = let u = union_from row 0 m.rows in (
  u.0,
  λ k. (
    (λ t. let s = (u.1 k).0 t in (s.0, subst (λ z. IsTrue (has row z)) (none s.0) s.1, s.2)),
    λ s. (u.1 k).1 (s.0, subst (λ z. IsTrue (has row z)) (sym (none s.0)) s.1, s.2),
  ),
)
  where
    none : (j : ℕ) → 0 + j ≡ j
    none j = omega arith

-- and so have a row and matrices, one after another
through_exists : (ms : List Matrix) (row : ℕ) → (last : ℕ) × Through ms row last
through_exists [] row = (row, refl)
through_exists (m ∷ ms) row = let u = union_exists row m in let r = through_exists ms u.0 in (r.0, (u.0, u.1, r.1))

same_bool : (a b : Bool) → IsTrue a ↔ IsTrue b → a ≡ b
same_bool true b h = sym (h.0 refl)
same_bool false true h = h.1 refl
same_bool false false h = refl

module _ (ms : List Matrix) (column o : ℕ) (is : (j : ℕ) → j < 64 → IsTrue (has column j) ↔ Along ms j o) where
  -- a row meets a column exactly if row products by the matrices behind it lead from it to the output
  pub met_bit : (row : ℕ) (met : Bool) → row < 2 ^ 64 → IsTrue met ↔ Meet row column → (last : ℕ) × Through ms row last × (met ≡ has last o)
  met_bit row met low h =
      let t = through_exists ms row in
      let law = through_law ms row t.0 t.1 o in (
        t.0,
        t.1,
        same_bool met (has t.0 o) (
          (λ x. let m = h.0 x in law.1 (m.0, m.1, (is m.0 (has_below row m.0 64 low m.1)).0 m.2)),
          λ x. let a = law.0 x in h.1 (a.0, a.1, (is a.0 (has_below row a.0 64 low a.1)).1 a.2),
        ),
      )

  -- the column before more matrices
  pub column_more : (more : List Matrix) (before : ℕ) → IsColumnBefore more column 64 before → (i : ℕ) → i < 64 → IsTrue (has before i) ↔ Along (more ++ ms) i o
  column_more more before b i low = (
    (λ x. let r = ((b.leads i).0 x).1 in (along_append more ms i o).1 (r.0, r.1, (is r.0 (b.within i r.0 low r.1)).0 r.2)),
    λ x. let a = (along_append more ms i o).0 x in (b.leads i).1 (low, (a.0, a.1, (is a.0 (b.within i a.0 low a.1)).1 a.2)),
  )

-- the column before one leg more
pub column_of_leg : (l : ViewLabelSeen) (leg : LegHeld) (legs : List LegHeld) (m o column before : ℕ) → IsColumnDown l legs m o column → IsColumnBefore (leg_down (matrices_of l) (leg_of l leg)) column 64 before → IsColumnDown l (leg ∷ legs) m o before
column_of_leg l leg legs m o column before is b =
    let v = matrices_of l in
    let one = leg_down v (leg_of l leg) in
    let e = append_assoc one (way_down v (legs_of l legs)) (v.full m ∷ []) in
    subst (λ z. (i : ℕ) → i < 64 → IsTrue (has before i) ↔ Along z i o) (sym e) (column_more (matrices_below l legs m) column o is one before b)

-- the column behind the last leg
pub column_of_none : (l : ViewLabelSeen) (m o column : ℕ) → ((i : ℕ) → IsTrue (has column i) ↔ Joined ((matrices_of l).full m) i o) → IsColumnDown l [] m o column
column_of_none l m o column h i low = let a = along_one ((matrices_of l).full m) i o in ((λ x. a.1 ((h i).0 x)), λ x. (h i).1 (a.0 x))

-- the input of this number, if matrices lead from it into a column
pub leads_one : (ms : List Matrix) (column input one below : ℕ) → ((k : ℕ) → IsTrue (has one k) ↔ (k ≡ input)) → Through ms one below → Meet below column ↔ LeadsInto ms column input
leads_one ms column input one below alone through = (
  (λ m. let a = (through_law ms one below through m.0).0 m.1 in (m.0, subst (λ z. Along ms z m.0) ((alone a.0).0 a.1) a.2, m.2)),
  λ s. (s.0, (through_law ms one below through s.0).1 (input, (alone input).1 refl, s.1), s.2),
)

pub leads_within : (ms : List Matrix) (input one below : ℕ) → ((k : ℕ) → IsTrue (has one k) ↔ (k ≡ input)) → Through ms one below → below < 2 ^ 64 → (j : ℕ) → Along ms input j → j < 64
leads_within ms input one below alone through low j a = has_below below j 64 low ((through_law ms one below through j).1 (input, (alone input).1 refl, a))

-- the columns before which matrices lead into a column, so far
pub before_none : (ms : List Matrix) (column : ℕ) → IsColumnBefore ms column 0 0
before_none ms column = record { leads = λ i. ((λ x. absurd (has_none i x)), λ p. absurd (omega arith)); within = λ i j h a. absurd (omega arith) }

pub before_more : (ms : List Matrix) (column n before one : ℕ) → IsColumnBefore ms column n before → ((i : ℕ) → IsTrue (has one i) ↔ ((i ≡ n) × LeadsInto ms column n)) → ((j : ℕ) → Along ms n j → j < 64) → IsColumnBefore ms column (n + 1) (bit_or before one)
before_more ms column n before one b h w = record {
  leads = λ i. (
    (λ x. ⊎_elim (λ y. let p = (b.leads i).0 y in let q = p.0 in let q' : i < n + 1 = omega arith in (q', p.1))
        (λ y. let p = (h i).0 y in let e = p.0 in let q : i < n + 1 = omega arith in (q, subst (LeadsInto ms column) (sym e) p.1)) ((has_or before one i).0 x)),
    λ p. (has_or before one i).1 (elim (cases_eq i n) [
      | inl e ↦ inr ((h i).1 (e, subst (LeadsInto ms column) e p.1))
      | inr d ↦ let q = p.0 in let q' : i < n = omega arith in inl ((b.leads i).1 (q', p.1))
    ]),
  );
  within = λ i j q a. elim (cases_eq i n) [
    | inl e ↦ w j (subst (λ z. Along ms z j) e a)
    | inr d ↦ let q' : i < n = omega arith in b.within i j q' a
  ];
}
