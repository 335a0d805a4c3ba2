-- Decisions by ways that are held, and how these are made.
use Rattle.std.proofs.Common.{◌≡◌, ℕ, zero, suc, ◌+◌, ◌-◌, ◌*◌, ◌^◌, ◌<◌, ◌≤◌, ◌↔◌, IsTrue, Bool, false, eqb, List, [], ◌∷◌, length, get_or, drop, slice_set, replicate, refl, sym, ap, ◌∙◌, subst, inl, inr, arith, append_assoc, length-append, true≢false}
use Rattle.std.proofs.lemmas.Bool.{cases_eq, eq-eqb}
use Rattle.std.proofs.lemmas.Grind.{get_or_default_zero}
use Rattle.std.proofs.lemmas.List.{drop_more, drop_all, get_or-set_same, get_or-set_other, length-set, length-replicate, get_or-replicate}
use Rattle.bool_mat.specs.Matrix.{has, Joined}
use Rattle.decode_model.specs.Rows.{Progress}
use Rattle.decode_model.specs.Legs.{leg_down, leg_up, way_down, way_up}
use Rattle.wf_vlabel.specs.Seen.{ViewLabelSeen, matrices_of}
use Rattle.wf_decode.specs.declared.leg.Leg.{Leg as LegHeld}
use Rattle.wf_decode.specs.HeldLegs.{leg_of, legs_of}
use Rattle.wf_decode.specs.HeldWays.{IsRowUp, IsColumnDown, AreRowsUp, AreColumnsDown, AreRowsBehind, AreColumnsBehind, Meet, IsColumnBefore}
use Rattle.wf_decode.specs.Products.{IsRowAfter, IsBit, full_row_of, matrices_below}
use Rattle.wf_decode.proofs.Progressing.{through_append}
use Rattle.wf_decode.proofs.RowBits.{after_products, bit_after}
use Rattle.wf_decode.proofs.HeldColumns.{met_bit, column_of_leg, column_of_none}

-- there are ways where not none are told
pub some_held : (n : ℕ) (none : Bool) → none ≡ eqb n 0 → none ≡ false → 0 < n
some_held zero none e f = absurd (true≢false (sym (eq-eqb 0 0 refl) ∙ (sym e ∙ f)))
some_held (suc n) none e f = omega arith

module _ (l : ViewLabelSeen) (m : ℕ) where
  -- the row before one leg more
  row_more : (i : ℕ) (leg : LegHeld) (legs : List LegHeld) (row last start now : ℕ) → IsRowUp l legs m i row → Progress (leg_up (matrices_of l) (leg_of l leg)) row last start now → IsRowUp l (leg ∷ legs) m i last
  row_more i leg legs row last start now h p =
      let v = matrices_of l in
      through_append (way_up v (legs_of l legs)) (leg_up v (leg_of l leg)) (full_row_of l m i) row last h p.through

  -- no leg is left, and the row of the module is held
  pub row_of_none : (n : ℕ) (legs : List LegHeld) (i : ℕ) (rows : List ℕ) (start : ℕ) → AreRowsBehind l n legs m i rows → n ≡ length legs → IsRowAfter (way_up (matrices_of l) (legs_of l (drop n legs))) (full_row_of l m i) (get_or rows n 0) start start
  row_of_none n legs i rows start b e =
      let k = b.1.length_is in
      let same : drop n b.0 ≡ drop n legs = drop_all n b.0 (omega arith) ∙ sym (drop_all n legs (omega arith)) in
      record { through = subst (λ z. IsRowUp l z m i (get_or rows n 0)) same (b.2.row n (omega arith)); few = omega arith }

  -- up one leg, from the row behind it
  pub row_of_one : (n : ℕ) (legs : List LegHeld) (d : LegHeld) (i : ℕ) (rows : List ℕ) (last start now : ℕ) → AreRowsBehind l n legs m i rows → n < length legs →
      Progress (leg_up (matrices_of l) (leg_of l (get_or legs n d))) (get_or rows (n + 1) 0) last start now → IsRowAfter (way_up (matrices_of l) (legs_of l (drop n legs))) (full_row_of l m i) last start now
  row_of_one n legs d i rows last start now b low p =
      let v = matrices_of l in
      let k = b.1.length_is in
      let leg = get_or legs n d in
      let behind = subst (λ z. IsRowUp l z m i (get_or rows (n + 1) 0)) (sym b.1.behind) (b.2.row (n + 1) (omega arith)) in
      let c = p.counted in
      let many = length-append (way_up v (legs_of l (drop (n + 1) legs))) (leg_up v (leg_of l leg)) in
      subst (λ z. IsRowAfter (way_up v (legs_of l z)) (full_row_of l m i) last start now) (sym (drop_more legs n d low))
      (record { through = row_more i leg (drop (n + 1) legs) (get_or rows (n + 1) 0) last start now behind p; few = omega arith })

  -- whether a row meets the column behind the legs that are left
  bit_of_column : (legs : List LegHeld) (o column row start now : ℕ) (met : Bool) → IsColumnDown l legs m o column → row < 2 ^ 64 → IsTrue met ↔ Meet row column → start ≡ now → IsBit (matrices_below l legs m) row start now o met
  bit_of_column legs o column row start now met is low h e =
      let b = met_bit (matrices_below l legs m) column o is row met low h in
      record { last = b.0; after = record { through = b.1; few = omega arith }; bit = b.2 }

  pub column_of_end : (n : ℕ) (legs : List LegHeld) (o : ℕ) (columns : List ℕ) (row start : ℕ) (met : Bool) → AreColumnsBehind l n legs m o columns → n ≡ length legs →
      row < 2 ^ 64 → IsTrue met ↔ Meet row (get_or columns n 0) → IsBit (matrices_below l (drop n legs) m) row start start o met
  column_of_end n legs o columns row start met b e low h =
      let k = b.1.length_is in
      let same : drop n b.0 ≡ drop n legs = drop_all n b.0 (omega arith) ∙ sym (drop_all n legs (omega arith)) in
      bit_of_column (drop n legs) o (get_or columns n 0) row start start met (subst (λ z. IsColumnDown l z m o (get_or columns n 0)) same (b.2.column n (omega arith))) low h refl

  -- down one leg, to the column behind it
  pub column_of_one : (n : ℕ) (legs : List LegHeld) (d : LegHeld) (o : ℕ) (columns : List ℕ) (row below start now : ℕ) (met : Bool) → AreColumnsBehind l n legs m o columns → n < length legs →
      Progress (leg_down (matrices_of l) (leg_of l (get_or legs n d))) row below start now → below < 2 ^ 64 → IsTrue met ↔ Meet below (get_or columns (n + 1) 0) → IsBit (matrices_below l (drop n legs) m) row start now o met
  column_of_one n legs d o columns row below start now met b low p small h =
      let v = matrices_of l in
      let k = b.1.length_is in
      let one = leg_down v (leg_of l (get_or legs n d)) in
      let rest = drop (n + 1) legs in
      let behind = subst (λ z. IsColumnDown l z m o (get_or columns (n + 1) 0)) (sym b.1.behind) (b.2.column (n + 1) (omega arith)) in
      let bit = bit_after one (matrices_below l rest m) row below start now now o met (after_products one row below start now p) (bit_of_column rest o (get_or columns (n + 1) 0) below now now met behind small h refl) in
      subst (λ z. IsBit (matrices_below l z m) row start now o met) (sym (drop_more legs n d low))
      (subst (λ z. IsBit z row start now o met) (sym (append_assoc one (way_down v (legs_of l rest)) (v.full m ∷ []))) bit)

-- the rows for the legs from k on are made, with no more products than there are matrices
pub record AreRowsFrom (l : ViewLabelSeen) (legs : List LegHeld) (m i k : ℕ) (rows : List ℕ) (start now : ℕ) : Type 0 where
  pub many : length rows ≡ length legs + 1
  pub row : (j : ℕ) → k ≤ j → j ≤ length legs → IsRowUp l (drop j legs) m i (get_or rows j 0)
  pub few : now ≤ start + length (way_up (matrices_of l) (legs_of l (drop k legs)))

-- the columns are, each with 64 times as many
pub record AreColumnsFrom (l : ViewLabelSeen) (legs : List LegHeld) (m o k : ℕ) (columns : List ℕ) (start now : ℕ) : Type 0 where
  pub many : length columns ≡ length legs + 1
  pub column : (j : ℕ) → k ≤ j → j ≤ length legs → IsColumnDown l (drop j legs) m o (get_or columns j 0)
  pub few : now ≤ start + 64 * length (way_down (matrices_of l) (legs_of l (drop k legs)))

module _ (l : ViewLabelSeen) (legs : List LegHeld) (m : ℕ) where
  -- none of the legs
  last_of : (j n x : ℕ) → j ≡ length legs → n ≡ length legs + 1 → get_or (replicate n x) j 0 ≡ x
  last_of j n x e f = get_or-replicate n j x 0 (omega arith)

  pub rows_none : (i n row start : ℕ) (rows : List ℕ) → rows ≡ replicate n row → row ≡ full_row_of l m i → n ≡ length legs + 1 → AreRowsFrom l legs m i (length legs) rows start start
  rows_none i n row start rows filled is e = record {
    many = ap length filled ∙ (length-replicate n row ∙ e);
    row = λ j a b. let here : j ≡ length legs = omega arith in
        subst (λ z. IsRowUp l z m i (get_or rows j 0)) (sym (drop_all j legs (omega arith))) (sym is ∙ sym (ap (λ z. get_or z j 0) filled ∙ last_of j n row here e));
    few = omega arith;
  }

  pub columns_none : (o n column start : ℕ) (columns : List ℕ) → columns ≡ replicate n column → ((i : ℕ) → IsTrue (has column i) ↔ Joined ((matrices_of l).full m) i o) → n ≡ length legs + 1 →
      AreColumnsFrom l legs m o (length legs) columns start start
  columns_none o n column start columns filled is e = record {
    many = ap length filled ∙ (length-replicate n column ∙ e);
    column = λ j a b. let here : j ≡ length legs = omega arith in
        subst (λ z. IsColumnDown l z m o (get_or columns j 0)) (sym (drop_all j legs (omega arith)))
        (subst (IsColumnDown l [] m o) (sym (ap (λ z. get_or z j 0) filled ∙ last_of j n column here e)) (column_of_none l m o column is));
    few = omega arith;
  }

  module _ (k : ℕ) (d : LegHeld) (some : 0 < k) (low : k ≤ length legs) where
    leg_before : drop (k - 1) legs ≡ get_or legs (k - 1) d ∷ drop k legs
    leg_before = let e : k - 1 + 1 ≡ k = omega arith in drop_more legs (k - 1) d (omega arith) ∙ ap (λ z. get_or legs (k - 1) d ∷ drop z legs) e

    -- what is read behind the leg
    at_next : (ways : List ℕ) (behind : ℕ) → length ways ≡ length legs + 1 → behind ≡ get_or ways (k - 1 + 1) behind → behind ≡ get_or ways k 0
    at_next ways behind many is =
        let one : k - 1 + 1 ≡ k = omega arith in
        is ∙ (get_or_default_zero ways (k - 1 + 1) behind (omega arith) ∙ ap (λ z. get_or ways z 0) one)

    -- the row before one leg more
    pub rows_more : (i : ℕ) (rows : List ℕ) (behind row start now later : ℕ) → AreRowsFrom l legs m i k rows start now → behind ≡ get_or rows (k - 1 + 1) behind →
        Progress (leg_up (matrices_of l) (leg_of l (get_or legs (k - 1) d))) behind row now later → AreRowsFrom l legs m i (k - 1) (slice_set rows (k - 1) row) start later
    rows_more i rows behind row start now later r is p =
        let v = matrices_of l in
        let n = r.many in
        let f = r.few in
        let c = p.counted in
        let leg = get_or legs (k - 1) d in
        let many = length-append (way_up v (legs_of l (drop k legs))) (leg_up v (leg_of l leg)) in
        let small : later ≤ start + length (way_up v (legs_of l (leg ∷ drop k legs))) = omega arith in
        let first = row_more l m i leg (drop k legs) (get_or rows k 0) row now later (r.row k (omega arith) low) (subst (λ z. Progress (leg_up v (leg_of l leg)) z row now later) (at_next rows behind r.many is) p) in
        record {
          many = length-set rows (k - 1) row ∙ n;
          row = λ j a b. elim (cases_eq j (k - 1)) [
            | inl e ↦ subst (λ z. IsRowUp l (drop z legs) m i (get_or (slice_set rows (k - 1) row) z 0)) (sym e)
                (subst (IsRowUp l (drop (k - 1) legs) m i) (sym (get_or-set_same rows (k - 1) row 0 (omega arith))) (subst (λ z. IsRowUp l z m i row) (sym leg_before) first))
            | inr e ↦ subst (IsRowUp l (drop j legs) m i) (sym (get_or-set_other rows (k - 1) j row 0 e)) (r.row j (omega arith) b)
          ];
          few = subst (λ z. later ≤ start + length (way_up v (legs_of l z))) (sym leg_before) small;
        }

    -- the column before one leg more
    pub columns_more : (o : ℕ) (columns : List ℕ) (behind before start now later : ℕ) → AreColumnsFrom l legs m o k columns start now → behind ≡ get_or columns (k - 1 + 1) behind →
        IsColumnBefore (leg_down (matrices_of l) (leg_of l (get_or legs (k - 1) d))) behind 64 before → later ≡ now + 64 * length (leg_down (matrices_of l) (leg_of l (get_or legs (k - 1) d))) →
        AreColumnsFrom l legs m o (k - 1) (slice_set columns (k - 1) before) start later
    columns_more o columns behind before start now later r is p c =
        let v = matrices_of l in
        let n = r.many in
        let f = r.few in
        let leg = get_or legs (k - 1) d in
        let many = length-append (leg_down v (leg_of l leg)) (way_down v (legs_of l (drop k legs))) in
        let small : later ≤ start + 64 * length (way_down v (legs_of l (leg ∷ drop k legs))) = omega arith in
        let first = column_of_leg l leg (drop k legs) m o (get_or columns k 0) before (r.column k (omega arith) low) (subst (λ z. IsColumnBefore (leg_down v (leg_of l leg)) z 64 before) (at_next columns behind r.many is) p) in
        record {
          many = length-set columns (k - 1) before ∙ n;
          column = λ j a b. elim (cases_eq j (k - 1)) [
            | inl e ↦ subst (λ z. IsColumnDown l (drop z legs) m o (get_or (slice_set columns (k - 1) before) z 0)) (sym e)
                (subst (IsColumnDown l (drop (k - 1) legs) m o) (sym (get_or-set_same columns (k - 1) before 0 (omega arith))) (subst (λ z. IsColumnDown l z m o before) (sym leg_before) first))
            | inr e ↦ subst (IsColumnDown l (drop j legs) m o) (sym (get_or-set_other columns (k - 1) j before 0 e)) (r.column j (omega arith) b)
          ];
          few = subst (λ z. later ≤ start + 64 * length (way_down v (legs_of l z))) (sym leg_before) small;
        }

  -- those for all legs
  pub rows_all : (i : ℕ) (rows : List ℕ) (start now k : ℕ) → k ≡ 0 → AreRowsFrom l legs m i k rows start now → AreRowsUp l legs m i rows
  rows_all i rows start now k e r = record { many = r.many; row = λ j b. r.row j (omega arith) b }

  pub columns_all : (o : ℕ) (columns : List ℕ) (start now k : ℕ) → k ≡ 0 → AreColumnsFrom l legs m o k columns start now → AreColumnsDown l legs m o columns
  columns_all o columns start now k e r = record { many = r.many; column = λ j b. r.column j (omega arith) b }
