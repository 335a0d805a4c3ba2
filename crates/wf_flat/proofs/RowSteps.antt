-- Rows, one output and one input after the other.
use Rattle.std.proofs.Common.{◌≡◌, ℕ, zero, suc, ◌+◌, ◌*◌, ◌-◌, ◌/◌, ◌%◌, ◌^◌, ◌<◌, ◌≤◌, Bool, true, false, cond, List, [], ◌∷◌, ◌++◌, map, flat_map, length, get_or, Option, Some, None, refl, sym, ap, subst, ◌∙◌, arith, ⊎_elim, append_assoc, length-append}
use Rattle.std.specs.Prelude.{◌==◌, nat_lt}
use Rattle.std.specs.Int.{bit_at}
use Rattle.std.proofs.lemmas.Nat.Bits.{bit_at-zero}
use Rattle.std.proofs.Math.Nat.{div-div-eq-div-mul}
use Rattle.std.proofs.lemmas.Nat.{pow-add}
use Rattle.std.proofs.lemmas.Bool.{cases_lt}
use Rattle.std.proofs.lemmas.List.{get_or_append_left, get_or-append-add, get_or_past, get_or-map}
use Rattle.wf_model.specs.Lists.{IsIn, numbers_from}
use Rattle.wf_model.specs.Grammar.{Grammar, inputs_of, outputs_of}
use Rattle.wf_model.specs.WellFormed.{IsWellFormed}
use Rattle.wf_model.proofs.Lists.{at_in, is_at, in_map_from, in_flat_map_from}
use Rattle.wf_model.proofs.Level.{in_numbers}
use Rattle.wf_flat.specs.declared.module_rows.Row.{Row}
use Rattle.wf_flat.specs.Leading.{IsLowestBit, no_row, led_by_row, row_of, AreRowsOf}
use Rattle.wf_flat.proofs.Numbered.{numbers_more}
use Rattle.wf_flat.proofs.Rows.{numbers_step}

-- the outputs to which a row leads, from one on
led_step : (p : ℕ) (row : Row) (o : ℕ) → o < row.outputs → led_by_row p row o ≡ cond (bit_at row.bits o == 1) ((p + row.distance + o) ∷ []) [] ++ led_by_row p row (o + 1)
led_step p row o h = let e : row.outputs - o ≡ suc (row.outputs - (o + 1)) = omega arith in ap (flat_map (λ j. cond (bit_at row.bits j == 1) ((p + row.distance + j) ∷ []) [])) (numbers_step o (row.outputs - o) (row.outputs - (o + 1)) e)

led_passed : (p : ℕ) (row : Row) (o : ℕ) → o < row.outputs → (bit_at row.bits o == 1) ≡ false → led_by_row p row o ≡ led_by_row p row (o + 1)
led_passed p row o h e = led_step p row o h ∙ ap (λ b. cond b ((p + row.distance + o) ∷ []) [] ++ led_by_row p row (o + 1)) e

led_found : (p : ℕ) (row : Row) (o : ℕ) → o < row.outputs → (bit_at row.bits o == 1) ≡ true → led_by_row p row o ≡ (p + row.distance + o) ∷ led_by_row p row (o + 1)
led_found p row o h e = led_step p row o h ∙ ap (λ b. cond b ((p + row.distance + o) ∷ []) [] ++ led_by_row p row (o + 1)) e

pub led_ended : (p : ℕ) (row : Row) (o : ℕ) → row.outputs ≤ o → led_by_row p row o ≡ []
led_ended p row o h = let e : row.outputs - o ≡ 0 = omega arith in ap (λ n. flat_map (λ j. cond (bit_at row.bits j == 1) ((p + row.distance + j) ∷ []) []) (numbers_from o n)) e

-- the bits behind some, and those of what is left of the number
shifted : (n a i : ℕ) → bit_at (n / 2 ^ a) i ≡ bit_at n (a + i)
shifted n a i = ap (λ z. z % 2) (div-div-eq-div-mul n (2 ^ a) (2 ^ i) ∙ ap (λ z. n / z) (sym (pow-add 2 a i)))

-- where the next bits are not set, no output is led to
led_far : (p : ℕ) (row : Row) (o n : ℕ) → ((i : ℕ) → i < n → bit_at row.bits (o + i) ≡ 0) → led_by_row p row o ≡ led_by_row p row (o + n)
led_far p row o zero h = let e : o ≡ o + 0 = omega arith in ap (led_by_row p row) e
led_far p row o (suc n) h =
    let next : o + suc n ≡ (o + 1) + n = omega arith in
    let here : bit_at row.bits o ≡ 0 = let e : o + 0 ≡ o = omega arith in subst (λ z. bit_at row.bits z ≡ 0) e (h 0 (omega arith)) in
    let no : (bit_at row.bits o == 1) ≡ false = ap (λ z. z == 1) here in
    one no ∙ (led_far p row (o + 1) n (λ i l. let e : o + suc i ≡ (o + 1) + i = omega arith in subst (λ z. bit_at row.bits z ≡ 0) e (h (suc i) (omega arith))) ∙ ap (led_by_row p row) (sym next))
  where
    one : (bit_at row.bits o == 1) ≡ false → led_by_row p row o ≡ led_by_row p row (o + 1)
    one e = ⊎_elim
        (λ (l : o < row.outputs). led_passed p row o l e)
        (λ (l : row.outputs ≤ o). let m : row.outputs ≤ o + 1 = omega arith in led_ended p row o l ∙ sym (led_ended p row (o + 1) m))
        (cases_lt o row.outputs)

module _ (p : ℕ) (row : Row) (from left : ℕ) (is : left ≡ row.bits / 2 ^ from) where
  -- where nothing is left, and where an output is the first
  pub led_nothing : left ≡ 0 → row.outputs ≤ 64 → led_by_row p row from ≡ []
  led_nothing e few =
      let far : row.outputs ≤ from + row.outputs = omega arith in
      led_far p row from row.outputs (λ i l. sym (shifted row.bits from i) ∙ (ap (λ z. bit_at z i) (sym is ∙ e) ∙ bit_at-zero i)) ∙ led_ended p row (from + row.outputs) far

  module _ (n : ℕ) (lowest : IsLowestBit left n) where
    pub led_to_lowest : led_by_row p row from ≡ led_by_row p row (from + n)
    led_to_lowest = led_far p row from n (λ i l. sym (shifted row.bits from i) ∙ (ap (λ z. bit_at z i) (sym is) ∙ lowest.2 i l))

    pub led_lowest : from + n < row.outputs → led_by_row p row from ≡ (p + row.distance + (from + n)) ∷ led_by_row p row (from + n + 1)
    led_lowest there =
        let bit : bit_at row.bits (from + n) ≡ 1 = sym (shifted row.bits from n) ∙ (ap (λ z. bit_at z n) (sym is) ∙ lowest.1) in
        led_to_lowest ∙ led_found p row (from + n) there (ap (λ z. z == 1) bit)

-- lists that are made from two lists
pub append_flat : {A B : Type 0} (f : A → List B) (xs ys : List A) → flat_map f (xs ++ ys) ≡ flat_map f xs ++ flat_map f ys
append_flat f [] ys = refl
append_flat f (x ∷ xs) ys = ap (λ l. f x ++ l) (append_flat f xs ys) ∙ sym (append_assoc (f x) (flat_map f xs) (flat_map f ys))

module _ (g : Grammar) (leaf : List (Option (List ℕ))) where
  -- the rows of a module, and of the modules from one on
  abbrev pub rows_at : ℕ → List Row
  rows_at m = map (row_of g m (get_or leaf m None)) (numbers_from 0 64)

  abbrev pub rows_from : ℕ → ℕ → List Row
  rows_from k n = flat_map rows_at (numbers_from k n)

  nil_last : {A : Type 0} (xs : List A) → xs ++ [] ≡ xs
  nil_last [] = refl
  nil_last (x ∷ xs) = ap (λ l. x ∷ l) (nil_last xs)

  pub module_more : (n : ℕ) (now new : List Row) → now ≡ rows_from 0 n → new ≡ now ++ rows_at n → new ≡ rows_from 0 (n + 1)
  module_more n now new e h = h ∙ (ap (λ l. l ++ rows_at n) e ∙ (ap (λ l. rows_from 0 n ++ l) (sym (nil_last (rows_at n))) ∙ sym (ap (flat_map rows_at) (numbers_more n) ∙ append_flat rows_at (numbers_from 0 n) (n ∷ []))))

  length_rows : (k n : ℕ) → length (rows_from k n) ≡ n * 64
  length_rows k zero = refl
  length_rows k (suc n) =
      let r = length_rows (suc k) n in
      let l : length (rows_at k) ≡ 64 = refl in
      let a = length-append (rows_at k) (rows_from (suc k) n) in
      let e : length (rows_from k (suc n)) ≡ length (rows_at k) + length (rows_from (suc k) n) = a in
      omega arith

  -- a row of a module
  row_there : (m i : ℕ) → i < 64 → get_or (rows_at m) i no_row ≡ row_of g m (get_or leaf m None) i
  row_there m i h =
      let low : i < length (numbers_from 0 64) = h in
      get_or-map (row_of g m (get_or leaf m None)) (numbers_from 0 64) i 0 no_row low ∙ ap (row_of g m (get_or leaf m None)) (number_at 0 64 i h ∙ (let e : 0 + i ≡ i = omega arith in e))
    where
      number_at : (k n j : ℕ) → j < n → get_or (numbers_from k n) j 0 ≡ k + j
      number_at k zero j h = absurd (omega arith)
      number_at k (suc n) zero h = omega arith
      number_at k (suc n) (suc j) h = let l : j < n = omega arith in let e : suc k + j ≡ k + suc j = omega arith in number_at (suc k) n j l ∙ e

  row_in : (k n m i : ℕ) → m < n → i < 64 → get_or (rows_from k n) (m * 64 + i) no_row ≡ row_of g (k + m) (get_or leaf (k + m) None) i
  row_in k zero m i h l = absurd (omega arith)
  row_in k (suc n) zero i h l =
      let e : 0 * 64 + i ≡ i = omega arith in
      let s : k ≡ k + 0 = omega arith in
      ap (λ z. get_or (rows_from k (suc n)) z no_row) e ∙ (get_or_append_left (rows_at k) (rows_from (suc k) n) no_row i l ∙ (row_there k i l ∙ ap (λ z. row_of g z (get_or leaf z None) i) s))
  row_in k (suc n) (suc m) i h l =
      let low : m < n = omega arith in
      let e : suc m * 64 + i ≡ 64 + (m * 64 + i) = omega arith in
      let s : suc k + m ≡ k + suc m = omega arith in
      ap (λ z. get_or (rows_from k (suc n)) z no_row) e ∙ (get_or-append-add (rows_at k) (rows_from (suc k) n) (m * 64 + i) no_row ∙ (row_in (suc k) n m i low l ∙ ap (λ z. row_of g z (get_or leaf z None) i) s))

  narrow_row : IsWellFormed g → (m : ℕ) → m < length g.modules → (o : Option (List ℕ)) (i : ℕ) → (row_of g m o i).outputs ≤ 64
  narrow_row wf m h None i = omega arith
  narrow_row wf m h (Some list) i = by (nat_lt i (inputs_of g m))
    where
      by : (b : Bool) → (cond b (record { distance = inputs_of g m - i; outputs = outputs_of g m; bits = get_or list i 0 }) no_row).outputs ≤ 64
      by true = (wf.modules (get_or g.modules m (record { name = []; inputs = []; outputs = [] })) (at_in _ m g.modules (is_at m g.modules (record { name = []; inputs = []; outputs = [] }) h))).few_outputs
      by false = omega arith

  narrow_rows : IsWellFormed g → (k n : ℕ) → k + n ≤ length g.modules → (r : Row) → IsIn r (rows_from k n) → r.outputs ≤ 64
  narrow_rows wf k n h r i =
      let m = in_flat_map_from rows_at r (numbers_from k n) i in
      let low = in_numbers m.0 k n m.1 in
      let there : m.0 < length g.modules = omega arith in
      let q = in_map_from (row_of g m.0 (get_or leaf m.0 None)) r (numbers_from 0 64) m.2 in
      subst (λ (z : Row). z.outputs ≤ 64) (sym q.2) (narrow_row wf m.0 there (get_or leaf m.0 None) q.0)

  pub are_rows : IsWellFormed g → (rows : List Row) → rows ≡ rows_from 0 (length g.modules) → AreRowsOf g leaf rows
  are_rows wf rows e = record {
    few = let n = ap length e ∙ length_rows 0 (length g.modules) in let m = wf.few_modules in omega arith;
    narrow = λ k. ⊎_elim
        (λ l. narrow_rows wf 0 (length g.modules) (omega arith) (get_or rows k no_row) (subst (IsIn (get_or rows k no_row)) e (at_in (get_or rows k no_row) k rows (is_at k rows no_row l))))
        (λ l. subst (λ (z : Row). z.outputs ≤ 64) (sym (get_or_past rows k no_row l)) (omega arith))
        (cases_lt k (length rows));
    each = λ m i h l. let s : 0 + m ≡ m = omega arith in ap (λ rs. get_or rs (m * 64 + i) no_row) e ∙ (row_in 0 (length g.modules) m i h l ∙ ap (λ z. row_of g z (get_or leaf z None) i) s);
  }
