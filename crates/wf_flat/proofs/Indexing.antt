-- Words that say to where ports lead, as links are added.
use Rattle.std.proofs.Common.{◌≡◌, ℕ, zero, suc, ◌+◌, ◌*◌, ◌-◌, ◌<◌, ◌≤◌, ◌⊎◌, Bool, true, false, cond, List, [], ◌∷◌, ◌++◌, length, get_or, set, replicate, Some, refl, sym, ap, subst, ◌∙◌, arith, inl, inr, ⊎_elim, length-set}
use Rattle.std.specs.Prelude.{◌==◌}
use Rattle.std.specs.Int.{bit_at}
use Rattle.std.proofs.lemmas.Bool.{cases_lt, cases_eq, lt-ltb, le-ltb}
use Rattle.std.proofs.lemmas.List.{get_or-set_same, get_or-set_other, get_or_past, length-replicate}
use Rattle.wf_model.specs.declared.numbers.Side.TheVariants.{Input}
use Rattle.wf_model.specs.Lists.{IsIn, numbers_from}
use Rattle.wf_model.specs.Grammar.{Grammar, inputs_of, outputs_of}
use Rattle.wf_model.proofs.Lists.{in_append_cases, in_append_left, in_append_right, in_flat_map, in_flat_map_from}
use Rattle.wf_model.proofs.Level.{in_numbers, numbers_in}
use Rattle.wf_flat.specs.declared.graph.Port.{Port}
use Rattle.wf_flat.specs.declared.graph.Link.{Link}
use Rattle.wf_flat.specs.declared.module_rows.Row.{Row}
use Rattle.wf_flat.specs.Graph.{pair, row_links, matrix_links}
use Rattle.wf_flat.specs.Numbering.{side_of, number_of, IsNumbered, AreNumbered, IsRising}
use Rattle.wf_flat.specs.Leading.{no_row, led_by_row, led_behind, get_word, led_from, row_of, IsIndex, NamesRows}
use Rattle.wf_flat.proofs.Numbers.{number_same}
use Rattle.wf_flat.proofs.Within.{pair_in}

-- a word of a port leads there alone
led_port : (rows : List Row) (word p : ℕ) → word < 2147483648 → led_behind rows word p 0 ≡ word ∷ []
led_port rows word p h = ap (λ b. cond b (word ∷ []) (led_by_row p (get_or rows (word - 2147483648) no_row) 0)) (lt-ltb word 2147483648 h)

-- a word of a row leads by it
led_row : (rows : List Row) (n p : ℕ) → led_behind rows (2147483648 + n) p 0 ≡ led_by_row p (get_or rows n no_row) 0
led_row rows n p =
    let far : 2147483648 ≤ 2147483648 + n = omega arith in
    let back : (2147483648 + n) - 2147483648 ≡ n = omega arith in
    ap (λ b. cond b ((2147483648 + n) ∷ []) (led_by_row p (get_or rows ((2147483648 + n) - 2147483648) no_row) 0)) (le-ltb (2147483648 + n) 2147483648 far)
    ∙ ap (λ z. led_by_row p (get_or rows z no_row) 0) back

-- the last word leads nowhere
led_nowhere : (rows : List Row) (p : ℕ) → length rows ≤ 65536 → led_behind rows 4294967295 p 0 ≡ []
led_nowhere rows p few =
    let far : length rows ≤ 2147483647 = omega arith in
    led_row rows 2147483647 p ∙ ap (λ r. led_by_row p r 0) (get_or_past rows 2147483647 no_row far)

-- what a row leads to
row_gives : (p : ℕ) (row : Row) (q : ℕ) → IsIn q (led_by_row p row 0) → (o : ℕ) × (o < row.outputs) × (bit_at row.bits o == 1 ≡ true) × (q ≡ (p + row.distance) + o)
row_gives p row q h =
    let r = in_flat_map_from (λ j. cond (bit_at row.bits j == 1) ((p + row.distance + j) ∷ []) []) q (numbers_from 0 (row.outputs - 0)) h in
    let s = by (bit_at row.bits r.0 == 1) r.0 refl r.2 in
    let n = in_numbers r.0 0 (row.outputs - 0) r.1 in
    let low : r.0 < row.outputs = omega arith in
    (r.0, low, s.0, s.1)
  where
    by : (b : Bool) (o : ℕ) → bit_at row.bits o == 1 ≡ b → IsIn q (cond b ((p + row.distance + o) ∷ []) []) → (bit_at row.bits o == 1 ≡ true) × (q ≡ (p + row.distance) + o)
    by true o e (inl d) = (e, d)
    by true o e (inr z) = absurd z
    by false o e z = absurd z

row_led : (p : ℕ) (row : Row) (o : ℕ) → o < row.outputs → bit_at row.bits o == 1 ≡ true → IsIn ((p + row.distance) + o) (led_by_row p row 0)
row_led p row o low bit =
    let below : o < 0 + (row.outputs - 0) = omega arith in
    in_flat_map (λ j. cond (bit_at row.bits j == 1) ((p + row.distance + j) ∷ []) []) o ((p + row.distance) + o) (numbers_from 0 (row.outputs - 0)) (numbers_in o 0 (row.outputs - 0) (omega arith) below)
    (subst (λ b. IsIn ((p + row.distance) + o) (cond b ((p + row.distance + o) ∷ []) [])) (sym bit) (inl refl))

same_word : (n k : ℕ) → get_word (replicate n 4294967295) k ≡ 4294967295
same_word zero k = refl
same_word (suc n) zero = refl
same_word (suc n) (suc k) = same_word n k

-- where no port leads anywhere
pub index_none : (begins words : List ℕ) (rows : List Row) (ports : ℕ) → IsRising begins → ((k : ℕ) → get_or begins k 0 ≤ ports) → words ≡ replicate ports 4294967295 → length rows ≤ 65536 → IsIndex [] begins words rows
index_none begins words rows ports rising below none few = record {
  rising = rising;
  numbered = λ l i. absurd i;
  below = λ k. let b = below k in let n : length words ≡ ports = ap length none ∙ length-replicate ports 4294967295 in omega arith;
  linked = λ l i. absurd i;
  links = λ a b h. absurd (subst (IsIn b) (ap (λ w. led_behind rows w a 0) (ap (λ ws. get_word ws a) none ∙ same_word ports a) ∙ led_nowhere rows a few) h);
}

-- links lead to ports that are there
pub led_within : (ls : List Link) (begins words : List ℕ) (rows : List Row) → IsIndex ls begins words rows → (a b : ℕ) → IsIn b (led_from words rows a) → b < length words
led_within ls begins words rows i a b h =
    let r = i.links a b h in
    let n = (i.numbered r.0 r.1).1 in
    let w = i.below (side_of r.0.to + 1) in
    let e = r.3 in
    omega arith

numbered_more : (begins : List ℕ) (ls ms : List Link) → AreNumbered begins ls → AreNumbered begins ms → AreNumbered begins (ls ++ ms)
numbered_more begins ls ms h k l i = ⊎_elim (λ a. h l a) (λ a. k l a) (in_append_cases l ls ms i)

-- a link more, where no other link leads elsewhere from its port
module _ (ls : List Link) (begins words : List ℕ) (rows : List Row) (i : IsIndex ls begins words rows) (l : Link) (from : IsNumbered begins l.from) (to : IsNumbered begins l.to) (few : length words ≤ 2147483648)
    (alone : (k : Link) → IsIn k ls → k.from ≡ l.from → k.to ≡ l.to) where
  abbrev a : ℕ
  a = number_of begins l.from

  abbrev b : ℕ
  b = number_of begins l.to

  abbrev new : List ℕ
  new = set words a b

  there : a < length words
  there = let w = i.below (side_of l.from + 1) in omega arith

  low : b < 2147483648
  low = let w = i.below (side_of l.to + 1) in omega arith

  led_new : led_from new rows a ≡ b ∷ []
  led_new = ap (λ w. led_behind rows w a 0) (get_or-set_same words a b 4294967295 there) ∙ led_port rows b a low

  led_other : (p : ℕ) → (p ≡ a → ⊥) → led_from new rows p ≡ led_from words rows p
  led_other p d = ap (λ w. led_behind rows w p 0) (get_or-set_other words a p b 4294967295 d)

  is_new : IsIn b (led_from new rows a)
  is_new = subst (IsIn b) (sym led_new) (inl refl)

  kept : (k : Link) → IsIn k ls → IsIn (number_of begins k.to) (led_from new rows (number_of begins k.from))
  kept k h = ⊎_elim
      (λ (e : number_of begins k.from ≡ a).
      let same : k.from ≡ l.from = number_same begins i.rising k.from l.from (i.numbered k h).0 from e in
      subst (λ z. IsIn (number_of begins z) (led_from new rows (number_of begins k.from))) (sym (alone k h same)) (subst (λ z. IsIn b (led_from new rows z)) (sym e) is_new))
      (λ d. subst (IsIn (number_of begins k.to)) (sym (led_other (number_of begins k.from) d)) (i.linked k h))
      (cases_eq (number_of begins k.from) a)

  pub index_more : IsIndex (ls ++ l ∷ []) begins new rows
  index_more = record {
    rising = i.rising;
    numbered = numbered_more begins ls (l ∷ []) i.numbered (λ k o. ⊎_elim (λ (e : k ≡ l). subst (λ (z : Link). IsNumbered begins z.from × IsNumbered begins z.to) (sym e) (from, to)) (λ z. absurd z) o);
    below = λ k. subst (λ n. get_or begins k 0 ≤ n) (sym (length-set words a b)) (i.below k);
    linked = λ k h. ⊎_elim (λ o. kept k o) (λ o. ⊎_elim (λ (e : k ≡ l). subst (λ (z : Link). IsIn (number_of begins z.to) (led_from new rows (number_of begins z.from))) (sym e) is_new) (λ z. absurd z) o) (in_append_cases k ls (l ∷ []) h);
    links = λ p q h. ⊎_elim
        (λ (e : p ≡ a). ⊎_elim (λ (d : q ≡ b). (l, in_append_right l ls (l ∷ []) (inl refl), sym e, sym d)) (λ z. absurd z) (subst (IsIn q) (ap (led_from new rows) e ∙ led_new) h))
        (λ d. let r = i.links p q (subst (IsIn q) (led_other p d) h) in (r.0, in_append_left r.0 ls (l ∷ []) r.1, r.2, r.3))
        (cases_eq p a);
  }

-- the pairs of an instance more, of whose inputs no other links leave
module _ (g : Grammar) (m k : ℕ) (list : List ℕ) (ls : List Link) (begins words words' : List ℕ) (rows : List Row) (first row : ℕ) (i : IsIndex ls begins words rows)
    (few_inputs : inputs_of g m ≤ 64)
    (begin : get_or begins (2 * k + 0) 0 ≡ first) (middle : get_or begins (2 * k + 1) 0 ≡ first + inputs_of g m)
    (named : NamesRows first (inputs_of g m) row words words') (count : length words' ≡ length words)
    (each : (j : ℕ) → j < inputs_of g m → get_or rows (row + j) no_row ≡ row_of g m (Some list) j)
    (numbered : AreNumbered begins (matrix_links k list (outputs_of g m) 0 (inputs_of g m)))
    (own : (l : Link) → IsIn l ls → l.from.instance ≡ k → l.from.side ≡ Input → IsIn l (matrix_links k list (outputs_of g m) 0 (inputs_of g m))) where
  abbrev pairs : List Link
  pairs = matrix_links k list (outputs_of g m) 0 (inputs_of g m)

  abbrev row_at : ℕ → Row
  row_at j = record { distance = inputs_of g m - j; outputs = outputs_of g m; bits = get_or list j 0 }

  led_input : (j : ℕ) → j < inputs_of g m → led_from words' rows (first + j) ≡ led_by_row (first + j) (row_at j) 0
  led_input j h =
      ap (λ w. led_behind rows w (first + j) 0) (named.named j h) ∙ (led_row rows (row + j) (first + j)
      ∙ ap (λ r. led_by_row (first + j) r 0) (each j h ∙ ap (λ b. cond b (row_at j) no_row) (lt-ltb j (inputs_of g m) h)))

  led_kept : (p : ℕ) → (p < first) ⊎ (first + inputs_of g m ≤ p) → led_from words' rows p ≡ led_from words rows p
  led_kept p h = ap (λ w. led_behind rows w p 0) (named.kept p h)

  -- a port is an input of the instance, or another
  cases : (p : ℕ) → ((j : ℕ) × (j < inputs_of g m) × (p ≡ first + j)) ⊎ ((p < first) ⊎ (first + inputs_of g m ≤ p))
  cases p = ⊎_elim (λ l. inr (inl l)) (λ l. ⊎_elim (λ h. let e : p ≡ first + (p - first) = omega arith in let low : p - first < inputs_of g m = omega arith in inl (p - first, low, e)) (λ h. inr (inr h)) (cases_lt p (first + inputs_of g m))) (cases_lt p first)

  input_number : (j : ℕ) → number_of begins (pair k j 0).from ≡ first + j
  input_number j = ap (λ z. z + j) begin

  output_number : (j o : ℕ) → j < inputs_of g m → number_of begins (pair k j o).to ≡ ((first + j) + (inputs_of g m - j)) + o
  output_number j o h = let e = middle in let s : first + inputs_of g m ≡ (first + j) + (inputs_of g m - j) = omega arith in ap (λ z. z + o) (middle ∙ s)

  pair_led : (l : Link) → IsIn l pairs → IsIn (number_of begins l.to) (led_from words' rows (number_of begins l.from))
  pair_led l h =
      let r = pair_in k list (outputs_of g m) (inputs_of g m) l h in
      let a = in_numbers r.0 0 (inputs_of g m) r.2 in
      let b = in_numbers r.1 0 (outputs_of g m) r.3 in
      let low : r.0 < inputs_of g m = omega arith in
      let lower : r.1 < outputs_of g m = omega arith in
      subst (λ (z : Link). IsIn (number_of begins z.to) (led_from words' rows (number_of begins z.from))) (sym r.5)
      (subst (λ z. IsIn z (led_from words' rows (number_of begins (pair k r.0 r.1).from))) (sym (output_number r.0 r.1 low))
      (subst (λ z. IsIn (((first + r.0) + (inputs_of g m - r.0)) + r.1) (led_from words' rows z)) (sym (input_number r.0))
      (subst (IsIn (((first + r.0) + (inputs_of g m - r.0)) + r.1)) (sym (led_input r.0 low)) (row_led (first + r.0) (row_at r.0) r.1 lower r.4))))

  old_led : (l : Link) → IsIn l ls → IsIn (number_of begins l.to) (led_from words' rows (number_of begins l.from))
  old_led l h = ⊎_elim
      (λ c.
      let e : number_of begins l.from ≡ number_of begins (pair k c.0 0).from = c.2 ∙ sym (input_number c.0) in
      let n : IsNumbered begins (pair k c.0 0).from =
      let low = c.1 in
      let place : (2 * k + 0) + 1 ≡ 2 * k + 1 = omega arith in
      let next : get_or begins ((2 * k + 0) + 1) 0 ≡ first + inputs_of g m = ap (λ z. get_or begins z 0) place ∙ middle in
      let a = begin in
      omega arith in
      let s : l.from ≡ (pair k c.0 0).from = number_same begins i.rising l.from (pair k c.0 0).from (i.numbered l h).0 n e in
      pair_led l (own l h (ap (λ (z : Port). z.instance) s) (ap (λ (z : Port). z.side) s)))
      (λ c. subst (IsIn (number_of begins l.to)) (sym (led_kept (number_of begins l.from) c)) (i.linked l h))
      (cases (number_of begins l.from))

  row_pair : (j q : ℕ) → j < inputs_of g m → IsIn q (led_by_row (first + j) (row_at j) 0) → (l : Link) × IsIn l pairs × (number_of begins l.from ≡ first + j) × (number_of begins l.to ≡ q)
  row_pair j q h d =
      let r = row_gives (first + j) (row_at j) q d in
      let o = r.0 in (
        pair k j o,
        in_flat_map (λ z. row_links k z (get_or list z 0) 0 (outputs_of g m)) j (pair k j o) (numbers_from 0 (inputs_of g m)) (numbers_in j 0 (inputs_of g m) (omega arith) (omega arith))
            (in_flat_map (λ z. cond (bit_at (get_or list j 0) z == 1) (pair k j z ∷ []) []) o (pair k j o) (numbers_from 0 (outputs_of g m)) (numbers_in o 0 (outputs_of g m) (omega arith) (let b : o < outputs_of g m = r.1 in omega arith))
            (subst (λ b. IsIn (pair k j o) (cond b (pair k j o ∷ []) [])) (sym r.2) (inl refl))),
        input_number j,
        output_number j o h ∙ sym r.3,
      )

  pub index_pairs : IsIndex (ls ++ pairs) begins words' rows
  index_pairs = record {
    rising = i.rising;
    numbered = numbered_more begins ls pairs i.numbered numbered;
    below = λ n. subst (λ z. get_or begins n 0 ≤ z) (sym count) (i.below n);
    linked = λ l h. ⊎_elim (λ o. old_led l o) (λ o. pair_led l o) (in_append_cases l ls pairs h);
    links = λ p q h. ⊎_elim
        (λ c. let r = row_pair c.0 q c.1 (subst (IsIn q) (ap (led_from words' rows) c.2 ∙ led_input c.0 c.1) h) in (r.0, in_append_right r.0 ls pairs r.1, r.2 ∙ sym c.2, r.3))
        (λ c. let r = i.links p q (subst (IsIn q) (led_kept p c) h) in (r.0, in_append_left r.0 ls pairs r.1, r.2, r.3))
        (cases p);
  }
