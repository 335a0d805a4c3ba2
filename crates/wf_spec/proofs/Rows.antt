-- Rows of bits that are all alike, and one bit more.
use Rattle.std.proofs.Common.{◌≡◌, ℕ, ◌*◌, ◌-◌, ◌%◌, ◌^◌, ◌<◌, ◌≤◌, Bool, true, false, cond, nat_lt, ◌==◌, ◌&&◌, ◌||◌, List, [], ◌∷◌, length, get_or, set, replicate, bit_or, w64, refl, sym, ap, ◌∙◌, subst, arith}
use Rattle.std.specs.Int.{bit_at}
use Rattle.std.proofs.lemmas.Bool.{eqb-true, eqb-false, eq-eqb, ltb-true, ltb-false}
use Rattle.std.proofs.lemmas.List.{length-replicate, get_or-replicate, get_or_past, get_or-set_same, get_or-set_other}
use Rattle.std.proofs.lemmas.Nat.Bits.{bit_at_ones, bit_at_ones_above, bit_at-zero, bit_at_set_same, bit_at_set_other}
use Rattle.wf_model.specs.Grammar.{Module}
use Rattle.wf_spec.specs.Rows.{bit_in, AreAlike, AreAdded}

-- rows that are all alike
pub alike_from : (m : Module) (all : Bool) (rows : List ℕ) (ins : List (List ℕ)) (row : ℕ) → ins ≡ m.inputs → rows ≡ replicate (length ins) row
    → row ≡ cond {A = ℕ} all (2 ^ length m.outputs - 1) 0 → AreAlike m all rows
alike_from m all rows ins row same are is = record {
  one_each = ap length are ∙ (length-replicate (length ins) row ∙ ap length same);
  bits = λ i o a b. bit_there i o (subst (λ ns. i < length ns) (sym same) a) ∙ bit_inside all o b;
  no_more = λ i o above. past i o above (nat_lt i (length ins)) refl;
}
  where
    bit_there : (i o : ℕ) → i < length ins → bit_in rows i o ≡ bit_at (cond {A = ℕ} all (2 ^ length m.outputs - 1) 0) o
    bit_there i o a = ap (λ rs. bit_in rs i o) are ∙ (ap (λ r. bit_at r o) (get_or-replicate (length ins) i row 0 a) ∙ ap (λ r. bit_at r o) is)

    bit_inside : (all : Bool) (o : ℕ) → o < length m.outputs → bit_at (cond {A = ℕ} all (2 ^ length m.outputs - 1) 0) o ≡ cond {A = ℕ} all 1 0
    bit_inside true o b = bit_at_ones (length m.outputs) o b
    bit_inside false o b = bit_at-zero o

    bit_outside : (all : Bool) (o : ℕ) → length m.outputs ≤ o → bit_at (cond {A = ℕ} all (2 ^ length m.outputs - 1) 0) o ≡ 0
    bit_outside true o b = bit_at_ones_above (length m.outputs) o b
    bit_outside false o b = bit_at-zero o

    past : (i o : ℕ) → length m.outputs ≤ o → (b : Bool) → nat_lt i (length ins) ≡ b → bit_in rows i o ≡ 0
    past i o above true e = bit_there i o (ltb-true i (length ins) e) ∙ bit_outside all o above
    past i o above false e =
        let l = ltb-false i (length ins) e in
        let k : length rows ≤ i = (let n = ap length are ∙ length-replicate (length ins) row in omega arith) in
        ap (λ r. bit_at r o) (get_or_past rows i 0 k) ∙ bit_at-zero o

-- one bit is set
pub pair_added : (rows : List ℕ) (i o : ℕ) → i < length rows → o < 64 → AreAdded ((i, o) ∷ []) rows (set rows i (bit_or (get_or rows i 0) (1 * 2 ^ o % 18446744073709551616)))
pair_added rows i o inside low j p = by (i == j) refl
  where
    row : ℕ
    row = bit_or (get_or rows i 0) (1 * 2 ^ o % 18446744073709551616)

    here : (b : Bool) → o == p ≡ b → bit_at row p ≡ cond {A = ℕ} (b || false) 1 (bit_in rows i p)
    here true e = ap (bit_at row) (sym (eqb-true o p e)) ∙ bit_at_set_same w64 (get_or rows i 0) o low
    here false e = bit_at_set_other w64 (get_or rows i 0) o low p (λ d. eqb-false o p e (sym d))

    by : (b : Bool) → i == j ≡ b → bit_in (set rows i row) j p ≡ cond {A = ℕ} ((i == j) && (o == p) || false) 1 (bit_in rows j p)
    by true e =
        subst (λ k. bit_in (set rows i row) k p ≡ cond {A = ℕ} ((i == k) && (o == p) || false) 1 (bit_in rows k p)) (eqb-true i j e)
        (ap (λ r. bit_at r p) (get_or-set_same rows i row 0 inside)
        ∙ (here (o == p) refl ∙ sym (ap (λ c. cond {A = ℕ} (c && (o == p) || false) 1 (bit_in rows i p)) (eq-eqb i i refl))))
    by false e =
        ap (λ r. bit_at r p) (get_or-set_other rows i j row 0 (λ d. eqb-false i j e (sym d)))
        ∙ sym (ap (λ c. cond {A = ℕ} (c && (o == p) || false) 1 (bit_in rows j p)) e)
