-- Rows of pairs, as they are made.
use Rattle.std.proofs.Common.{◌≡◌, ℕ, ◌+◌, ◌*◌, ◌-◌, ◌<◌, ◌≤◌, ◌^◌, ◌%◌, ◌==◌, ◌&&◌, ◌||◌, Bool, true, false, cond, nat_lt, List, [], ◌∷◌, ◌++◌, take, length, get_or, set, map, replicate, bit_or, bytes_eq, refl, sym, ap, ◌∙◌, subst, inl, inr, arith, true≢false}
use Rattle.std.specs.Int.{bit_at}
use Rattle.std.proofs.lemmas.Bool.{eqb-true, ltb-true, ltb-false}
use Rattle.std.proofs.lemmas.List.{map_more, get_or_past, get_or-replicate, length-replicate}
use Rattle.std.proofs.lemmas.Nat.Bits.{bit_at-zero}
use Rattle.wf_model.specs.declared.parts.PairPart.{PairPart}
use Rattle.wf_model.specs.Lists.{IsIn, some, AllDiffer}
use Rattle.wf_model.specs.Grammar.{Grammar, Module, Given, is_given, inputs_of, outputs_of, IsAtomic}
use Rattle.wf_model.specs.WellFormed.{IsWellFormed, IsWellFormedModule}
use Rattle.wf_model.proofs.Lists.{some_gives}
use Rattle.wf_spec.specs.Naming.{place_of}
use Rattle.wf_spec.specs.Rows.{bit_in, has_pair, AreAdded}
use Rattle.wf_spec.specs.Pairs.{pair_in}
use Rattle.wf_spec.specs.Tables.{AreRowsOf}
use Rattle.wf_spec.proofs.Finding.{place_within}
use Rattle.wf_spec.proofs.Rows.{alike_from, pair_added}
use Rattle.wf_view.specs.Tables.{names_pair, AreRowsBy}
use Rattle.wf_model.specs.Composite.{is_composite}
use Rattle.wf_model.proofs.Composites.{composite_gives, composite_is}
use Rattle.wf_view.proofs.Naming.{named_at}
use Rattle.wf_model.proofs.Tests.{some_more}
use Rattle.wf_model.proofs.ItemNames.{differ_right, differ_left}

-- rows that pass one test pass an equal one
pub by_same : (inputs outputs : ℕ) (s t : ℕ → ℕ → Bool) (rows : List ℕ) → ((i o : ℕ) → i < inputs → o < outputs → s i o ≡ t i o) → AreRowsBy inputs outputs s rows → AreRowsBy inputs outputs t rows
by_same inputs outputs s t rows same by = record { one_each = by.one_each; bits = λ i o a b. by.bits i o a b ∙ same i o a b; no_more = by.no_more }

-- rows that are all alike, with all bits
pub all_made : (m : Module) (rows : List ℕ) (ins outs : List (List ℕ)) (row : ℕ) → ins ≡ m.inputs → outs ≡ m.outputs → rows ≡ replicate (length ins) row → row ≡ 2 ^ length outs - 1
    → AreRowsBy (length m.inputs) (length m.outputs) (λ i o. true) rows
all_made m rows ins outs row inputs outputs are is =
    let alike = alike_from m true rows ins row inputs are (is ∙ ap (λ ns. 2 ^ length ns - 1) outputs) in
    record { one_each = alike.one_each; bits = λ i o a b. ap (λ n. n == 1) (alike.bits i o a b); no_more = alike.no_more }

-- an atomic module is the head of no production
pub atomic_from : (g : Grammar) (m : ℕ) → is_composite g m ≡ false → IsAtomic g m
atomic_from g m e p below head = true≢false (sym (composite_is g m (p, (below, head))) ∙ e)

-- a composite module is given all pairs, since none are given to it
pub composite_all : (g : Grammar) → IsWellFormed g → (m : ℕ) → is_composite g m ≡ true → (i o : ℕ) → is_given g.given m i o ≡ true
composite_all g w m h i o = by (some (λ (d : Given). d.module_no == m) g.given) refl
  where
    by : (b : Bool) → some (λ (d : Given). d.module_no == m) g.given ≡ b → is_given g.given m i o ≡ true
    by true e =
        let r = some_gives (λ (d : Given). d.module_no == m) g.given e in
        let c = composite_gives g m h in
        absurd ((w.given_atomic r.0 r.1).1 c.0 c.1.0 (c.1.1 ∙ sym (eqb-true (r.0).module_no m r.2)))
    by false e = ap (λ b. cond b (some (λ (d : Given). (d.module_no == m) && some (λ (e : ℕ × ℕ). (e.0 == i) && (e.1 == o)) d.pairs) g.given) true) e

-- the rows of a grammar are by what it gives
pub of_grammar : (g : Grammar) (m : ℕ) (rows : List ℕ) → AreRowsOf g m rows → AreRowsBy (inputs_of g m) (outputs_of g m) (is_given g.given m) rows
of_grammar g m rows r = record { one_each = r.one_each; bits = r.bits; no_more = r.no_more }

-- a pair is added to the rows of its module
pub pair_put : (m : Module) (e : PairPart) (rows : List ℕ) (ins outs : List (List ℕ)) (input output : List ℕ) (i o : ℕ) → ins ≡ m.inputs → outs ≡ m.outputs → input ≡ e.input → output ≡ e.output
    → i ≡ place_of ins input → o ≡ place_of outs output → i < length rows → o < 64
    → AreAdded (pair_in m e ∷ []) rows (set rows i (bit_or (get_or rows i 0) (1 * 2 ^ o % 18446744073709551616)))
pair_put m e rows ins outs input output i o inputs outputs from to at_input at_output inside low =
    subst (λ a. AreAdded ((a, place_of m.outputs e.output) ∷ []) rows (set rows i (bit_or (get_or rows i 0) (1 * 2 ^ o % 18446744073709551616)))) (at_input ∙ (ap (λ ns. place_of ns input) inputs ∙ ap (place_of m.inputs) from))
    (subst (λ b. AreAdded ((i, b) ∷ []) rows (set rows i (bit_or (get_or rows i 0) (1 * 2 ^ o % 18446744073709551616)))) (at_output ∙ (ap (λ ns. place_of ns output) outputs ∙ ap (place_of m.outputs) to))
    (pair_added rows i o inside low))

-- one pair more is added
pub pairs_more : (m : Module) (pairs : List PairPart) (k : ℕ) (e : PairPart) (a b c : List ℕ) → e ≡ get_or pairs k e → k < length pairs
    → AreAdded (map (pair_in m) (take k pairs)) a b → AreAdded (pair_in m e ∷ []) b c → AreAdded (map (pair_in m) (take (k + 1) pairs)) a c
pairs_more m pairs k e a b c was inside old new i o =
    new i o ∙ (ap (λ n. cond {A = ℕ} (has_pair (pair_in m e ∷ []) i o) 1 n) (old i o)
    ∙ (chain (has_pair (map (pair_in m) (take k pairs)) i o) ((place_of m.inputs e.input == i) && (place_of m.outputs e.output == o)) (bit_in a i o)
    ∙ ap (λ t. cond {A = ℕ} t 1 (bit_in a i o)) (sym (ap (λ ps. has_pair ps i o) whole ∙ some_more (λ (p : ℕ × ℕ). (p.0 == i) && (p.1 == o)) (map (pair_in m) (take k pairs)) (pair_in m e)))))
  where
    chain : (x y : Bool) (n : ℕ) → cond {A = ℕ} (y || false) 1 (cond {A = ℕ} x 1 n) ≡ cond {A = ℕ} (x || y) 1 n
    chain true true n = refl
    chain true false n = refl
    chain false true n = refl
    chain false false n = refl

    whole : map (pair_in m) (take (k + 1) pairs) ≡ map (pair_in m) (take k pairs) ++ pair_in m e ∷ []
    whole = map_more (pair_in m) pairs k e inside ∙ ap (λ p. map (pair_in m) (take k pairs) ++ pair_in m p ∷ []) (sym was)

-- the pairs of a part, by numbers and by names
pub same_pairs : (m : Module) → AllDiffer m.inputs → AllDiffer m.outputs → (pairs : List PairPart) → ((e : PairPart) → IsIn e pairs → IsIn e.input m.inputs × IsIn e.output m.outputs)
    → (i o : ℕ) → i < length m.inputs → o < length m.outputs → has_pair (map (pair_in m) pairs) i o ≡ names_pair m pairs i o
same_pairs m ins outs [] known i o a b = refl
same_pairs m ins outs (e ∷ pairs) known i o a b =
    let k = known e (inl refl) in
    ap (λ t. t && (place_of m.outputs e.output == o) || has_pair (map (pair_in m) pairs) i o) (sym (named_at m.inputs ins e.input k.0 i a))
    ∙ (ap (λ t. bytes_eq (get_or m.inputs i []) e.input && t || has_pair (map (pair_in m) pairs) i o) (sym (named_at m.outputs outs e.output k.1 o b))
    ∙ ap (λ t. bytes_eq (get_or m.inputs i []) e.input && bytes_eq (get_or m.outputs o []) e.output || t) (same_pairs m ins outs pairs (λ x h. known x (inr h)) i o a b))

-- they are pairs of ports
none_above : (m : Module) (pairs : List PairPart) → ((e : PairPart) → IsIn e pairs → IsIn e.input m.inputs × IsIn e.output m.outputs) → (i o : ℕ) → length m.outputs ≤ o → has_pair (map (pair_in m) pairs) i o ≡ false
none_above m [] known i o above = refl
none_above m (e ∷ pairs) known i o above =
    ap (λ t. t || has_pair (map (pair_in m) pairs) i o) (by (place_of m.inputs e.input == i) (place_of m.outputs e.output == o) refl) ∙ none_above m pairs (λ x h. known x (inr h)) i o above
  where
    by : (a b : Bool) → (place_of m.outputs e.output == o) ≡ b → a && b ≡ false
    by a true q = absurd (let l = place_within m.outputs e.output (known e (inl refl)).1 in let s : place_of m.outputs e.output ≡ o = eqb-true (place_of m.outputs e.output) o q in omega arith)
    by true false q = refl
    by false false q = refl

pub nothing_set : (n i o : ℕ) → bit_in (replicate n 0) i o ≡ 0
nothing_set n i o = by (nat_lt i n) refl
  where
    by : (b : Bool) → nat_lt i n ≡ b → bit_in (replicate n 0) i o ≡ 0
    by true e = ap (λ r. bit_at r o) (get_or-replicate n i 0 0 (ltb-true i n e)) ∙ bit_at-zero o
    by false e = ap (λ r. bit_at r o) (get_or_past (replicate n 0) i 0 (subst (λ k. k ≤ i) (sym (length-replicate n 0)) (ltb-false i n e))) ∙ bit_at-zero o

-- the rows of the pairs of a part
pub pairs_made : (m : Module) → IsWellFormedModule m → (pairs : List PairPart) → ((e : PairPart) → IsIn e pairs → IsIn e.input m.inputs × IsIn e.output m.outputs) → (n : ℕ) (rows : List ℕ)
    → length rows ≡ length m.inputs → AreAdded (map (pair_in m) pairs) (replicate n 0) rows → AreRowsBy (length m.inputs) (length m.outputs) (names_pair m pairs) rows
pairs_made m w pairs known n rows count added = record {
  one_each = count;
  bits = λ i o a b. ap (λ t. t == 1) (set_at i o) ∙ (test (has_pair (map (pair_in m) pairs) i o)
      ∙ same_pairs m (differ_left m.inputs m.outputs w.ports_differ) (differ_right m.inputs m.outputs w.ports_differ) pairs known i o a b);
  no_more = λ i o above. set_at i o ∙ ap (λ t. cond {A = ℕ} t 1 0) (none_above m pairs known i o above);
}
  where
    test : (x : Bool) → (cond {A = ℕ} x 1 0 == 1) ≡ x
    test true = refl
    test false = refl

    set_at : (i o : ℕ) → bit_in rows i o ≡ cond {A = ℕ} (has_pair (map (pair_in m) pairs) i o) 1 0
    set_at i o = added i o ∙ ap (cond {A = ℕ} (has_pair (map (pair_in m) pairs) i o) 1) (nothing_set n i o)
