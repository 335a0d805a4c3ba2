-- Which pairs a view denies or adds, by computation: for worked examples.
use Rattle.std.proofs.Common.{◌≡◌, ℕ, ◌<◌, Bool, true, false, not, ◌&&◌, ◌||◌, ◌==◌, nat_lt, List, [], map, flat_map, length, refl, sym, ap, ◌∙◌, ⊎_elim, arith, true≢false}
use Rattle.std.proofs.lemmas.Bool.{cases_lt, cases_Bool}
use Rattle.std.proofs.lemmas.Bool.Decides.{nat_tests}
use Rattle.std.proofs.lemmas.List.{get_or_past}
use Rattle.wf_model.specs.Lists.{IsIn, some, numbers_from}
use Rattle.wf_model.specs.Grammar.{Grammar, Assignment, Module, inputs_of, outputs_of}
use Rattle.wf_model.specs.View.{View, expands, shows}
use Rattle.wf_model.proofs.Lists.{in_map, in_flat_map, some_from}
use Rattle.wf_model.proofs.Level.{numbers_in}
use Rattle.compare_model.specs.Pairs.{ModulePair, IsBorderPair, IsDenied, IsAdded, DeniesNone, AddsNone, IsNoLater, IsFirst}
use Rattle.compare_model.proofs.FirstPairs.{pair}

-- the pairs of all ports of a module, and of all modules
abbrev pairs_of : Grammar → ℕ → List ModulePair
pairs_of g m = flat_map (λ i. map (pair m i) (numbers_from 0 (outputs_of g m))) (numbers_from 0 (inputs_of g m))

abbrev pub pairs_in : Grammar → List ModulePair
pairs_in g = flat_map (pairs_of g) (numbers_from 0 (length g.modules))

-- past the last module there are no ports
has_ports : (g : Grammar) (m i : ℕ) → i < inputs_of g m → m < length g.modules
has_ports g m i h = ⊎_elim (λ l. l) (λ n. let none = ap (λ (z : Module). length z.inputs) (get_or_past g.modules m (record { name = []; inputs = []; outputs = [] }) (omega arith)) in absurd (omega (arith, none))) (cases_lt m (length g.modules))

in_pairs : (g : Grammar) (x : ModulePair) → x.input < inputs_of g x.module_no → x.output < outputs_of g x.module_no → IsIn x (pairs_in g)
in_pairs g x hi ho =
    let hm = has_ports g x.module_no x.input hi in
    in_flat_map (pairs_of g) x.module_no x (numbers_from 0 (length g.modules)) (numbers_in x.module_no 0 (length g.modules) (omega arith) (omega arith))
    (in_flat_map (λ i. map (pair x.module_no i) (numbers_from 0 (outputs_of g x.module_no))) x.input x (numbers_from 0 (inputs_of g x.module_no)) (numbers_in x.input 0 (inputs_of g x.module_no) (omega arith) (omega arith))
    (in_map (pair x.module_no x.input) x.output (numbers_from 0 (outputs_of g x.module_no)) (numbers_in x.output 0 (outputs_of g x.module_no) (omega arith) (omega arith))))

-- a test that no pair passes
fails : (g : Grammar) (test : ModulePair → Bool) → some test (pairs_in g) ≡ false → (x : ModulePair) → x.input < inputs_of g x.module_no → x.output < outputs_of g x.module_no → test x ≡ false
fails g test none x hi ho = ⊎_elim (λ t. absurd (true≢false (sym (some_from test x (pairs_in g) (in_pairs g x hi ho) t) ∙ none))) (λ f. f) (cases_Bool (test x))

-- a pair comes before another
abbrev pub is_before : ModulePair → ModulePair → Bool
is_before x y = nat_lt x.module_no y.module_no || ((x.module_no == y.module_no) && (nat_lt x.input y.input || ((x.input == y.input) && nat_lt x.output y.output)))

not_before : (x y : ModulePair) → is_before y x ≡ false → IsNoLater x y
not_before x y h = grind (arith, nat_tests)

passes : (a b c : Bool) → a ≡ false → b ≡ true → c ≡ false → (not a && (b && not c)) ≡ true
passes true b c p q r = absurd (true≢false p)
passes false false c p q r = absurd (true≢false (sym q))
passes false true true p q r = absurd (true≢false r)
passes false true false p q r = refl

module _ (g : Grammar) (c : View) (d : Assignment) where
  abbrev pub denied_test : ModulePair → Bool
  denied_test x = not (expands c x.module_no) && (d x.module_no x.input x.output && not (shows c x.module_no x.input x.output))

  abbrev pub added_test : ModulePair → Bool
  added_test x = not (expands c x.module_no) && (shows c x.module_no x.input x.output && not (d x.module_no x.input x.output))

  denied_passes : (x : ModulePair) → IsDenied g c d x → denied_test x ≡ true
  denied_passes x h = passes (expands c x.module_no) (d x.module_no x.input x.output) (shows c x.module_no x.input x.output) h.pair.border.1 h.fine h.coarse

  added_passes : (x : ModulePair) → IsAdded g c d x → added_test x ≡ true
  added_passes x h = passes (expands c x.module_no) (shows c x.module_no x.input x.output) (d x.module_no x.input x.output) h.pair.border.1 h.coarse h.fine

  pub denies_none : some denied_test (pairs_in g) ≡ false → DeniesNone g c d
  denies_none none x h = true≢false (sym (denied_passes x h) ∙ fails g denied_test none x h.pair.input_there h.pair.output_there)

  pub adds_none : some added_test (pairs_in g) ≡ false → AddsNone g c d
  adds_none none x h = true≢false (sym (added_passes x h) ∙ fails g added_test none x h.pair.input_there h.pair.output_there)

  -- a pair before which none passes is the first
  first_of : (test : ModulePair → Bool) (Holds : ModulePair → Type 0) → ((y : ModulePair) → Holds y → (test y ≡ true) × IsBorderPair g c y) → (x : ModulePair) → Holds x → some (λ y. test y && is_before y x) (pairs_in g) ≡ false → IsFirst Holds x
  first_of test Holds told x holds none = (holds, λ y h. let t = told y h in not_before x y (sym (ap (λ b. b && is_before y x) t.0) ∙ fails g (λ z. test z && is_before z x) none y t.1.input_there t.1.output_there))

  pub first_denied : (x : ModulePair) → IsDenied g c d x → some (λ y. denied_test y && is_before y x) (pairs_in g) ≡ false → IsFirst (IsDenied g c d) x
  first_denied x h none = first_of denied_test (IsDenied g c d) (λ y q. (denied_passes y q, q.pair)) x h none

  pub first_added : (x : ModulePair) → IsAdded g c d x → some (λ y. added_test y && is_before y x) (pairs_in g) ≡ false → IsFirst (IsAdded g c d) x
  first_added x h none = first_of added_test (IsAdded g c d) (λ y q. (added_passes y q, q.pair)) x h none
