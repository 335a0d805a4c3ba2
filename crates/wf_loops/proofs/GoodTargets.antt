-- The target of a loop step of a module on no cycle: whether it is good.
use Rattle.std.proofs.Common.{◌≡◌, ◌↔◌, ℕ, ◌<◌, Bool, true, false, not, IsTrue, length, get_or, Option, Some, None, option_map, refl, sym, ◌∙◌, subst, true≢false}
use Rattle.std.specs.Prelude.{is_some}
use Rattle.std.proofs.lemmas.Option.{none-some}
use Rattle.wf_model.specs.Grammar.{Grammar, IsComposite}
use Rattle.wf_model.specs.Reach.{Step}
use Rattle.wf_model.specs.Linear.{IsOnCycle}
use Rattle.wf_recur.specs.declared.table.OnCycle.{OnCycle}
use Rattle.wf_recur.specs.Cycles.{CyclesSeen, on_of, AreCyclesOf}
use Rattle.package_model.specs.Translating.{Loops}
use Rattle.wf_loops.specs.Good.{IsGoodTarget}

module _ (g : Grammar) (c : CyclesSeen) (are : AreCyclesOf g c) (m : ℕ) where
  -- a module that the table does not tell of is on no cycle
  pub off_cycle : m < length g.modules → (o : Option OnCycle) → option_map on_of o ≡ get_or c.on m None → o ≡ None → IsOnCycle g m → ⊥
  off_cycle below None told none = are.on_none m below (sym told)
  off_cycle below (Some x) told none = absurd (cc)

  -- the table has a place for each module
  pub in_table : m < length g.modules → m < length c.on
  in_table below = subst (λ n. m < n) (sym are.one_each) below

  -- one that has a loop step, and of which it is known that it is composite, is a good target if it is on no cycle
  pub good_target : (loop : Loops) → m < length g.modules → IsComposite g m → (s : Step) × (loop m ≡ Some s) →
      (o : Option OnCycle) → option_map on_of o ≡ get_or c.on m None → (b : Bool) → is_some o ≡ not b → IsTrue b ↔ IsGoodTarget g loop m
  good_target loop below composite has None told true e = ((λ t. λ x. (has, are.on_none m below (sym told))), (λ good. refl))
  good_target loop below composite has None told false e = absurd (true≢false (sym e))
  good_target loop below composite has (Some x) told true e = absurd (true≢false e)
  good_target loop below composite has (Some x) told false e = (
    (λ t. absurd (true≢false (sym t))),
    (λ good. absurd ((good composite).1 ((on_of x).step, (are.on_one m (on_of x) (sym told)).step))),
  )

module _ (g : Grammar) (loop : Loops) (m : ℕ) where
  -- an atomic module is a good target
  pub good_atomic : (IsComposite g m → ⊥) → IsTrue true ↔ IsGoodTarget g loop m
  good_atomic atomic = ((λ t composite. absurd (atomic composite)), (λ good. refl))

  -- a composite one that has no loop step is none
  pub no_target : IsComposite g m → loop m ≡ None → (b : Bool) → b ≡ false → IsTrue b ↔ IsGoodTarget g loop m
  no_target composite none b off = ((λ t. absurd (true≢false (sym t ∙ off))), (λ good. let s = (good composite).0 in absurd (none-some s.0 (sym none ∙ s.1))))
