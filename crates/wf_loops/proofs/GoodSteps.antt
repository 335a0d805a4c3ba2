-- The loop step of one module: whether it is good there.
use Rattle.std.proofs.Common.{◌≡◌, ◌↔◌, ℕ, List, Option, Some, None, sym, ap, ◌∙◌, subst}
use Rattle.std.proofs.lemmas.Option.{none-some, same_Some}
use Rattle.wf_model.specs.Grammar.{Grammar}
use Rattle.wf_model.specs.WellFormed.{IsWellFormed}
use Rattle.wf_model.specs.Reach.{Step, target_of}
use Rattle.wf_model.specs.Linear.{Continues, IsLinear, IsOnCycle}
use Rattle.wf_model.specs.declared.body.Step.{Step as StepHeld}
use Rattle.wf_spec.specs.Held.{HeldGrammar}
use Rattle.wf_accept.specs.Accepted.{AcceptedValue, IsAccepted}
use Rattle.package_model.specs.Packages.{LoopEntry}
use Rattle.package_model.specs.Translating.{Loops}
use Rattle.wf_loops.specs.Looped.{IsLooped, loop_in}
use Rattle.wf_loops.specs.Tables.{steps_in}
use Rattle.wf_loops.specs.Entries.{AreStepsByEntries}
use Rattle.wf_loops.specs.Good.{AreStepsOfModules, IsGoodTarget, IsGoodAt, AreGoodSteps}
use Rattle.wf_loops.proofs.GoodLoops.{its_step, good_from}

module _ (g : Grammar) (loop : Loops) (m : ℕ) where
  -- on a cycle: it is the continuing step
  pub good_on_cycle : IsLinear g → (s t : Step) → Continues g m t → loop m ≡ Some s → (s ≡ t) ↔ IsGoodAt g loop m
  good_on_cycle linear s t c is = (
    (λ same. record { continues = λ on. (s, is, subst (Continues g m) (sym same) c); leads = λ off. absurd (off (t, c)) }),
    (λ good. let r = good.continues (t, c) in same_Some s r.0 (sym is ∙ r.1) ∙ linear m r.0 t r.2 c),
  )

  -- and it is there
  pub none_on_cycle : (t : Step) → Continues g m t → loop m ≡ None → IsGoodAt g loop m → ⊥
  none_on_cycle t c none good = let r = good.continues (t, c) in none-some r.0 (sym none ∙ r.1)

  -- on no cycle: it leads to a good target
  pub good_off_cycle : (s : Step) (t : ℕ) → (IsOnCycle g m → ⊥) → loop m ≡ Some s → t ≡ target_of g s → IsGoodTarget g loop t ↔ IsGoodAt g loop m
  good_off_cycle s t off is to = (
    (λ good. record {
      continues = λ on. absurd (off on);
      leads = λ o r q. subst (λ z. IsGoodTarget g loop z) (to ∙ ap (target_of g) (same_Some s r (sym is ∙ q))) good;
    }),
    (λ good. subst (λ z. IsGoodTarget g loop z) (sym to) (good.leads off s is)),
  )

  -- or there is none
  pub none_off_cycle : (IsOnCycle g m → ⊥) → loop m ≡ None → IsGoodAt g loop m
  none_off_cycle off none = record { continues = λ on. absurd (off on); leads = λ o s q. absurd (none-some s (sym none ∙ q)) }

module _ (g : Grammar) (formed : IsWellFormed g) (entries : List LoopEntry) (steps : List (Option Step)) (are : AreStepsByEntries g entries steps) where
  -- loop steps by entries are steps of their modules
  pub steps_of_modules : AreStepsOfModules g steps
  steps_of_modules = record {
    one_each = are.one_each;
    each = λ m s q. its_step g formed entries (loop_in steps) are.loops are.entries_of m s ((are.loops m s).0 q);
  }

-- a grammar whose loop steps are good at each module has good loops
pub looped : (a : AcceptedValue) (entries : List LoopEntry) (steps : List (Option Step)) → IsAccepted a → AreStepsByEntries a.grammar.core entries steps → AreGoodSteps a.grammar.core (loop_in steps) → IsLooped (record { accepted = a; steps = steps })
looped a entries steps accepted are good = record {
  accepted = accepted;
  entries = entries;
  good = good_from a.grammar.core accepted.formed entries (loop_in steps) are.loops are.entries_of good;
  loops = are.loops;
}

-- what holds of a grammar and a table holds of the same ones
pub of_same : (P : Grammar → List (Option Step) → Type 0) (g h : HeldGrammar) (steps table : List (Option StepHeld)) → g ≡ h → steps ≡ table → P g.core (steps_in steps) → P h.core (steps_in table)
of_same P g h steps table e f p = subst (λ (x : HeldGrammar). P x.core (steps_in table)) e (subst (λ l. P g.core (steps_in l)) f p)
