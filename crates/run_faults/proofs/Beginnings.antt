-- A run has begun where it has an instance.
use Rattle.std.proofs.Common.{◌≡◌, ◌==◌, ℕ, Bool, true, false, not, List, [], ◌∷◌, length, refl, arith}
use Rattle.std.proofs.lemmas.Bool.Decides.{nat_tests}
use Rattle.wf_model.specs.Grammar.{Grammar}
use Rattle.wf_model.specs.declared.event.Event.{Event}
use Rattle.wf_model.specs.declared.event.Event.TheVariants.{Start, Expand}
use Rattle.wf_model.specs.Run.{made, IsRun}
use Rattle.wf_model.specs.Faults.{is_nil}

-- a run with no instances has no events, and one with events has instances
pub begun_with : (g : Grammar) (m : ℕ) (events : List Event) → IsRun g m events → (n : ℕ) (empty : Bool) → n ≡ length (made g m events) → empty ≡ (n == 0) → is_nil events ≡ not (not empty)
begun_with g m [] run n true e t = refl
begun_with g m [] run n false e t = grind (arith, nat_tests)
begun_with g m (Start r ∷ events) run n true e t = grind (arith, nat_tests)
begun_with g m (Start r ∷ events) run n false e t = refl
begun_with g m (Expand i p names ∷ events) run n empty e t = absurd run.0.stands
