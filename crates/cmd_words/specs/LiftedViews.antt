-- A safe view that stands for the lifted view of an automaton.
use Rattle.std.specs.Prelude.{◌≡◌}
use Rattle.wf_model.specs.Grammar.{Grammar}
use Rattle.wf_model.specs.View.{View}
use Rattle.words_model.specs.Automata.{Automaton}
use Rattle.words_model.specs.Lifting.{lift, lift_view}
use Rattle.wf_lift.specs.Alike.{PerceiveAlike}
use Rattle.wf_safe.specs.SafeViews.{SafeViewValue}
use Rattle.cmd_words.specs.AutoTold.{IsSafeLifted}

-- it is a view of the lifted grammar, it perceives what the lifted view does, and the lifted view is safe
pub record IsLiftedView (g : Grammar) (u : View) (a : Automaton) (v : SafeViewValue) : Type 0 where
  pub grammar : v.accepted.grammar.core ≡ lift g a.states
  pub alike : PerceiveAlike (lift_view a u) v.view.core
  pub safe : IsSafeLifted g u a
