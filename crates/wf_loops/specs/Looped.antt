-- An accepted grammar with good loops.
use Rattle.std.specs.Prelude.{List, get_or, Option, None}
use Rattle.wf_model.specs.Reach.{Step}
use Rattle.wf_accept.specs.Accepted.{AcceptedValue, IsAccepted}
use Rattle.package_model.specs.Packages.{LoopEntry}
use Rattle.package_model.specs.Loops.{AreLoopsOf, AreGoodLoops}
use Rattle.package_model.specs.Translating.{Loops}

-- an accepted grammar, and for each of its modules the loop step, if it has one
pub record LoopedValue : Type 0 where
  pub accepted : AcceptedValue
  pub steps : List (Option Step)

-- the loop step of each module, by a list of them: none past the end
abbrev pub loop_in : List (Option Step) → Loops
loop_in steps m = get_or steps m None

-- the grammar is accepted, and the steps are those of loops that are good
pub record IsLooped (l : LoopedValue) : Type 0 where
  pub accepted : IsAccepted l.accepted
  pub entries : List LoopEntry
  pub good : AreGoodLoops l.accepted.grammar.core entries
  pub loops : AreLoopsOf l.accepted.grammar.core entries (loop_in l.steps)
