-- What contracts see of a safe view of an accepted grammar, and what is so of it.
use Rattle.std.specs.Prelude.{ℕ, List, Option}
use Rattle.wf_model.specs.Safe.{IsSafe}
use Rattle.wf_accept.specs.Accepted.{AcceptedValue, IsAccepted}
use Rattle.wf_view.specs.Held.{HeldView, IsHeldFor}
use Rattle.wf_safe.specs.Full.{AreFullRows}

-- an accepted grammar, a view, and the rows of pairs of its modules
pub record SafeViewValue : Type 0 where
  pub accepted : AcceptedValue
  pub view : HeldView
  pub full : List (Option (List ℕ))

-- the grammar is accepted, the view is one of it and safe, and the rows have exactly the pairs that every expansion of a seen module joins
pub record IsSafeView (v : SafeViewValue) : Type 0 where
  pub accepted : IsAccepted v.accepted
  pub held : IsHeldFor v.accepted.grammar.core v.view
  pub safe : IsSafe v.accepted.grammar.core v.view.core
  pub full : AreFullRows v.accepted.grammar.core v.view.core v.full
