-- An event that has no fault goes on with a run.
use Rattle.std.proofs.Common.{◌≡◌, ℕ, List, [], ◌∷◌, ◌++◌, None, Some, sym}
use Rattle.std.specs.Prelude.{position, bytes_eq}
use Rattle.wf_model.specs.WellFormed.{IsWellFormed}
use Rattle.wf_model.specs.declared.event.Event.{Event}
use Rattle.wf_model.specs.declared.event.Event.TheVariants.{Expand}
use Rattle.wf_model.specs.Run.{IsAccepted}
use Rattle.wf_model.specs.Faults.{fault_of}
use Rattle.wf_model.proofs.Taking.{taking_law}
use Rattle.wf_run.specs.Runs.{RunSeen, IsRunOf}
use Rattle.wf_run.specs.Opening.{opened_run}
use Rattle.wf_run.proofs.NamedInstances.{its_name}
use Rattle.wf_run.proofs.OpenedRun.{opened_is_run}

module _ (r : RunSeen) (events : List Event) (run : IsRunOf r events) where
  pub accepted_next : (e : Event) → fault_of r.grammar.core r.most events e ≡ None → IsAccepted r.grammar.core r.most (events ++ e ∷ [])
  accepted_next e f = (taking_law r.grammar.core r.most events e run.accepted).0 f

  -- a run after its instance of a name is expanded
  pub expanded_next : IsWellFormed r.grammar.core → (name : List ℕ) (k p : ℕ) (names : List (List ℕ)) → position (bytes_eq name) r.names ≡ Some k → fault_of r.grammar.core r.most events (Expand name p names) ≡ None →
      IsRunOf (opened_run r k p names) (events ++ Expand name p names ∷ [])
  expanded_next wf name k p names e f =
      let q = its_name r events run name k e in
      opened_is_run r events k p name names wf run q.0 (sym q.1) (accepted_next (Expand name p names) f)
