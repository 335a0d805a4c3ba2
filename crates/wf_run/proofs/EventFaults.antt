-- What is told of an expand event in each run with so many instances, in one of them.
use Rattle.std.proofs.Common.{◌≡◌, ◌∙◌, ℕ, List, length, Option, Some, sym, ap}
use Rattle.wf_model.specs.declared.event.Event.{Event}
use Rattle.wf_model.specs.declared.event.Event.TheVariants.{Expand}
use Rattle.wf_model.specs.declared.event.RunFault.{RunFault}
use Rattle.wf_model.specs.Run.{made, names_of}
use Rattle.wf_model.specs.Faults.{fault_of}
use Rattle.run_faults.specs.declared.expand.Found.{Found}
use Rattle.run_faults.specs.Standing.{IsFound}
use Rattle.run_faults.specs.Order.{names_fault, HasFault, IsLeftToNames}
use Rattle.wf_run.specs.Runs.{RunSeen, IsRunOf}
use Rattle.wf_run.proofs.NamedInstances.{names_count}

module _ (r : RunSeen) (events : List Event) (run : IsRunOf r events) (count : ℕ) (counted : count ≡ length r.nodes) (found : Option Found) (name : List ℕ) (told : IsFound r.grammar.core events name found) (p : ℕ) (names : List (List ℕ)) where
  as_many : count ≡ length (names_of (made r.grammar.core r.grammar.core.start events))
  as_many = counted ∙ (sym (names_count r events run) ∙ ap length run.names)

  pub has_fault : (f : RunFault) → HasFault r.grammar.core count found p names f → fault_of r.grammar.core r.most events (Expand name p names) ≡ Some f
  has_fault f each = each r.most events name run.accepted.0 as_many told

  pub left_to_names : IsLeftToNames r.grammar.core count found p names → fault_of r.grammar.core r.most events (Expand name p names) ≡ names_fault r.most r.names names
  left_to_names each = each r.most events name run.accepted.0 as_many told ∙ ap (λ l. names_fault r.most l names) (sym run.names)
