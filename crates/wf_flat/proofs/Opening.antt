-- What is told of an expand event in each run with so many instances, in that of a table.
use Rattle.std.proofs.Common.{◌≡◌, ◌∙◌, ℕ, List, length, Option, Some, sym, ap}
use Rattle.std.proofs.lemmas.List.{length-map}
use Rattle.wf_model.specs.declared.event.Event.TheVariants.{Expand}
use Rattle.wf_model.specs.declared.event.RunFault.{RunFault}
use Rattle.wf_model.specs.Grammar.{Grammar}
use Rattle.wf_model.specs.Run.{made, names_of}
use Rattle.wf_model.specs.Faults.{fault_of}
use Rattle.run_faults.specs.declared.expand.Found.{Found}
use Rattle.run_faults.specs.Standing.{IsFound}
use Rattle.run_faults.specs.Order.{names_fault, HasFault, IsLeftToNames}
use Rattle.wf_flat.specs.declared.table.Inst.{Inst}
use Rattle.wf_flat.specs.Table.{Table, IsTableOf, names_in, events_of}
use Rattle.wf_flat.proofs.Instances.{same_names}

module _ (g : Grammar) (t : Table) (run : IsTableOf g t) (count : ℕ) (counted : count ≡ length t.instances) (found : Option Found) (name : List ℕ) (told : IsFound g (events_of t) name found) (p : ℕ) (names : List (List ℕ)) where
  as_many : count ≡ length (names_of (made g g.start (events_of t)))
  as_many = counted ∙ (sym (length-map t.instances (λ (x : Inst). x.name)) ∙ sym (ap length (same_names g t run)))

  pub has_fault : (f : RunFault) → HasFault g count found p names f → fault_of g t.most (events_of t) (Expand name p names) ≡ Some f
  has_fault f each = each t.most (events_of t) name run.accepted.0 as_many told

  pub left_to_names : IsLeftToNames g count found p names → fault_of g t.most (events_of t) (Expand name p names) ≡ names_fault t.most (names_in t.instances) names
  left_to_names each = each t.most (events_of t) name run.accepted.0 as_many told ∙ ap (λ l. names_fault t.most l names) (same_names g t run)
