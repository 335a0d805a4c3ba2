use Rattle.std.proofs.Common.{length, ap, sym, ◌∙◌}
use Rattle.wf_model.specs.declared.event.Event.TheVariants.{Start}
use Rattle.wf_model.specs.Faults.{fault_of}
use Rattle.run_faults.proofs.Beginnings.{begun_with}
use Rattle.wf_flat.specs.Table.{Table, events_of}
use Rattle.wf_flat.proofs.Instances.{same_count}
use Rattle.wf_flat.proofs.table.PlainRun.start_fault.Goals as goal

pub returns : goal.returns
returns c =
    let g = c.args.g.now.core in
    let t = c.args.self.now in
    let count = c.self.inside.instances.ok.0 ∙ (ap (λ (t : Table). length t.instances) c.self.view_is ∙ sym (same_count g t c.requires)) in
    c.start_fault.ensures g (events_of t) (begun_with g g.start (events_of t) c.requires.accepted.0 _ _ count c.is_empty.ensures)
    ∙ ap (λ (r : Table). fault_of g r.most (events_of t) (Start c.args.name.now)) c.self.view_is
