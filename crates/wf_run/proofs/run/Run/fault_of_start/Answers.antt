use Rattle.std.proofs.Common.{length, ap, sym, ◌∙◌}
use Rattle.std.proofs.lemmas.List.{length-map}
use Rattle.wf_model.specs.declared.event.Event.TheVariants.{Start}
use Rattle.wf_model.specs.Faults.{fault_of}
use Rattle.wf_run.specs.Runs.{RunSeen}
use Rattle.wf_run.proofs.Begun.{begun_told}
use Rattle.wf_run.proofs.run.Run.fault_of_start.Goals as goal

pub returns : goal.returns
returns c events run =
    let r = c.args.self.now in
    let same = c.self.inside.nodes.ok.0 ∙ (sym (length-map _ _) ∙ ap (λ (r : RunSeen). length r.nodes) c.self.view_is) in
    c.start_fault.ensures r.grammar.core events (begun_told r events run _ _ same c.is_empty.ensures)
    ∙ ap (λ (v : RunSeen). fault_of r.grammar.core v.most events (Start c.args.name.now)) c.self.view_is
