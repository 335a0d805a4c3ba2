use Rattle.std.proofs.Common.{get_or}
use Rattle.wf_model.specs.Meaning.{edge_of}
use Rattle.wf_spec.proofs.Graphs.{edge_there}
use Rattle.wf_model.proofs.Absent.{no_edge}
use Rattle.wf_form.proofs.links.cycle.leads_back.Goals as goal

pub bounds-marks-e : goal.bounds-marks-e
bounds-marks-e c =
    let xs = c.args.edges.now in
    let k = c.loop-e.e-index in
    c.requires (edge_of (get_or xs k no_edge)) (edge_there xs k no_edge c.loop-e-test.true)
