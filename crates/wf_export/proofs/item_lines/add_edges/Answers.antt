use Rattle.std.proofs.Common.{get_or}
use Rattle.wf_model.specs.declared.body.Edge.{Edge}
use Rattle.wf_model.proofs.Lists.{at_in, is_at}
use Rattle.wf_export.proofs.item_lines.add_edges.Goals as goal

abbrev no_edge : Edge
no_edge = record { from = record { pos = record { 0 = 0 }; port = record { 0 = 0 } }; to = record { pos = record { 0 = 0 }; port = record { 0 = 0 } } }

pub add_edge-requires : goal.add_edge-requires
add_edge-requires c =
    let es = c.args.edges.now in
    let e = get_or es c.loop-e.e-index no_edge in
    c.requires e (at_in e c.loop-e.e-index es (is_at c.loop-e.e-index es no_edge c.loop-e-test.true))
