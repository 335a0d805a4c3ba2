use Rattle.std.proofs.Common.{map, ap, ◌∙◌, subst}
use Rattle.std.proofs.lemmas.List.{take_all}
use Rattle.wf_model.specs.Meaning.{edge_of}
use Rattle.wf_model.specs.Grammar.{Production}
use Rattle.wf_body.proofs.Feeding.{FedBy, fed_none, fed_next, held_small}
use Rattle.wf_body.proofs.order.feeders.Goals as goal

pub loop-e-init : goal.loop-e-init
loop-e-init c = fed_none

pub single-requires : goal.single-requires
single-requires c =
    (held_small c.args.g.now.core c.args.p.0 c.edges-edges.result.now c.loop-e.e-index _ c.production.ensures.formed c.requires
    (c.edges-edges.ensures ∙ ap (λ (r : Production). r.edges) c.production.ensures.core) c.loop-e-test.true).from

pub add-requires : goal.add-requires
add-requires c =
    rw c.loop-e-test.array_long
    (held_small c.args.g.now.core c.args.p.0 c.edges-edges.result.now c.loop-e.e-index _ c.production.ensures.formed c.requires
    (c.edges-edges.ensures ∙ ap (λ (r : Production). r.edges) c.production.ensures.core) c.loop-e-test.true).to

pub loop-e-preserved : goal.loop-e-preserved
loop-e-preserved c = fed_next c.edges-edges.result.now c.loop-e.e-index _ c.loop-e.words c.add.new.words c.single.result c.loop-e-test.true c.loop-e.invariant c.add.ensures c.single.ensures.columns

pub returns : goal.returns
returns c =
    let same = c.edges-edges.ensures ∙ ap (λ (r : Production). r.edges) c.production.ensures.core in
    subst (λ es. FedBy es c.loop-e.words) (ap (map edge_of) (take_all c.loop-e.e-index c.edges-edges.result.now c.loop-e-test.false) ∙ same) c.loop-e.invariant
