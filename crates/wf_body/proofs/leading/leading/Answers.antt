use Rattle.std.proofs.Common.{ap, subst, ◌∙◌, map}
use Rattle.std.proofs.lemmas.List.{take_all}
use Rattle.wf_model.specs.Grammar.{Production}
use Rattle.wf_model.specs.Meaning.{edge_of}
use Rattle.wf_body.proofs.Feeding.{held_within}
use Rattle.wf_body.proofs.Listing.{AreListed, listed_next}
use Rattle.wf_body.proofs.Ordering.{count_is}
use Rattle.wf_body.proofs.leading.leading.Goals as goal

pub loop-e-init : goal.loop-e-init
loop-e-init c = record {
  count = c.in_ok-lists.ensures.count;
  listed = λ k e. ((λ h. absurd (c.in_ok-lists.ensures.none k e h)), λ j. absurd j.0);
}

pub add_edge-requires : goal.add_edge-requires
add_edge-requires c =
    let count = c.loop-e.invariant.count ∙ count_is c.args.g.now.core c.args.p.0 c.positions-count.result.now c.production.result.now.core c.positions-count.ensures c.production.ensures.core in
    rw count (held_within c.args.g.now.core c.args.p.0 c.edges-edges.result.now c.loop-e.e-index _ c.production.ensures.formed c.requires
    (c.edges-edges.ensures ∙ ap (λ (r : Production). r.edges) c.production-2.ensures.core) c.loop-e-test.true)

pub loop-e-preserved : goal.loop-e-preserved
loop-e-preserved c =
    record {
      count = c.in_ok-add_edge.ensures.count ∙ c.loop-e.invariant.count;
      listed = listed_next c.edges-edges.result.now c.loop-e.e-index _ c.loop-e.lists.items c.add_edge.new.lists.items c.loop-e-test.true c.loop-e.invariant.listed c.in_ok-add_edge.ensures.added;
    }

pub returns-clause-count : goal.returns-clause-count
returns-clause-count c = c.loop-e.invariant.count ∙ count_is c.args.g.now.core c.args.p.0 c.positions-count.result.now c.production.result.now.core c.positions-count.ensures c.production.ensures.core

pub returns-clause-leading : goal.returns-clause-leading
returns-clause-leading c =
    let same = c.edges-edges.ensures ∙ ap (λ (r : Production). r.edges) c.production-2.ensures.core in
    subst (λ es. AreListed es c.loop-e.lists.items) (ap (map edge_of) (take_all c.loop-e.e-index c.edges-edges.result.now c.loop-e-test.false) ∙ same) c.loop-e.invariant.listed
