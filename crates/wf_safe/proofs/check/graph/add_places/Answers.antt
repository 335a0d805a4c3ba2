use Rattle.std.proofs.Common.{◌∙◌, Some, ap, subst, map}
use Rattle.std.proofs.lemmas.List.{drop_all}
use Rattle.wf_model.specs.Grammar.{Position, body_of}
use Rattle.wf_model.specs.Links.{pair_links, place_links}
use Rattle.wf_model.specs.Meaning.{pairs_of, position_of}
use Rattle.wf_model.specs.declared.body.Position.{Position as PositionHeld}
use Rattle.wf_model.proofs.Lists.{at_in}
use Rattle.wf_body.proofs.Feeding.{few_at}
use Rattle.wf_safe.specs.BodyGraph.{AddsLinks}
use Rattle.wf_safe.proofs.BodyLinks.{body_is, places_step, read_stands}
use Rattle.wf_safe.proofs.LinkGraphs.{completes_more, completes_all}
use Rattle.wf_safe.proofs.check.graph.add_places.Goals as goal

pub add_pairs-requires-clause-module_no : goal.add_pairs-requires-clause-module_no
add_pairs-requires-clause-module_no c =
    let g = c.args.g.now.core in
    let p = c.args.p.0 in
    let q = c.index-positions-k.result in
    let stands = read_stands g p c.loop-k.k c.positions-positions.result.now c.production.result.now.core q c.positions-positions.ensures c.production.ensures.core c.loop-k-test.true c.index-positions-k.is in
    (few_at g p q.«module».0 c.loop-k.k c.production.ensures.formed c.requires.production stands).1

pub add_pairs-requires-clause-rows : goal.add_pairs-requires-clause-rows
add_pairs-requires-clause-rows c =
    let g = c.args.g.now.core in
    let p = c.args.p.0 in
    let q = c.index-positions-k.result in
    let stands = read_stands g p c.loop-k.k c.positions-positions.result.now c.production.result.now.core q c.positions-positions.ensures c.production.ensures.core c.loop-k-test.true c.index-positions-k.is in
    c.requires.rows q.«module».0 (at_in q.«module».0 c.loop-k.k (body_of g p) stands)

pub loop-k-preserved : goal.loop-k-preserved
loop-k-preserved c =
    let g = c.args.g.now.core in
    let d = pairs_of c.args.deps.now in
    let q = c.index-positions-k.result in
    let one = ap (λ (z : PositionHeld). pair_links g d z.«module».0 (Some c.loop-k.k)) c.index-positions-k.is in
    record {
      count = c.in_ok-add_pairs.ensures.count ∙ c.loop-k.invariant.count;
      left = completes_more _ _ _ _ _ c.loop-k.graph.items c.add_pairs.new.graph.items (places_step g d c.positions-positions.result.now c.loop-k.k q c.loop-k-test.true)
          (subst (λ l. AddsLinks l c.loop-k.graph.items c.add_pairs.new.graph.items) one c.in_ok-add_pairs.ensures) c.loop-k.invariant.left;
    }

pub returns : goal.returns
returns c =
    let g = c.args.g.now.core in
    let d = pairs_of c.args.deps.now in
    let ps = c.positions-positions.result.now in
    let rest = ap (λ l. place_links g d c.loop-k.k (map (λ (z : Position). z.module_no) (map position_of l))) (drop_all c.loop-k.k ps c.loop-k-test.false) in
    subst (λ l. AddsLinks (place_links g d 0 l) c.args.graph.now.items c.loop-k.graph.items) (body_is g c.args.p.0 ps c.production.result.now.core c.positions-positions.ensures c.production.ensures.core)
    (completes_all _ _ c.args.graph.now.items c.loop-k.graph.items rest c.loop-k.invariant.left)
