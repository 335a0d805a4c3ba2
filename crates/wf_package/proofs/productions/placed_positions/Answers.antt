use Rattle.std.proofs.Common.{◌∙◌, ◌++◌, ◌∷◌, [], map, get_or, ap, arith}
use Rattle.std.proofs.lemmas.List.{map-append, get_or_default}
use Rattle.wf_model.specs.Meaning.{position_of}
use Rattle.wf_spec.proofs.Tables.{get_in}
use Rattle.wf_package.specs.Parts.{position_part}
use Rattle.wf_package.proofs.ByPlace.{place_more, place_all}
use Rattle.wf_package.proofs.PlacedParts.{positions_made}
use Rattle.wf_package.proofs.productions.placed_positions.Goals as goal

pub bounds-places-positions : goal.bounds-places-positions
bounds-places-positions c =
    c.requires.in_range (get_or c.args.positions.now c.loop-k.k c.index-positions-k.result) (get_in c.loop-k.k c.args.positions.now c.index-positions-k.result c.loop-k-test.true)

pub loop-k-preserved : goal.loop-k-preserved
loop-k-preserved c =
    let q = get_or c.args.positions.now c.loop-k.k c.index-positions-k.result in
    place_more (position_part c.args.places.now) c.args.positions.now c.loop-k.k q c.loop-k-test.true (get_or_default c.args.positions.now c.loop-k.k c.index-positions-k.result q c.loop-k-test.true) c.loop-k.invariant
    (ap (map position_of) c.in_ok-push.ensures.items ∙ map-append position_of c.loop-k.list.items _
    ∙ ap (λ n. map position_of c.loop-k.list.items ++ record { name = n; module_no = get_or c.args.places.now q.module.0 0 } ∷ []) c.in_ok-name.ensures)

pub returns : goal.returns
returns c =
    c.loop-k.invariant ∙ place_all (position_part c.args.places.now) c.args.positions.now c.loop-k.k (omega (arith, c.loop-k-test.false)) ∙ positions_made c.args.places.now 0 c.args.positions.now
