use Rattle.std.proofs.Common.{false, [], ◌∷◌, length, drop, sym, subst, arith}
use Rattle.decode_model.specs.Legs.{way_down, AreLegs}
use Rattle.decode_model.specs.Rows.{Progress}
use Rattle.wf_vlabel.specs.Seen.{matrices_of}
use Rattle.wf_decode.specs.HeldLegs.{AreHeld, legs_of}
use Rattle.wf_decode.proofs.OpenLegs.{opens_first}
use Rattle.wf_decode.proofs.RowBits.{after_products, bit_after}
use Rattle.wf_decode.proofs.Ways.{way_sees, rest_is}
use Rattle.wf_decode.proofs.HeldWays.{some_held, column_of_end, column_of_one}
use Rattle.wf_decode.proofs.decision.legs_left.comes_to.Goals as goal

pub ends_in-requires-clause-seen : goal.ends_in-requires-clause-seen
ends_in-requires-clause-seen g c = let w = c.requires.way in way_sees c.args.vl.now w.0 w.1 (drop c.args.left.from c.args.left.legs.now) c.args.left.at.module.0 w.2 w.3

pub down-last-requires : goal.down-last-requires
down-last-requires g c =
    let l = c.args.vl.now in
    let w = c.requires.way in
    let e = sym (rest_is c.args.left.from c.args.left.legs.now) in
    (w.0, w.1, w.2, subst (AreHeld l w.1 false) e w.3.held, subst (λ z. AreLegs l.grammar w.0 w.1 (legs_of l z)) e w.3.gone)

pub down_leg-last-requires : goal.down_leg-last-requires
down_leg-last-requires g c =
    let w = c.requires.way in
    let n = c.requires.columns.within in
    let d = c.if-left.false in
    opens_first c.args.vl.now w.0 w.1 c.args.left.legs.now c.args.left.from _ w.2 w.3.held w.3.gone (omega arith)

pub returns-then-is_empty : goal.returns-then-is_empty
returns-then-is_empty g c =
    let l = c.args.vl.now in
    let v = matrices_of l in
    let left = c.args.left in
    let rest = drop left.from left.legs.now in
    let row = c.args.row in
    let last = c.down-last.result in
    let start = c.args.steps.now in
    let now = c.down-last.new.steps in
    let p = subst (λ z. Progress (way_down v (legs_of l z)) row last start now) (rest_is left.from left.legs.now) c.down-last.ensures in
    bit_after (way_down v (legs_of l rest)) (v.full left.at.module.0 ∷ []) row last start now c.ends_in.new.steps left.at.port.0 c.ends_in.result (after_products (way_down v (legs_of l rest)) row last start now p) c.ends_in.ensures

pub returns-then-left : goal.returns-then-left
returns-then-left g c =
    let left = c.args.left in
    column_of_end c.args.vl.now left.at.module.0 left.from left.legs.now left.at.port.0 left.ways.now c.args.row c.args.steps.now c.meet.result
    (c.requires.columns.columns (some_held (length left.ways.now) c.is_empty.result c.is_empty.ensures c.if-is_empty.false)) c.if-left.true c.ranges.row.fits c.meet.ensures

pub returns : goal.returns
returns g c =
    let left = c.args.left in
    let n = c.requires.columns.within in
    let d = c.if-left.false in
    column_of_one c.args.vl.now left.at.module.0 left.from left.legs.now _ left.at.port.0 left.ways.now c.args.row c.down_leg-last.result c.args.steps.now c.down_leg-last.new.steps c.meet-2.result
    (c.requires.columns.columns (some_held (length left.ways.now) c.is_empty.result c.is_empty.ensures c.if-is_empty.false)) (omega arith) c.down_leg-last.ensures c.down_leg-last.type_inv c.meet-2.ensures
