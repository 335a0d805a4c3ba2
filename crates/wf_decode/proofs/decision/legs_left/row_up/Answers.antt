use Rattle.std.proofs.Common.{false, length, drop, sym, subst, arith}
use Rattle.decode_model.specs.Legs.{way_up, AreLegs}
use Rattle.decode_model.specs.Rows.{Progress}
use Rattle.wf_vlabel.specs.Seen.{matrices_of}
use Rattle.wf_decode.specs.HeldLegs.{AreHeld, legs_of}
use Rattle.wf_decode.specs.Products.{full_row_of}
use Rattle.wf_decode.proofs.OpenLegs.{opens_first}
use Rattle.wf_decode.proofs.RowBits.{after_products}
use Rattle.wf_decode.proofs.Ways.{way_sees, rest_is}
use Rattle.wf_decode.proofs.HeldWays.{some_held, row_of_none, row_of_one}
use Rattle.wf_decode.proofs.decision.legs_left.row_up.Goals as goal

pub full_row-full-requires : goal.full_row-full-requires
full_row-full-requires g c = let w = c.requires.way in way_sees c.args.vl.now w.0 w.1 (drop c.args.left.from c.args.left.legs.now) c.args.left.at.module.0 w.2 w.3

pub up-requires : goal.up-requires
up-requires g c =
    let l = c.args.vl.now in
    let w = c.requires.way in
    let e = sym (rest_is c.args.left.from c.args.left.legs.now) in
    (w.0, w.1, w.2, subst (AreHeld l w.1 false) e w.3.held, subst (λ z. AreLegs l.grammar w.0 w.1 (legs_of l z)) e w.3.gone)

pub up_leg-requires : goal.up_leg-requires
up_leg-requires g c =
    let w = c.requires.way in
    let n = c.requires.rows.within in
    let d = c.if-left.false in
    opens_first c.args.vl.now w.0 w.1 c.args.left.legs.now c.args.left.from _ w.2 w.3.held w.3.gone (omega arith)

pub returns-then-is_empty : goal.returns-then-is_empty
returns-then-is_empty g c =
    let l = c.args.vl.now in
    let v = matrices_of l in
    let rest = drop c.args.left.from c.args.left.legs.now in
    let start = c.args.steps.now in
    let now = c.up.new.steps in
    let first = full_row_of l c.args.left.at.module.0 c.args.left.at.port.0 in
    let p = subst (λ z. Progress (way_up v (legs_of l z)) c.full_row-full.result c.up.result start now) (rest_is c.args.left.from c.args.left.legs.now) c.up.ensures in
    after_products (way_up v (legs_of l rest)) first c.up.result start now (subst (λ z. Progress (way_up v (legs_of l rest)) z c.up.result start now) c.full_row-full.ensures p)

pub returns-then-left : goal.returns-then-left
returns-then-left g c =
    let left = c.args.left in
    row_of_none c.args.vl.now left.at.module.0 left.from left.legs.now left.at.port.0 left.ways.now c.args.steps.now (c.requires.rows.rows (some_held (length left.ways.now) c.is_empty.result c.is_empty.ensures c.if-is_empty.false)) c.if-left.true

pub returns : goal.returns
returns g c =
    let left = c.args.left in
    let n = c.requires.rows.within in
    let d = c.if-left.false in
    row_of_one c.args.vl.now left.at.module.0 left.from left.legs.now _ left.at.port.0 left.ways.now c.up_leg.result c.args.steps.now c.up_leg.new.steps
    (c.requires.rows.rows (some_held (length left.ways.now) c.is_empty.result c.is_empty.ensures c.if-is_empty.false)) (omega arith) c.up_leg.ensures
