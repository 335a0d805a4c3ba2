use Rattle.std.proofs.Common.{◌≡◌, ◌+◌, arith}
use Rattle.decode_model.proofs.RowProducts.{progress_law}
use Rattle.wf_vlabel.specs.Seen.{matrices_of}
use Rattle.wf_decode.specs.HeldLegs.{module_on}
use Rattle.wf_decode.specs.Ways.{square_on}
use Rattle.wf_decode.proofs.Progressing.{square_one}
use Rattle.wf_decode.proofs.Digits.{passed_over, some_higher}
use Rattle.wf_decode.proofs.rows.rounds.whole_rounds.Goals as goal

pub loop-k-init : goal.loop-k-init
loop-k-init g c =
    let square = square_on c.args.way (matrices_of c.args.vl.now) (module_on c.args.vl.now.cycles c.args.cycle.0 c.args.place) in
    let next = c.next_digit-k.ensures in
    (next.within, next.one, passed_over square c.args.rounds 0 c.next_digit-k.result c.args.row c.args.row c.args.steps.now c.args.steps.now next.from next.zeros (progress_law.none c.args.row c.args.steps.now))

pub loop-k-preserved : goal.loop-k-preserved
loop-k-preserved g c =
    let square = square_on c.args.way (matrices_of c.args.vl.now) (module_on c.args.vl.now.cycles c.args.cycle.0 c.args.place) in
    let q = c.args.rounds in
    let k = c.loop-k.k in
    let start = c.args.steps.now in
    let inv = c.loop-k.invariant in
    let next = c.next_digit-k-in-loop-k.ensures in
    let more = square_one square q k c.args.row c.loop-k.row start c.loop-k.steps c.row_times-row.result c.row_times-row.new.steps inv.2 (inv.1 c.loop-k-test.true) (rw c.square.ensures at c.row_times-row.ensures.union) c.row_times-row.ensures.cost in
    (next.within, next.one, passed_over square q (k + 1) c.next_digit-k-in-loop-k.result c.args.row c.row_times-row.result start c.row_times-row.new.steps next.from next.zeros more)

pub returns : goal.returns
returns g c =
    let square = square_on c.args.way (matrices_of c.args.vl.now) (module_on c.args.vl.now.cycles c.args.cycle.0 c.args.place) in
    let inv = c.loop-k.invariant in
    let end = c.still_square-end.result in
    let all : c.loop-k.k ≡ end = omega (arith, inv.0, c.loop-k-test.false) in
    some_higher square c.args.rounds c.loop-k.k end c.args.row c.loop-k.row c.args.steps.now c.loop-k.steps c.still_square-end.ensures.still all inv.2 c.row_times.result c.row_times.new.steps c.if-rounds-end-eq0.false
    (rw c.square-2.ensures at c.row_times.ensures.union) c.row_times.ensures.cost
