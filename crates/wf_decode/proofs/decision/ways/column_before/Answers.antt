use Rattle.std.proofs.Common.{◌≡◌, ℕ, ◌+◌, ◌*◌, length, subst, arith}
use Rattle.decode_model.specs.Legs.{leg_down}
use Rattle.wf_vlabel.specs.Seen.{matrices_of}
use Rattle.wf_decode.specs.HeldLegs.{leg_of}
use Rattle.wf_decode.specs.HeldWays.{IsColumnBefore}
use Rattle.wf_decode.proofs.HeldColumns.{before_none, before_more}
use Rattle.wf_decode.proofs.decision.ways.column_before.Goals as goal

-- as many products more
once_more : (start now later i n : ℕ) → now ≡ start + i * n → later ≡ now + n → later ≡ start + (i + 1) * n
once_more start now later i n e f = let g : (i + 1) * n ≡ i * n + n = grind arith in omega arith

pub loop-i-init : goal.loop-i-init
loop-i-init g c = record { column = before_none (leg_down (matrices_of c.args.vl.now) (leg_of c.args.vl.now c.args.leg)) c.args.column; counted = omega arith }

pub loop-i-preserved : goal.loop-i-preserved
loop-i-preserved g c =
    let ms = leg_down (matrices_of c.args.vl.now) (leg_of c.args.vl.now c.args.leg) in
    let e = c.input_before-before.ensures in
    record {
      column = before_more ms c.args.column c.loop-i.i c.loop-i.before c.input_before-before.result c.loop-i.invariant.column e.leads e.within;
      counted = once_more c.args.steps.now c.loop-i.steps c.input_before-before.new.steps c.loop-i.i (length ms) c.loop-i.invariant.counted e.cost;
    }

pub returns-clause-column : goal.returns-clause-column
returns-clause-column g c =
    let ms = leg_down (matrices_of c.args.vl.now) (leg_of c.args.vl.now c.args.leg) in
    let a = c.loop-i-test.false in
    let b = c.loop-i.auto.i-end in
    let e : c.loop-i.i ≡ 64 = omega arith in
    subst (λ z. IsColumnBefore ms c.args.column z c.loop-i.before) e c.loop-i.invariant.column

pub returns-clause-cost : goal.returns-clause-cost
returns-clause-cost g c =
    let ms = leg_down (matrices_of c.args.vl.now) (leg_of c.args.vl.now c.args.leg) in
    let a = c.loop-i-test.false in
    let b = c.loop-i.auto.i-end in
    let e : c.loop-i.i ≡ 64 = omega arith in
    subst (λ z. c.loop-i.steps ≡ c.args.steps.now + z * length ms) e c.loop-i.invariant.counted
