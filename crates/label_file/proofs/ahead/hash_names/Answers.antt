use Rattle.std.proofs.Common.{◌≡◌, ◌∙◌, [], length, take, drop, sym, ap, subst, arith, append-nil}
use Rattle.std.proofs.Math.ListN.{length-set}
use Rattle.std.proofs.Math.Seq.{take-length}
use Rattle.std.proofs.lemmas.List.{take-append-drop}
use Rattle.label_file.specs.Hashed.{AreNamesAhead, name_hash}
use Rattle.label_file.proofs.NamesAhead.{none_ahead, one_ahead}
use Rattle.label_file.proofs.ahead.hash_names.Goals as goal

pub loop-i-init : goal.loop-i-init
loop-i-init c = (c.told-names, λ ns h. h)

pub loop-i-preserved : goal.loop-i-preserved
loop-i-preserved c =
    let inv = c.loop-i.invariant in
    let size = inv.0 in
    let low = c.loop-i-test.true in (
      length-set c.loop-i.names c.loop-i.i c.new.result ∙ inv.0,
      one_ahead c.args.keyed.now c.args.bytes.now c.loop-i.left.now c.in-Some.front.rest.now _ c.new.result c.loop-i.names c.loop-i.i (omega arith) inv.1 c.in-Some.ensures.some c.new.ensures.bytes (c.new.ensures.hash ∙ ap (name_hash c.args.keyed.now) (sym c.new.ensures.bytes)),
    )

pub returns-after-loop-i : goal.returns-after-loop-i
returns-after-loop-i c =
    let inv = c.loop-i.invariant in
    let size = inv.0 in
    let end = c.loop-i.auto.i-end in
    let done = c.loop-i-test.false in
    let e : c.loop-i.i ≡ length c.loop-i.names = omega arith in
    subst (AreNamesAhead c.args.keyed.now c.args.bytes.now) (append-nil (take c.loop-i.i c.loop-i.names) ∙ (ap (λ k. take k c.loop-i.names) e ∙ take-length c.loop-i.names)) (inv.1 [] tt)

pub returns-in_default : goal.returns-in_default
returns-in_default c = subst (AreNamesAhead c.args.keyed.now c.args.bytes.now) (take-append-drop c.loop-i.i c.loop-i.names) (c.loop-i.invariant.1 (drop c.loop-i.i c.loop-i.names) (none_ahead c.args.keyed.now c.loop-i.left.now _ c.in_default.ensures.none))
