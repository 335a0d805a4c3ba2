use Rattle.std.proofs.Common.{◌-◌, take, drop, get_or, ap, sym, ◌∙◌, length, arith}
use Rattle.wf_labeller.proofs.Cutting.{bounds_at, piece_at}
use Rattle.wf_labeller.proofs.labels.piece_of.Goals as goal

pub prove-unreachable-requires : goal.prove-unreachable-requires
prove-unreachable-requires c =
    omega (arith, (bounds_at 0 c.args.ends.now (length c.args.bytes.now) c.args.i c.requires.ends c.requires.in_range).0, c.begin_of-begin.ensures, c.if-prove.true)

pub prove-unreachable-requires-2 : goal.prove-unreachable-requires-2
prove-unreachable-requires-2 c =
    omega (arith, (bounds_at 0 c.args.ends.now (length c.args.bytes.now) c.args.i c.requires.ends c.requires.in_range).1, c.if-prove-2.true)

pub returns : goal.returns
returns c =
    ap (λ n. take (get_or c.args.ends.now c.args.i 0 - n) (drop n c.args.bytes.now)) c.begin_of-begin.ensures ∙
    sym (piece_at c.args.bytes.now 0 c.args.ends.now c.args.i c.requires.in_range)
