use Rattle.std.proofs.Common.{refl, sym, subst, arith}
use Rattle.std.specs.List.{All}
use Rattle.bit_pack.specs.Bits.{bits_of}
use Rattle.bit_pack.proofs.Packing.{length-bits_of}
use Rattle.wf_label.specs.Checkpoints.{IsCheckpoint}
use Rattle.wf_label.proofs.Shared.{shared_with}
use Rattle.wf_label.proofs.checker.Checker.go_back.Goals as goal

pub loop-left-init : goal.loop-left-init
loop-left-init c = record {
  left = c.self.invariant.0;
  count = c.self.invariant.0;
  checkpoints = subst (λ g. All (IsCheckpoint g) c.self.inside.checkpoints) c.self.view_is c.self.invariant.1;
  same = c.self.view_is;
}

pub invariant_of-self : goal.invariant_of-self
invariant_of-self c =
    let i = c.loop-left.invariant in
    (i.count, subst (λ g. All (IsCheckpoint g) c.loop-left.self-inside.checkpoints) (sym i.same) i.checkpoints)

pub begins_with-requires : goal.begins_with-requires
begins_with-requires c = record { some = (c.checkpoint_at-checkpoint.ensures c.args.self.now c.loop-left.invariant.checkpoints).some }

pub invariant_of-self-then-begins_with : goal.invariant_of-self-then-begins_with
invariant_of-self-then-begins_with c =
    let i = c.loop-left.invariant in
    (i.left, subst (λ g. All (IsCheckpoint g) c.loop-left.self-inside.checkpoints) (sym i.same) i.checkpoints)

pub returns-then-begins_with-clause-shared : goal.returns-then-begins_with-clause-shared
returns-then-begins_with-clause-shared c =
    let bytes = c.args.short.bytes.now in
    let checkpoint = c.checkpoint_at-checkpoint.ensures c.args.self.now c.loop-left.invariant.checkpoints in
    let inside = c.if-begins_with.ensures.inside refl in
    shared_with c.args.self.now (bits_of bytes) _ checkpoint (omega (arith, inside, length-bits_of bytes)) (c.if-begins_with.ensures.front refl)

pub returns-then-begins_with-clause-same : goal.returns-then-begins_with-clause-same
returns-then-begins_with-clause-same c = c.loop-left.invariant.same

pub returns-clause-same : goal.returns-clause-same
returns-clause-same c = c.loop-left.invariant.same
