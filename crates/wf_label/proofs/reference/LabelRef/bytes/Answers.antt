use Rattle.std.proofs.Common.{subst}
use Rattle.bit_pack.specs.Bits.{Holds}
use Rattle.bit_pack.proofs.Packing.{packed_law}
use Rattle.bit_pack.proofs.Filling.{filled_holds}
use Rattle.wf_label.proofs.reference.LabelRef.bytes.Goals as goal

pub returns-clause-holds : goal.returns-clause-holds
returns-clause-holds c = subst (Holds c.self.inside.bytes.now) c.self.view_is (filled_holds c.self.inside.bytes.now c.self.inside.end c.self.invariant.filled)

pub returns-clause-packed : goal.returns-clause-packed
returns-clause-packed c =
    let h = filled_holds c.self.inside.bytes.now c.self.inside.end c.self.invariant.filled in
    (packed_law c.args.self.now).only c.self.inside.bytes.now c.self.invariant.are_bytes (subst (Holds c.self.inside.bytes.now) c.self.view_is h)
