use Rattle.std.proofs.Common.{length, ap, sym, ◌∙◌}
use Rattle.bit_pack.proofs.Filling.{length-first_bits}
use Rattle.wf_label.proofs.reference.LabelRef.length.Goals as goal

pub returns : goal.returns
returns c = sym (length-first_bits c.self.inside.bytes.now c.self.inside.end c.self.invariant.filled.free.inside) ∙ ap length c.self.view_is
