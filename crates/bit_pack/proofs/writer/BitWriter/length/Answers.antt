use Rattle.std.proofs.Common.{length, ap, sym, ◌∙◌}
use Rattle.bit_pack.specs.Written.{held_bytes}
use Rattle.bit_pack.proofs.Filling.{length-first_bits}
use Rattle.bit_pack.proofs.writer.BitWriter.length.Goals as goal

pub returns : goal.returns
returns c =
    let i = c.self.inside in
    sym (length-first_bits (held_bytes i.eight i.bytes.items i.end) i.end c.self.invariant.written.filled.free.inside) ∙ ap length c.self.view_is
