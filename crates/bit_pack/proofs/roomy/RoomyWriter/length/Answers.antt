use Rattle.std.proofs.Common.{length, ap, sym, ◌∙◌}
use Rattle.bit_pack.specs.Rooms.{BitsInRoom}
use Rattle.bit_pack.proofs.Filling.{length-first_bits}
use Rattle.bit_pack.proofs.roomy.RoomyWriter.length.Goals as goal

pub returns : goal.returns
returns c = sym (length-first_bits c.self.inside.bytes.items c.self.inside.end c.self.invariant.0.free.inside) ∙ ap (λ (w : BitsInRoom). length w.bits) c.self.view_is
