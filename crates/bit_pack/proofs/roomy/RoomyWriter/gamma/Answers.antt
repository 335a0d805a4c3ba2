use Rattle.std.proofs.Common.{rules, ◌+◌, ◌-◌, ◌<◌, ◌++◌, ◌^◌, length, ap, ◌∙◌, arith, refl}
use Rattle.std.specs.Int.Count.{count_leading_zeros}
use Rattle.bit_pack.specs.Gamma.{gamma}
use Rattle.bit_pack.specs.Rooms.{BitsInRoom}
use Rattle.bit_pack.specs.Written.{first_bits}
use Rattle.bit_pack.proofs.Codes.{code_parts}
use Rattle.bit_pack.proofs.Filling.{length-first_bits}
use Rattle.bit_pack.proofs.roomy.RoomyWriter.gamma.Goals as goal

pub append_within-requires-clause-few : goal.append_within-requires-clause-few
append_within-requires-clause-few c =
    omega (arith, length-first_bits c.self.inside.bytes.items c.self.inside.end c.self.invariant.0.free.inside, ap (λ (w : BitsInRoom). length w.bits) c.self.view_is, ap (λ (w : BitsInRoom). w.room) c.self.view_is, c.requires.room, c.self.ranges)

pub append_within-requires-clause-room : goal.append_within-requires-clause-room
append_within-requires-clause-room c =
    omega (arith, length-first_bits c.self.inside.bytes.items c.self.inside.end c.self.invariant.0.free.inside, ap (λ (w : BitsInRoom). length w.bits) c.self.view_is, ap (λ (w : BitsInRoom). w.room) c.self.view_is, c.requires.room, c.self.invariant.1)

pub overflow_add-self-2 : goal.overflow_add-self-2
overflow_add-self-2 c =
    let fits : c.self.inside.end + (64 - count_leading_zeros 64 c.args.n - 1 + (64 - count_leading_zeros 64 c.args.n)) < 2 ^ 32 =
    omega (arith, length-first_bits c.self.inside.bytes.items c.self.inside.end c.self.invariant.0.free.inside, ap (λ (w : BitsInRoom). length w.bits) c.self.view_is, ap (λ (w : BitsInRoom). w.room) c.self.view_is, c.requires.room, c.self.ranges) in
    search (rules, fits)

pub returns-clause-bits : goal.returns-clause-bits
returns-clause-bits c =
    let code = code_parts c.args.n _ c.requires.from_one (search rules) refl in
    c.append_within.ensures.bits ∙ (ap (λ z. first_bits c.self.inside.bytes.items c.self.inside.end ++ z) code ∙ ap (λ (w : BitsInRoom). w.bits ++ gamma c.args.n) c.self.view_is)

pub returns-clause-few : goal.returns-clause-few
returns-clause-few c =
    let old = length-first_bits c.self.inside.bytes.items c.self.inside.end c.self.invariant.0.free.inside in
    let new = length-first_bits c.append_within.new.bytes.items _ c.append_within.ensures.filled.free.inside in
    omega (arith, old, new, ap (λ (w : BitsInRoom). length w.bits) c.self.view_is)
