use Rattle.std.proofs.Common.{◌≡◌, ◌+◌, ◌/◌, length, drop, sym, ap, ◌∙◌, arith}
use Rattle.std.proofs.lemmas.List.{take_at, length-take-le}
use Rattle.bit_pack.specs.Written.{first_bits}
use Rattle.bit_pack.proofs.Cutting.{filled_whole, first_kept}
use Rattle.bit_pack.proofs.cut.cut.Goals as goal

pub clear_from-requires-clause-last : goal.clear_from-requires-clause-last
clear_from-requires-clause-last c =
    omega (arith, ap length c.deref_mut.ensures.value, ap length c.truncate.ensures.items, length-take-le ((c.args.count + 7) / 8) c.args.bytes.now.items (omega (arith, c.requires)))

pub returns-then-at-ne0-clause-bits : goal.returns-then-at-ne0-clause-bits
returns-then-at-ne0-clause-bits c =
    let room = c.truncate.new.self in
    let new = c.clear_from.new.bytes in
    let long : length new ≡ length room.items = c.clear_from.auto.bytes ∙ ap length c.deref_mut.ensures.value in
    let is = take_at new (drop (length new) room.items) room.len (long ∙ sym room.ok.0) in
    ap (λ z. first_bits z c.args.count) is ∙ (c.clear_from.ensures.bits ∙ (ap (λ z. first_bits z c.args.count) (c.deref_mut.ensures.value ∙ c.truncate.ensures.items) ∙
    first_kept c.args.bytes.now.items c.args.count ((c.args.count + 7) / 8) (omega arith) (omega (arith, c.requires))))

pub returns-else-at-ne0-clause-bits : goal.returns-else-at-ne0-clause-bits
returns-else-at-ne0-clause-bits c =
    ap (λ z. first_bits z c.args.count) c.truncate.ensures.items ∙ first_kept c.args.bytes.now.items c.args.count ((c.args.count + 7) / 8) (omega arith) (omega (arith, c.requires))

pub returns-else-at-ne0-clause-filled : goal.returns-else-at-ne0-clause-filled
returns-else-at-ne0-clause-filled c =
    filled_whole c.truncate.new.self.items c.args.count (omega (arith, c.if-at-ne0.false, ap length c.truncate.ensures.items, length-take-le ((c.args.count + 7) / 8) c.args.bytes.now.items (omega (arith, c.requires))))
