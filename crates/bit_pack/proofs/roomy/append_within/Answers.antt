use Rattle.std.proofs.Common.{◌≡◌, ◌+◌, ◌++◌, drop, length, replicate, false, sym, ap, ◌∙◌, subst}
use Rattle.std.proofs.lemmas.List.{take_at}
use Rattle.bit_pack.specs.Bits.{low_bits}
use Rattle.bit_pack.specs.Written.{first_bits, IsFilled}
use Rattle.bit_pack.proofs.Filling.{digits_place, appended_bits, appended_filled}
use Rattle.bit_pack.proofs.roomy.append_within.Goals as goal

pub put_number-requires-clause-free : goal.put_number-requires-clause-free
put_number-requires-clause-free c = digits_place _ _ _ _ _ _ c.fill_up.ensures.place c.deref_mut.ensures.value

pub returns-clause-bits : goal.returns-clause-bits
returns-clause-bits c =
    let room = c.fill_up.new.bytes in
    let new = c.put_number.new.bytes in
    let long : length new ≡ length room.items = c.put_number.auto.bytes ∙ ap length c.deref_mut.ensures.value in
    let is = take_at new (drop (length new) room.items) room.len (long ∙ sym room.ok.0) in
    subst (λ z. first_bits z (c.args.at + (c.args.zeros + c.args.digits)) ≡ first_bits c.args.bytes.now.items c.args.at ++ (replicate c.args.zeros false ++ low_bits c.args.digits c.args.number)) (sym is)
    (appended_bits _ _ _ _ _ _ _ _ c.fill_up.ensures.place c.deref_mut.ensures.value c.put_number.ensures c.put_number.auto.bytes)

pub returns-clause-filled : goal.returns-clause-filled
returns-clause-filled c =
    let room = c.fill_up.new.bytes in
    let new = c.put_number.new.bytes in
    let long : length new ≡ length room.items = c.put_number.auto.bytes ∙ ap length c.deref_mut.ensures.value in
    let is = take_at new (drop (length new) room.items) room.len (long ∙ sym room.ok.0) in
    subst (λ z. IsFilled z (c.args.at + (c.args.zeros + c.args.digits))) (sym is)
    (appended_filled _ _ _ _ _ _ _ _ c.fill_up.ensures.place c.deref_mut.ensures.value c.put_number.ensures c.put_number.auto.bytes)
