use Rattle.std.proofs.Common.{◌+◌, ◌-◌, ◌/◌, ◌++◌, take, replicate, ap, ◌∙◌, refl}
use Rattle.bit_pack.proofs.Filling.{room_made}
use Rattle.bit_pack.proofs.put.make_room.Goals as goal

pub returns-clause-ok : goal.returns-clause-ok
returns-clause-ok c =
    let old = c.args.bytes.now.items in
    let m = (c.args.at + c.args.count + 7) / 8 in
    room_made old c.resize.new.self.items c.args.at c.args.count m c.requires.filled refl (c.in_ok-resize.ensures.items ∙ ap (λ z. take m old ++ replicate (m - z) 0) c.args.bytes.now.ok.0)
