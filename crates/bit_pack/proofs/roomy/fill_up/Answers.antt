use Rattle.std.proofs.Common.{◌≡◌, ◌+◌, ◌-◌, ◌/◌, ◌++◌, take, replicate, ap, ◌∙◌, refl, arith, cond, vec_len}
use Rattle.bit_pack.proofs.Filling.{room_made}
use Rattle.bit_pack.proofs.roomy.fill_up.Goals as goal

pub returns-clause-place : goal.returns-clause-place
returns-clause-place c =
    let old = c.args.bytes.now in
    let m = (c.args.at + c.args.count + 7) / 8 in
    let done = c.resize.ensures.succeeds (omega (arith, c.requires.room)) in
    let items : c.resize.new.self.items ≡ take m old.items ++ replicate (m - vec_len old) 0 =
    c.resize.ensures.items ∙ ap (λ b. cond b (take m old.items ++ replicate (m - vec_len old) 0) old.items) done in
    room_made old.items c.resize.new.self.items c.args.at c.args.count m c.requires.filled refl (items ∙ ap (λ z. take m old.items ++ replicate (m - z) 0) old.ok.0)
