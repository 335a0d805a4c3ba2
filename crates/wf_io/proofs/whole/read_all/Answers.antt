use Rattle.std.proofs.Common.{ℕ, inl, refl, rules, arith, sym, ap, length, ◌++◌, ◌≤◌}
use Rattle.wf_io.proofs.Onward.{come_once}
use Rattle.wf_io.proofs.whole.read_all.Goals as goal

pub loop-bytes-init : goal.loop-bytes-init
loop-bytes-init g c =
    let e = c.new-bytes.ensures.items in
    let short : length c.new-bytes.result.items ≤ c.args.most = rw e (search rules) in
    (refl, refl, omega arith, short, λ f told. ((f c.args.name.now).bytes, sym (ap (λ b. b ++ (f c.args.name.now).bytes) e)), inl (refl, ap (length {A = ℕ}) e))

pub returns-in_err-more-clause-once : goal.returns-in_err-more-clause-once
returns-in_err-more-clause-once g c =
    let moved = c.in_err-more.ensures.moved in
    come_once c.args.name.now (length c.loop-bytes.bytes.items) moved.0 (g.H.Shelf.readings c.args.shelf.now) (g.H.Shelf.readings c.loop-bytes.shelf) (g.H.Shelf.readings c.more.new.shelf) c.loop-bytes.invariant.5 moved.1
