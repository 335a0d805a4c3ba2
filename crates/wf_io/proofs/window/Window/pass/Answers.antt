use Rattle.std.proofs.Common.{ℕ, ◌≤◌, ◌-◌, ◌+◌, length, drop, ap, ◌∙◌, arith, length-drop}
use Rattle.std.proofs.lemmas.List.{length-take}
use Rattle.wf_io.proofs.Buffers.{passed}
use Rattle.wf_io.proofs.window.Window.pass.Goals as goal

pub returns : goal.returns
returns c =
    let w = c.self.inside in
    let size = ap (length {A = ℕ}) c.self.view_is in
    let short : c.args.count ≤ w.end - w.start = omega (arith, size, length-take (w.end - w.start) (drop w.start w.buffer.items), length-drop w.start w.buffer.items) in
    let within : w.start + c.args.count ≤ w.end = omega (arith, c.self.invariant) in
    passed w.buffer.items w.start w.end c.args.count within ∙ ap (drop c.args.count) c.self.view_is
