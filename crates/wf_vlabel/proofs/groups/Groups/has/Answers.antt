use Rattle.std.proofs.Common.{length, sym, ap, ◌∙◌, arith}
use Rattle.wf_vlabel.specs.Groups.{GroupsSeen}
use Rattle.wf_vlabel.proofs.Grouping.{group_told}
use Rattle.wf_vlabel.proofs.groups.Groups.has.Goals as goal

pub returns-then-n-len : goal.returns-then-n-len
returns-then-n-len c =
    let few = c.if-key-len.false in
    group_told c.args.self.now c.self.inside.first.items c.args.key c.args.count c.len-then-n-len.result c.in-Some.n c.index.result.now (sym (ap (λ (t : GroupsSeen). t.first) c.self.view_is))
    (c.len-then-n-len.ensures ∙ ap (λ (t : GroupsSeen). length t.pool) c.self.view_is) (omega (arith, c.len.ensures)) c.index.ensures c.in-Some.is (omega (arith, c.if-n-len.true, c.len-in-Some.ensures, c.len-then-n-len.ensures))
