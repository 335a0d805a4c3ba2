use Rattle.std.proofs.Common.{◌<◌, length, sym, subst, arith}
use Rattle.wf_recur.specs.Cycles.{CyclesSeen}
use Rattle.wf_recur.proofs.ShortRounds.{round_short}
use Rattle.wf_recur.proofs.table.Cycles.length.Goals as goal

pub overflow_cast-result : goal.overflow_cast-result
overflow_cast-result c =
    let low = subst (λ (t : CyclesSeen). c.args.c.0 < length t.rounds) (sym c.self.view_is) c.requires in
    let few = round_short c.self.inside.rounds.items c.args.c.0 c.index.result.now low c.index.ensures c.self.invariant.short in
    omega (arith, few, c.len.ensures)
