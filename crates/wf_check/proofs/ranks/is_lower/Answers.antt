use Rattle.std.proofs.Common.{ap}
use Rattle.wf_spec.specs.Bodies.{modules_at}
use Rattle.wf_check.proofs.Heads.{stands_at}
use Rattle.wf_check.proofs.ranks.is_lower.Goals as goal

pub bounds-ranks-q : goal.bounds-ranks-q
bounds-ranks-q c =
    c.requires c.q-item.result.module.0
    (stands_at c.positions-q-items.result.now c.loop-q.q-index c.q-item.result _ c.loop-q-test.true c.q-item.is (ap modules_at c.positions-q-items.ensures))
