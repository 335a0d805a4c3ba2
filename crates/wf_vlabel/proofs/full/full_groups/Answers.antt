use Rattle.std.proofs.Common.{ap, length, List}
use Rattle.wf_model.specs.Grammar.{Module}
use Rattle.wf_vlabel.specs.Growing.{IsRowsGroup}
use Rattle.wf_vlabel.proofs.Grouping.{groups_push, groups_end}
use Rattle.wf_vlabel.proofs.RowsGroups.{full_are, pairs_are, rows_stay}
use Rattle.wf_vlabel.proofs.full.full_groups.Goals as goal
use Rattle.wf_vlabel.specs.RoundSteps.{numbers_in}

pub loop-m-preserved : goal.loop-m-preserved
loop-m-preserved c =
    groups_push (IsRowsGroup c.args.g.now.core c.args.full.now) c.loop-m.m c.loop-m.pool c.push_rows.new.pool c.loop-m.first.items c.push.new.self.items c.in_ok-number.number
    (rows_stay c.args.g.now.core c.args.full.now) c.loop-m.invariant c.in_ok-number.ensures.grown c.in_ok-number.ensures.group c.in_ok-push.ensures.items

pub returns-clause-groups : goal.returns-clause-groups
returns-clause-groups c u rows =
    let g = c.args.g.now.core in
    let all = groups_end (IsRowsGroup g c.args.full.now) c.loop-m.m (length c.modules-modules.result.now) (length g.modules) c.loop-m.pool (numbers_in c.loop-m.first.items) c.of_pool.result
    c.loop-m.auto.m-end c.loop-m-test.false (ap (λ (ms : List Module). length ms) c.modules-modules.ensures.modules) c.of_pool.ensures.pool c.of_pool.ensures.first c.loop-m.invariant in
    full_are g c.args.full.now c.of_pool.result rows.places all u c.modules-modules.ensures.formed rows

pub returns-clause-pairs : goal.returns-clause-pairs
returns-clause-pairs c =
    let g = c.args.g.now.core in
    let all = groups_end (IsRowsGroup g c.args.full.now) c.loop-m.m (length c.modules-modules.result.now) (length g.modules) c.loop-m.pool (numbers_in c.loop-m.first.items) c.of_pool.result
    c.loop-m.auto.m-end c.loop-m-test.false (ap (λ (ms : List Module). length ms) c.modules-modules.ensures.modules) c.of_pool.ensures.pool c.of_pool.ensures.first c.loop-m.invariant in
    pairs_are g c.args.full.now c.of_pool.result c.requires.1.places all
