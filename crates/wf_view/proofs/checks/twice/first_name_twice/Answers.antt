use Rattle.std.proofs.Common.{◌∙◌, sym}
use Rattle.wf_view.proofs.Again.{first_again, still_new, more_taken}
use Rattle.wf_view.proofs.checks.twice.first_name_twice.Goals as goal

pub returns-then-holds : goal.returns-then-holds
returns-then-holds c =
    first_again c.args.names.now c.loop-k.k c.index-names-k.result c.index-names-k.is c.loop-k-test.true c.loop-k.taken c.bytes-name.result.now c.loop-k.invariant.taken c.bytes-name.ensures c.loop-k.invariant.new
    (sym c.holds.ensures ∙ c.if-holds.true)

pub loop-k-preserved : goal.loop-k-preserved
loop-k-preserved c = record {
  taken = more_taken c.args.names.now c.loop-k.k c.index-names-k.result c.index-names-k.is c.loop-k-test.true c.loop-k.taken c.bytes-name.result.now c.loop-k.invariant.taken c.bytes-name.ensures c.loop-k.invariant.new
      c.add.new.self c.in_ok-add.ensures.added;
  new = still_new c.args.names.now c.loop-k.k c.index-names-k.result c.index-names-k.is c.loop-k-test.true c.loop-k.taken c.bytes-name.result.now c.loop-k.invariant.taken c.bytes-name.ensures c.loop-k.invariant.new
      (sym c.holds.ensures ∙ c.if-holds.false);
}
