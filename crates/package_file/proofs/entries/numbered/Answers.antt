use Rattle.std.proofs.Common.{◌∙◌}
use Rattle.package_file.proofs.NumberedEntries.{one_more, large_first}
use Rattle.package_file.proofs.entries.numbered.Goals as goal

pub returns-in_default-step : goal.returns-in_default-step
returns-in_default-step c = large_first c.args.loops.now c.loop-left.entries.items c.loop-left.left.now c.first-item.result c.loop-left.invariant c.in-len1-up.len_at_least c.first-item.is c.in_default-step.ensures

pub loop-left-preserved : goal.loop-left-preserved
loop-left-preserved c =
    one_more c.args.loops.now c.loop-left.entries.items c.push.new.self.items c.loop-left.left.now c.first-item.result c.new.result c.loop-left.invariant c.in-len1-up.len_at_least c.first-item.is
    (c.new.ensures.name ∙ c.in_ok-name.ensures ∙ c.bytes.ensures) (c.new.ensures.step ∙ c.in-Some.ensures) c.in_ok-push.ensures.items
