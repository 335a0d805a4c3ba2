use Rattle.std.proofs.Common.{◌∙◌, rules, ◌<◌, length}
use Rattle.wf_inbox.proofs.PackedNames.{one_taken}
use Rattle.wf_inbox.proofs.packed.names_of.Goals as goal

some_left : (c : goal.In_ok-push) → 0 < length c.loop-left.left.now
some_left c = let e = c.is_empty.ensures in let t = c.loop-left-test.true in search rules

pub loop-left-preserved : goal.loop-left-preserved
loop-left-preserved c = one_taken _ _ _ c.in_ok-name.name c.loop-left.left.now _ (some_left c) c.loop-left.invariant (c.in_ok-name.ensures ∙ c.split_name.ensures.first) c.split_name.ensures.behind c.in_ok-push.ensures.items
