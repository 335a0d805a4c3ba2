use Rattle.std.proofs.Common.{◌∙◌, rules, ◌<◌, length, sym}
use Rattle.std.proofs.lemmas.Bool.{not-false}
use Rattle.wf_inbox.proofs.PackedNames.{one_compared}
use Rattle.wf_inbox.proofs.packed.are_same.Goals as goal

some_left : (c : goal.Else-ne) → 0 < length c.loop-left.left.now
some_left c = let e = c.is_empty.ensures in let t = c.loop-left-test.true in search rules

pub loop-left-preserved : goal.loop-left-preserved
loop-left-preserved c = one_compared c.loop-left.left.now _ c.split_name.result.0.now c.bytes.result.now c.loop-left.others.now _ _ (some_left c) c.in-len1-up.len_at_least c.split_name.ensures.first c.split_name.ensures.behind (c.bytes.ensures ∙ c.other-item.is) c.loop-left.invariant
    (not-false _ (sym (c.if-ne.ensures)))
