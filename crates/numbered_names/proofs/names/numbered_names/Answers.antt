use Rattle.numbered_names.proofs.Numbered.{names_more}
use Rattle.numbered_names.proofs.names.numbered_names.Goals as goal

pub loop-k-preserved : goal.loop-k-preserved
loop-k-preserved c = names_more c.args.first c.loop-k.k _ _ _ c.loop-k.invariant c.in_ok-name.ensures c.in_ok-push.ensures.items
