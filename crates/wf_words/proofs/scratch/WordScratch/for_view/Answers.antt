use Rattle.std.proofs.Common.{sym, subst, arith}
use Rattle.wf_words.specs.LastParts.{HasLabelRoom}
use Rattle.wf_words.proofs.scratch.WordScratch.for_view.Goals as goal

pub invariant_of-result : goal.invariant_of-result
invariant_of-result c = (
  subst HasLabelRoom (sym c.in_ok-first.ensures) (omega arith),
  subst HasLabelRoom (sym c.in_ok-second.ensures) (omega arith),
)
