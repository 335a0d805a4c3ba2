use Rattle.std.proofs.Common.{length}
use Rattle.wf_words.proofs.LastParts.{NamesLastOf}
use Rattle.wf_words.proofs.last_part.port_or_edge.Given as goal

-- the marks that are left name the number, where the one so far is not named again
abbrev pub invariant-loop-mark : goal.invariant-loop-mark
invariant-loop-mark l = NamesLastOf l.g.grammar.now.core l.label l.cursor l.number

abbrev pub decreases-loop-mark : goal.decreases-loop-mark
decreases-loop-mark l = length l.cursor.left
