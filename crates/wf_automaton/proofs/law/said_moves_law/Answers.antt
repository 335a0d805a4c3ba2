use Rattle.wf_automaton.proofs.SaidMoves
use Rattle.wf_automaton.proofs.law.said_moves_law.Goals as goal

pub returns : goal.returns
returns c = SaidMoves.said_moves_law
