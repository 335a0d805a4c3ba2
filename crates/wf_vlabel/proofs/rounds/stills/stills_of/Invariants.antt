use Rattle.wf_vlabel.proofs.StillTables.{AreStillsBelow}
use Rattle.wf_vlabel.proofs.rounds.stills.stills_of.Given as goal

abbrev pub invariant-loop-key : goal.invariant-loop-key
invariant-loop-key l = AreStillsBelow l.squares l.key l.stills.items
