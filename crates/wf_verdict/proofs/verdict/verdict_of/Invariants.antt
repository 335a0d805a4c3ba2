use Rattle.wf_verdict.proofs.verdict.verdict_of.Given as goal

abbrev pub ghosts-decided : goal.ghosts-decided
ghosts-decided a = record { name = a.blank.name; parts = a.blank.parts }
