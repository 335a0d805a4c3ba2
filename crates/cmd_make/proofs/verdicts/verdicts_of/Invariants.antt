use Rattle.cmd_make.proofs.verdicts.verdicts_of.Given as goal

abbrev pub ghosts-verdicts_on : goal.ghosts-verdicts_on
ghosts-verdicts_on a = record { name = a.blank.name; parts = a.blank.parts }
