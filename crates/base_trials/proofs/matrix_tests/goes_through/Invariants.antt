use Rattle.base_trials.proofs.matrix_tests.goes_through.Given as goal

abbrev pub ghosts-through : goal.ghosts-through
ghosts-through a = record { name = a.blank.name; parts = a.blank.parts }
