use Rattle.label_file.proofs.ahead.Ahead.fill.Goals as goal

pub returns-clause-ahead : goal.returns-clause-ahead
returns-clause-ahead c = c.hash_names.ensures
