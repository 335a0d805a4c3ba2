use Rattle.wf_query.proofs.labels.batch.Given as goal

abbrev pub ghosts-batch_counted : goal.ghosts-batch_counted
ghosts-batch_counted g a = record { name = a.blank.name; parts = a.blank.parts }
