use Rattle.cmd_explain.proofs.put.put_label.Goals as goal

pub returns : goal.returns
returns g c = record { writes = c.put_counted.ensures.writes }
