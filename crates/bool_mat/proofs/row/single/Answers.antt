use Rattle.bool_mat.proofs.Rows.{single_columns}
use Rattle.bool_mat.proofs.row.single.Goals as goal

pub returns-clause-columns : goal.returns-clause-columns
returns-clause-columns c = single_columns c.args.j c.requires
