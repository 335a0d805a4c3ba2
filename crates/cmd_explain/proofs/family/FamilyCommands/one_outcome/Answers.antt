use Rattle.cmd_explain.proofs.OneExplaining.{one_explaining}
use Rattle.cmd_explain.proofs.family.FamilyCommands.one_outcome.Goals as goal

pub returns : goal.returns
returns c = one_explaining
