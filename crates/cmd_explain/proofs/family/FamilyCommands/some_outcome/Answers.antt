use Rattle.cmd_explain.proofs.SomeExplaining.{some_explaining}
use Rattle.cmd_explain.proofs.family.FamilyCommands.some_outcome.Goals as goal

pub returns : goal.returns
returns c = some_explaining
