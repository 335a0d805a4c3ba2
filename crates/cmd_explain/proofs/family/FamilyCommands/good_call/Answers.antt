use Rattle.cmd_explain.proofs.GoodExplaining.{good_explaining}
use Rattle.cmd_explain.proofs.family.FamilyCommands.good_call.Goals as goal

pub returns : goal.returns
returns c = good_explaining
