use Rattle.cmd_share.proofs.SomeSharing.{some_sharing}
use Rattle.cmd_share.proofs.family.FamilyCommands.some_outcome.Goals as goal

pub returns : goal.returns
returns c = some_sharing
