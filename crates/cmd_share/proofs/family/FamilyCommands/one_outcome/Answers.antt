use Rattle.cmd_share.proofs.OneSharing.{one_sharing}
use Rattle.cmd_share.proofs.family.FamilyCommands.one_outcome.Goals as goal

pub returns : goal.returns
returns c = one_sharing
