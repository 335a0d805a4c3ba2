use Rattle.cmd_share.proofs.GoodSharing.{good_sharing}
use Rattle.cmd_share.proofs.family.FamilyCommands.good_call.Goals as goal

pub returns : goal.returns
returns c = good_sharing
