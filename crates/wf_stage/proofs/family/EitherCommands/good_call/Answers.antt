use Rattle.wf_stage.specs.declared.family.Either.TheVariants.{First, Other}
use Rattle.wf_stage.proofs.family.EitherCommands.good_call.Goals as goal

pub returns : goal.returns
returns g c files (First a) = c.good_call.ensures files a
returns g c files (Other b) = c.good_call-2.ensures files b
