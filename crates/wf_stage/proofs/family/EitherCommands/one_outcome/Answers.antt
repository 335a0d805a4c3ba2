use Rattle.wf_stage.specs.declared.family.Either.TheVariants.{First, Other}
use Rattle.wf_stage.proofs.family.EitherCommands.one_outcome.Goals as goal

pub returns : goal.returns
returns g c files (First a) = c.one_outcome.ensures files a
returns g c files (Other b) = c.one_outcome-2.ensures files b
