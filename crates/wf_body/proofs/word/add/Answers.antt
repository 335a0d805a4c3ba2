use Rattle.wf_body.proofs.Bits.{gains}
use Rattle.wf_body.proofs.word.add.Goals as goal

pub returns : goal.returns
returns c = gains c.args.words.now c.args.at c.args.word c.requires
