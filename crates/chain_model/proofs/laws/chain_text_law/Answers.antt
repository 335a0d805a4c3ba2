use Rattle.chain_model.proofs.ChainTexts
use Rattle.chain_model.proofs.laws.chain_text_law.Goals as goal

pub returns : goal.returns
returns c = ChainTexts.chain_text_law
