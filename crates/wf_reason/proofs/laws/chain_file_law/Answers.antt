use Rattle.wf_reason.proofs.ChainFiles
use Rattle.wf_reason.proofs.laws.chain_file_law.Goals as goal

pub returns : goal.returns
returns c = ChainFiles.chain_file_law
