use Rattle.bit_pack.proofs.Codes as codes
use Rattle.bit_pack.proofs.law.prefix_free_law.Goals as goal

pub returns : goal.returns
returns c = codes.prefix_free_law
