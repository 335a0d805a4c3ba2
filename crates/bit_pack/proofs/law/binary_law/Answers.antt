use Rattle.bit_pack.proofs.Codes as codes
use Rattle.bit_pack.proofs.law.binary_law.Goals as goal

pub returns : goal.returns
returns c = codes.binary_law
