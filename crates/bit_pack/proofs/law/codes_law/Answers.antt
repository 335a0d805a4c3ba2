use Rattle.bit_pack.proofs.Codes as codes
use Rattle.bit_pack.proofs.law.codes_law.Goals as goal

pub returns : goal.returns
returns c = codes.codes_law
