use Rattle.bit_pack.proofs.Codes as codes
use Rattle.bit_pack.proofs.law.spelling_law.Goals as goal

pub returns : goal.returns
returns c = codes.spelling_law
