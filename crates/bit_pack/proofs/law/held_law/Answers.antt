use Rattle.bit_pack.proofs.Packing as packing
use Rattle.bit_pack.proofs.law.held_law.Goals as goal

pub returns : goal.returns
returns c = packing.held_law
