use Rattle.bit_pack.proofs.Packing as packing
use Rattle.bit_pack.proofs.law.packed_law.Goals as goal

pub returns : goal.returns
returns c = packing.packed_law
