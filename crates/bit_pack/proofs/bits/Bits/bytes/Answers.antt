use Rattle.std.proofs.Common.{sym, ap, ◌∙◌, subst}
use Rattle.bit_pack.specs.Bits.{Holds, packed}
use Rattle.bit_pack.proofs.Packing.{packed_law}
use Rattle.bit_pack.proofs.bits.Bits.bytes.Goals as goal

pub returns-clause-holds : goal.returns-clause-holds
returns-clause-holds c = subst (λ z. Holds z c.args.self.now) (sym (c.bytes.ensures.packed ∙ ap packed c.self.view_is)) (packed_law c.args.self.now).holds
