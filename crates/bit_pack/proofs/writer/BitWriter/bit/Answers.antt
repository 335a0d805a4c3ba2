use Rattle.std.proofs.Common.{◌≡◌, ◌++◌, OnOk, subst}
use Rattle.bit_pack.proofs.LowBits.{low_bits-bit}
use Rattle.bit_pack.proofs.writer.BitWriter.bit.Goals as goal

pub returns-clause-ok : goal.returns-clause-ok
returns-clause-ok c = subst (λ z. OnOk c.write.result (c.write.new.self ≡ c.args.self.now ++ z)) (low_bits-bit c.args.b) c.write.ensures.ok
