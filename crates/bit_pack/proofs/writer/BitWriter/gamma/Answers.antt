use Rattle.std.proofs.Common.{rules, ◌≡◌, ◌++◌, OnOk, subst, refl}
use Rattle.bit_pack.proofs.Codes.{below_counted, code_parts}
use Rattle.bit_pack.proofs.writer.BitWriter.gamma.Goals as goal

pub write-requires-clause-fits : goal.write-requires-clause-fits
write-requires-clause-fits c = below_counted c.args.n _ c.requires.from_one (search rules) refl

pub returns-clause-ok : goal.returns-clause-ok
returns-clause-ok c = subst (λ z. OnOk c.write.result (c.write.new.self ≡ c.args.self.now ++ z)) (code_parts c.args.n _ c.requires.from_one (search rules) refl) c.write.ensures.ok
