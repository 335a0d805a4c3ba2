use Rattle.std.proofs.Common.{rules, ◌+◌, ◌-◌, ◌++◌, take, ap, ◌∙◌, refl, arith}
use Rattle.std.specs.Int.Count.{count_leading_zeros}
use Rattle.bit_pack.proofs.Codes.{below_counted, code_digits}
use Rattle.bit_pack.proofs.LowBits.{more_digits}
use Rattle.bit_pack.proofs.writer.BitWriter.gamma_behind.Goals as goal

pub write_short-requires-clause-fits : goal.write_short-requires-clause-fits
write_short-requires-clause-fits c =
    let d = 64 - count_leading_zeros 64 c.args.n in
    more_digits c.args.n d (d - 1 + d) (below_counted c.args.n d c.requires.from_one (search rules) refl) (omega arith)

pub returns-then-begun-count-le64-clause-ok : goal.returns-then-begun-count-le64-clause-ok
returns-then-begun-count-le64-clause-ok c =
    c.write_short.ensures.bits ∙ ap (λ z. take c.args.begun c.args.self.now ++ z) (code_digits c.args.n _ c.requires.from_one (search rules) refl)
