use Rattle.std.proofs.Common.{ap, nat_eq}
use Rattle.std.proofs.lemmas.Nat.Bits.{shr_and_one}
use Rattle.name_text.proofs.short.has_digit.Goals as goal

pub returns : goal.returns
returns c = ap (λ b. nat_eq b 1) (shr_and_one c.args.word c.args.place)
