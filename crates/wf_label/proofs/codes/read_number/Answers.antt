use Rattle.std.proofs.Common.{◌≡◌, ◌↔◌, ℕ, ◌+◌, Bool, List, Result, Err, sym, ◌∙◌, arith}
use Rattle.bit_pack.specs.declared.fault.BitFault.{BitFault}
use Rattle.bit_pack.specs.declared.fault.BitFault.TheVariants.{Ended, TooLarge}
use Rattle.bit_pack.specs.Gamma.{BeginsAbove, HasNoCode}
use Rattle.bit_pack.proofs.Codes.{prefix_free_law}
use Rattle.wf_label.specs.Parts.{HasNoNumber}
use Rattle.wf_label.proofs.codes.read_number.Goals as goal

-- where no code, or that of a larger number, is left, no code of a number below is
none_left : (count : ℕ) (bits : List Bool) (result : Result ℕ BitFault) (fault : BitFault) → result ≡ Err fault → ((result ≡ Err TooLarge) ↔ BeginsAbove bits count) → ((result ≡ Err Ended) ↔ HasNoCode bits) → HasNoNumber count bits
none_left count bits result Ended is large ended n rest low e = ended.0 is (n + 1) rest (omega arith) e
none_left count bits result TooLarge is large ended n rest low e =
    let above = large.0 is in
    let r = prefix_free_law above.0 (n + 1) above.1 rest (omega (arith, above.2)) (omega arith) (sym above.3 ∙ e) in
    absurd (omega (arith, above.2, r.0))

pub returns-in-Err-clause-malformed : goal.returns-in-Err-clause-malformed
returns-in-Err-clause-malformed c = λ _. none_left c.args.count c.args.reader.now.left c.gamma.result c.in-Err.field-0 c.in-Err.is c.gamma.ensures.too_large c.gamma.ensures.ended
