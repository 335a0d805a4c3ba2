use Rattle.std.proofs.Common.{◌≡◌, ◌↔◌, ℕ, ◌+◌, Bool, List, Result, Err, sym, ◌∙◌, arith}
use Rattle.bit_pack.specs.declared.fault.BitFault.{BitFault}
use Rattle.bit_pack.specs.declared.fault.BitFault.TheVariants.{Ended, TooLarge}
use Rattle.bit_pack.specs.Gamma.{BeginsAbove, HasNoCode}
use Rattle.bit_pack.proofs.Codes.{prefix_free_law}
use Rattle.wf_label.specs.Parts.{HasNoNumber}
use Rattle.wf_translate.proofs.number.read_number.Goals as goal

pub returns-in-Err-clause-malformed : goal.returns-in-Err-clause-malformed
returns-in-Err-clause-malformed c = λ _. go c.in-Err.field-0 c.in-Err.is
  where
    -- where no code, or that of a larger number, is left, no code of a number below is
    go : (fault : BitFault) → c.gamma.result ≡ Err fault → HasNoNumber c.args.count c.args.reader.now.left
    go Ended is n rest low e = c.gamma.ensures.ended.0 is (n + 1) rest (omega arith) e
    go TooLarge is n rest low e =
        let above = c.gamma.ensures.too_large.0 is in
        let r = prefix_free_law above.0 (n + 1) above.1 rest (omega (arith, above.2)) (omega arith) (sym above.3 ∙ e) in
        absurd (omega (arith, above.2, r.0))
