use Rattle.std.proofs.Common.{◌==◌, ◌≡◌, ◌∙◌, ℕ, Bool, get_or, length, sym, ap, arith}
use Rattle.std.specs.Int.{bit_at}
use Rattle.std.specs.List.{list_all}
use Rattle.wf_model.specs.Lists.{numbers_from}
use Rattle.wf_package.specs.Parts.{all_pairs_pass}
use Rattle.wf_package.proofs.FlaggedPlaces.{nought}
use Rattle.wf_package.proofs.PairRows.{one_more_passes, not_all}
use Rattle.wf_package.proofs.pairs.are_full.Goals as goal

pub returns-then-not-is_full : goal.returns-then-not-is_full
returns-then-not-is_full c =
    let t : ℕ → Bool = λ i. list_all (λ o. bit_at (get_or c.args.rows.now i 0) o == 1) (numbers_from 0 c.args.outputs) in
    sym (not_all t 0 c.loop-i.i (length c.args.rows.now) c.loop-i-test.true (ap t (nought c.loop-i.i) ∙ sym c.is_full.ensures ∙ c.if-not-is_full.true))

pub loop-i-preserved : goal.loop-i-preserved
loop-i-preserved c =
    one_more_passes (λ i. list_all (λ o. bit_at (get_or c.args.rows.now i 0) o == 1) (numbers_from 0 c.args.outputs)) c.loop-i.i c.loop-i.invariant (sym c.is_full.ensures ∙ c.if-not-is_full.false)

pub returns : goal.returns
returns c =
    let over = c.loop-i-test.false in
    let upto = c.loop-i.auto.i-end in
    let same : length c.args.rows.now ≡ c.loop-i.i = omega arith in
    sym (ap (λ n. all_pairs_pass n c.args.outputs (λ i o. bit_at (get_or c.args.rows.now i 0) o == 1)) same ∙ c.loop-i.invariant)
