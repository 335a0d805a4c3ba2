use Rattle.std.proofs.Common.{◌==◌, ◌∙◌, [], ap, get_or, arith}
use Rattle.std.specs.Int.{bit_at}
use Rattle.package_model.specs.Shown.{pairs_of_input, pairs_within}
use Rattle.wf_package.proofs.PairRows.{pieces_more}
use Rattle.wf_package.proofs.pairs.pairs_in_rows.Goals as goal

pub loop-i-preserved : goal.loop-i-preserved
loop-i-preserved c =
    pieces_more (λ i. pairs_of_input i c.args.outputs (λ o. bit_at (get_or c.args.rows.now i 0) o == 1)) c.loop-i.i [] _ _ c.loop-i.invariant c.in_ok-add_row.ensures

pub returns : goal.returns
returns c =
    let over = c.loop-i-test.false in
    let upto = c.loop-i.auto.i-end in
    c.loop-i.invariant ∙ ap (λ n. pairs_within n c.args.outputs (λ i o. bit_at (get_or c.args.rows.now i 0) o == 1)) (omega arith)
