use Rattle.std.proofs.Common.{◌==◌, ◌≡◌, ◌∙◌, ℕ, Bool, sym, ap, arith}
use Rattle.std.specs.Int.{bit_at}
use Rattle.std.specs.List.{list_all}
use Rattle.bool_mat.specs.Matrix.{has}
use Rattle.wf_model.specs.Lists.{numbers_from}
use Rattle.wf_package.proofs.FlaggedPlaces.{nought}
use Rattle.wf_safe.proofs.BodyLinks.{has_is}
use Rattle.wf_package.proofs.PairRows.{one_more_passes, not_all}
use Rattle.wf_package.proofs.pairs.is_full.Goals as goal

pub returns-then-not-has_column : goal.returns-then-not-has_column
returns-then-not-has_column c =
    let t : ℕ → Bool = λ o. bit_at c.args.row o == 1 in
    sym (not_all t 0 c.loop-output.output c.args.outputs c.loop-output-test.true (ap t (nought c.loop-output.output) ∙ sym (has_is c.args.row c.loop-output.output) ∙ ap (has c.args.row) (sym c.from.ensures) ∙ sym c.has_column.ensures ∙ c.if-not-has_column.true))

pub loop-output-preserved : goal.loop-output-preserved
loop-output-preserved c = one_more_passes (λ o. bit_at c.args.row o == 1) c.loop-output.output c.loop-output.invariant (sym (has_is c.args.row c.loop-output.output) ∙ ap (has c.args.row) (sym c.from.ensures) ∙ sym c.has_column.ensures ∙ c.if-not-has_column.false)

pub returns : goal.returns
returns c =
    let over = c.loop-output-test.false in
    let upto = c.loop-output.auto.output-end in
    let same : c.args.outputs ≡ c.loop-output.output = omega arith in
    sym (ap (λ n. list_all (λ o. bit_at c.args.row o == 1) (numbers_from 0 n)) same ∙ c.loop-output.invariant)
