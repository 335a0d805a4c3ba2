use Rattle.std.proofs.Common.{◌==◌, ◌≡◌, ◌∙◌, ◌++◌, ◌∷◌, [], List, ℕ, cond, map, sym, ap, append-nil, arith}
use Rattle.std.specs.Int.{bit_at}
use Rattle.wf_spec.specs.GivenRows.{pair_of}
use Rattle.package_model.specs.Shown.{pairs_of_input}
use Rattle.wf_package.proofs.PairRows.{pieces_more}
use Rattle.wf_package.proofs.pairs.add_row.Goals as goal

pub loop-output-init : goal.loop-output-init
loop-output-init c = sym (append-nil (map pair_of c.args.pairs.now.items))

pub loop-output-preserved : goal.loop-output-preserved
loop-output-preserved c =
    pieces_more (λ o. cond {A = List (ℕ × ℕ)} (bit_at c.args.row o == 1) ((c.args.input, o) ∷ []) []) c.loop-output.output (map pair_of c.args.pairs.now.items) _ _ c.loop-output.invariant c.in_ok-add_pair.ensures

pub returns : goal.returns
returns c =
    let over = c.loop-output-test.false in
    let upto = c.loop-output.auto.output-end in
    let same : c.loop-output.output ≡ c.args.outputs = omega arith in
    c.loop-output.invariant ∙ ap (λ n. map pair_of c.args.pairs.now.items ++ pairs_of_input c.args.input n (λ o. bit_at c.args.row o == 1)) same
