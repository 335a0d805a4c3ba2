use Rattle.std.proofs.Common.{◌↔◌, ◌+◌, ◌++◌, refl, sym, subst}
use Rattle.bit_pack.specs.Gamma.{gamma}
use Rattle.label_model.specs.Reading.{IsPlaceLeft, IsPartLeft}
use Rattle.wf_label.proofs.Options.{none_told, some_told}
use Rattle.wf_label.proofs.Passes.{passed_none, passed_number}
use Rattle.wf_label.proofs.PartsLeft.{no_chain_left, chain_left, no_chain_number}
use Rattle.wf_label.proofs.parts.pass_chain.Goals as goal

pub returns-then-is_none-clause-passed : goal.returns-then-is_none-clause-passed
returns-then-is_none-clause-passed b c =
    let g = c.args.g.grammar.now.core in
    let m = c.args.m.0 in
    passed_none (IsPlaceLeft g m) (IsPartLeft g m) (b.R.Codes.reading c.args.reader.now)
    (no_chain_left g m (none_told _ c.continuing_step.result _ c.continuing_step.ensures c.if-is_none.ensures))

pub returns-in_err-c-clause-malformed : goal.returns-in_err-c-clause-malformed
returns-in_err-c-clause-malformed b c = λ _.
    no_chain_number c.args.g.grammar.now.core c.args.m.0 (b.R.Codes.reading c.args.reader.now).left
    (some_told _ c.continuing_step.result _ c.continuing_step.ensures c.if-is_none.ensures) (c.in_err-c.ensures.malformed refl)

pub returns-clause-passed : goal.returns-clause-passed
returns-clause-passed b c =
    let g = c.args.g.grammar.now.core in
    let m = c.args.m.0 in
    let n = c.in_ok-c.c in
    let continues = some_told _ c.continuing_step.result _ c.continuing_step.ensures c.if-is_none.ensures in
    passed_number (IsPlaceLeft g m) (IsPartLeft g c.passed.result.0) n (b.R.Codes.reading c.args.reader.now) (b.R.Codes.reading c.next_number.new.self) c.in_ok-c.ensures.read
    (λ left. subst (λ k. IsPlaceLeft g m (gamma (n + 1) ++ left) ↔ IsPartLeft g k left) (sym c.passed.ensures.to) (chain_left g m n continues c.in_ok-c.ensures.below left))
