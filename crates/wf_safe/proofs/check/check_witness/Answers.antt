use Rattle.std.proofs.Common.{◌↔◌, IsTrue, IfOk, Bool, List, Result, Ok, Err, subst}
use Rattle.wf_safe.specs.declared.witness.Choice.{Choice}
use Rattle.wf_safe.specs.Settling.{AreAllRowsByChoice}
use Rattle.wf_safe.specs.Witness.{chosen_in, IsChoiceOf}
use Rattle.wf_safe.proofs.Checking.{apart_from, witness_from}
use Rattle.wf_safe.proofs.check.check_witness.Goals as goal

told_by : {E : Type 0} (r : Result Bool E) (A B : Type 0) → (A → B) → (B → A) → IfOk r (λ b. IsTrue b ↔ A) → IfOk r (λ b. IsTrue b ↔ B)
told_by (Ok b) A B f h t = (λ e. f (t.0 e), λ q. t.1 (h q))
told_by (Err e) A B f h t = tt

pub returns : goal.returns
returns c =
    let g = c.args.v.grammar.now.core in
    let u = c.args.v.view.now.core in
    let w = c.args.w.now in
    let choice = subst (λ (l : List Choice). IsChoiceOf c.args.v.grammar.now.core c.args.v.view.now.core (chosen_in l)) c.items-choice.ensures (c.is_choice.ensures.told.0 c.if-not-is_choice.false) in
    let rows = subst (λ (l : List Choice). AreAllRowsByChoice c.args.v.grammar.now.core c.args.v.view.now.core (chosen_in l) c.in_ok-rows.rows) c.items-choice.ensures c.in_ok-rows.ensures in
    let formed = c.is_choice.ensures.formed in
    told_by c.are_apart.result _ _
    (witness_from g u w formed c.in_ok-rows.rows rows choice (c.has_numbers.ensures.0 c.if-not-has_numbers.false))
    (apart_from g u w formed c.in_ok-rows.rows rows) c.are_apart.ensures
