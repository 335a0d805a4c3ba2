use Rattle.std.proofs.Common.{sym, ap, subst}
use Rattle.std.proofs.lemmas.Result.{IfOk-weaker}
use Rattle.wf_spec.specs.Held.{HeldGrammar}
use Rattle.cmd_make.specs.DrillText.{pairs_of, AreVerdicts}
use Rattle.cmd_make.proofs.Drilled.{run_of, labels_here, run_accepted, pairs_held, summed}
use Rattle.cmd_make.proofs.drill.summary_of.Goals as goal

pub label_run-requires : goal.label_run-requires
label_run-requires c = record {
  accepted =
      run_accepted c.args.v.now.accepted.grammar.core c.linear-linear.result.grammar.now.core (ap (λ (h : HeldGrammar). h.core) c.linear-linear.ensures.grammar) c.linear-linear.ensures.safe.accepted.formed c.args.n c.args.seed c.new-generator.result c.new-generator.ensures;
}

pub verdicts_of-requires : goal.verdicts_of-requires
verdicts_of-requires c =
    let same = ap (λ (h : HeldGrammar). h.core) c.linear-linear.ensures.grammar in
    record { held = (_, _, pairs_held c.args.v.now.accepted.grammar.core c.linear-linear.result.grammar.now.core same c.linear-linear.ensures.safe.accepted.formed c.args.n c.args.seed c.new-generator.result c.new-generator.ensures c.in_ok-drawn.drawn c.in_ok-drawn.ensures.drawn) }

pub returns : goal.returns
returns c =
    let g = c.args.v.now.accepted.grammar.core in
    let u = c.args.v.now.view.core in
    let same = ap (λ (h : HeldGrammar). h.core) c.linear-linear.ensures.grammar in
    let formed = c.linear-linear.ensures.safe.accepted.formed in
    let whole = c.new-generator.result in
    let run = run_of g c.linear-linear.result.grammar.now.core same formed c.args.n c.args.seed whole c.new-generator.ensures in
    let ls = labels_here g c.linear-linear.result.grammar.now.core same formed c.args.n c.args.seed whole c.new-generator.ensures in
    let held = pairs_held g c.linear-linear.result.grammar.now.core same formed c.args.n c.args.seed whole c.new-generator.ensures c.in_ok-drawn.drawn c.in_ok-drawn.ensures.drawn in
    IfOk-weaker c.summary_text.result _ _
    (λ text wrote.
    summed g c.linear-linear.result.grammar.now.core same formed c.args.n c.args.seed whole c.new-generator.ensures c.in_ok-drawn.drawn c.in_ok-drawn.ensures.drawn
    u c.deref.result.now text.items
    (subst (λ vs. AreVerdicts g u ls (pairs_of g run) vs) (sym c.deref.ensures.value) (c.in_ok-verdicts.ensures ls (pairs_of g run) held))
    c.in_ok-drawn.ensures.instances wrote)
    c.summary_text.ensures
