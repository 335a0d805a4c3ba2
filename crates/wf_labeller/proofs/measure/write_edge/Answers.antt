use Rattle.std.proofs.Common.{◌++◌, arith, sym, ap, ◌∙◌}
use Rattle.std.proofs.lemmas.List.{take_all}
use Rattle.std.proofs.lemmas.Result.{on_ok_weaker}
use Rattle.wf_model.specs.Grammar.{alternative_of}
use Rattle.bit_pack.specs.Written.{first_bits}
use Rattle.label_model.proofs.GrammarLimits.{edges_few}
use Rattle.wf_label.specs.Values.{alternative_bits}
use Rattle.wf_labeller.proofs.EdgesRead.{label_is}
use Rattle.wf_labeller.proofs.Measured.{edge_at}
use Rattle.wf_labeller.proofs.measure.write_edge.Goals as goal

pub overflow_cast-k : goal.overflow_cast-k
overflow_cast-k c = omega (arith, c.requires.in_range, edges_few c.args.g.now.core c.production-rule.ensures.formed c.args.production.0 c.requires.production)

pub returns-clause-ok : goal.returns-clause-ok
returns-clause-ok c =
    let bits = first_bits c.args.prefix.bytes.now c.args.prefix.length in
    let a = alternative_of c.args.g.now.core c.args.production.0 in
    let begun = take_all c.length-begun.result c.begin_labels.new.w (omega (arith, c.length-begun.ensures)) ∙ (c.in_ok-begin_labels.ensures.ok ∙ ap (λ n. bits ++ alternative_bits c.args.prefix.chain n) (c.alternative.ensures ∙ c.production-rule.ensures.alternative)) in
    on_ok_weaker c.end_label.result (λ e. label_is bits _ _ c.args.prefix.chain a _ c.args.k begun e ∙ sym (edge_at c.args.g.now.core c.args.production.0 c.args.k bits c.args.prefix.chain c.requires.in_range)) c.end_label.ensures.ok
