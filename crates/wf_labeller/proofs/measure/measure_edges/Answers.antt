use Rattle.std.proofs.Common.{◌++◌, arith, ap, ◌∙◌}
use Rattle.std.specs.Prelude.{max}
use Rattle.wf_model.specs.Grammar.{alternative_of}
use Rattle.bit_pack.specs.Written.{first_bits}
use Rattle.label_model.specs.Labels.{ending_bits}
use Rattle.wf_labeller.proofs.EdgesRead.{few_edges, edges_read, label_is, begins_alike}
use Rattle.wf_labeller.proofs.Measured.{longest_more, edges_measured}
use Rattle.wf_labeller.proofs.measure.measure_edges.Goals as goal

pub overflow_cast-k : goal.overflow_cast-k
overflow_cast-k c =
    omega (arith, c.loop-k-test.true, few_edges c.args.g.now.core c.production-rule.ensures.formed c.args.production.0 c.requires.production _ _ c.production-rule.ensures.core c.edges-count.ensures)

pub loop-k-preserved : goal.loop-k-preserved
loop-k-preserved c =
    let bits = first_bits c.args.prefix.bytes.now c.args.prefix.length in
    let a = alternative_of c.args.g.now.core c.args.production.0 in
    let i = c.loop-k.invariant in
    let alike = begins_alike _ _ _ _ i.within c.in_ok-end_label.ensures.ok in
    let its = label_is bits _ _ c.args.prefix.chain a _ c.loop-k.k i.begun c.in_ok-end_label.ensures.ok in
    record {
      longest = longest_more (λ j. bits ++ ending_bits c.args.prefix.chain a j) c.loop-k.k _ _ _ i.longest its (c.longer-longest.ensures ∙ ap (λ n. max n c.loop-k.longest) c.length.ensures);
      begun = alike.0 ∙ i.begun;
      within = alike.1;
    }

pub returns : goal.returns
returns c =
    edges_measured c.args.g.now.core c.args.production.0 c.edges-count.result.now (edges_read c.args.g.now.core c.production-rule.ensures.formed c.args.production.0 c.requires.production _ _ c.production-rule.ensures.core c.edges-count.ensures)
    (first_bits c.args.prefix.bytes.now c.args.prefix.length) c.args.prefix.chain c.loop-k.k c.loop-k.longest c.loop-k-test.false c.loop-k.auto.k-end c.loop-k.invariant.longest
