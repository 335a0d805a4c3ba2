use Rattle.std.proofs.Common.{◌<◌, refl, subst, arith}
use Rattle.wf_model.specs.Grammar.{production_at}
use Rattle.label_model.proofs.GrammarLimits.{few_edges}
use Rattle.label_model.proofs.GrammarSizes.{edge_within}
use Rattle.wf_label.proofs.Counts.{edges_held}
use Rattle.wf_translate.specs.Parts.{IsLastNumber, HasNoLastNumber}
use Rattle.wf_translate.proofs.part.read_edge.Goals as goal

pub returns-in_err-e-clause-malformed : goal.returns-in_err-e-clause-malformed
returns-in_err-e-clause-malformed c = λ _.
    let few = edges_held c.edges-edges.result.now c.production-rule.result.now.core (production_at c.args.g.now.core c.args.p.0) c.edges-edges.ensures c.production-rule.ensures.core in
    subst (λ n. HasNoLastNumber n c.args.reader.now.left) few (c.in_err-e.ensures.malformed refl)

pub prove-unreachable-requires : goal.prove-unreachable-requires
prove-unreachable-requires c =
    let g = c.args.g.now.core in
    let few = edges_held c.edges-edges.result.now c.production-rule.result.now.core (production_at g c.args.p.0) c.edges-edges.ensures c.production-rule.ensures.core in
    let low = c.in_ok-e.ensures.read.in_range in
    omega (arith, edge_within g c.args.p.0 c.in_ok-e.e c.requires (subst (λ n. c.in_ok-e.e < n) few low), few_edges g c.production-rule.ensures.formed)

pub returns-clause-read : goal.returns-clause-read
returns-clause-read c =
    let few = edges_held c.edges-edges.result.now c.production-rule.result.now.core (production_at c.args.g.now.core c.args.p.0) c.edges-edges.ensures c.production-rule.ensures.core in
    subst (λ n. IsLastNumber n c.args.reader.now.left c.in_ok-e.e) few c.in_ok-e.ensures.read
