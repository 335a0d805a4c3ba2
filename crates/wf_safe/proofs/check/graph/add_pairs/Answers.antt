use Rattle.std.proofs.Common.{◌≡◌, ◌∙◌, Some, ap, sym, subst, length, arith}
use Rattle.wf_model.specs.Grammar.{module_at}
use Rattle.wf_model.proofs.Lists.{at_in, is_at}
use Rattle.wf_safe.specs.BodyGraph.{AddsLinks}
use Rattle.wf_safe.proofs.BodyLinks.{pairs_are}
use Rattle.wf_safe.proofs.check.graph.add_pairs.Goals as goal

pub add_rows-requires-clause-rows : goal.add_rows-requires-clause-rows
add_rows-requires-clause-rows c =
    let g = c.args.g.now.core in
    let m = c.args.m.0 in
    let few = (c.output_count-outputs.ensures.formed.modules (module_at g m) (at_in (module_at g m) m g.modules (is_at m g.modules _ c.requires.module_no))).few_inputs in
    let same : Some c.in-Some.rows.now ≡ Some c.requires.rows.rows = c.in-Some.ensures ∙ c.requires.rows.held in
    let is : c.in-Some.rows.now ≡ c.requires.rows.rows = cc in
    let one = ap length is ∙ c.requires.rows.one_each in
    omega arith

pub returns-in_ok-add_rows : goal.returns-in_ok-add_rows
returns-in_ok-add_rows c =
    let same : Some c.in-Some.rows.now ≡ Some c.requires.rows.rows = c.in-Some.ensures ∙ c.requires.rows.held in
    let is : c.in-Some.rows.now ≡ c.requires.rows.rows = cc in
    subst (λ l. AddsLinks l c.args.graph.now.items c.add_rows.new.graph.items)
    (pairs_are c.args.g.now.core c.args.deps.now c.args.m.0 c.args.k.0 c.output_count-outputs.result c.in-Some.rows.now (sym c.in-Some.ensures) (ap length is ∙ c.requires.rows.one_each) c.output_count-outputs.ensures.count)
    c.in_ok-add_rows.ensures
