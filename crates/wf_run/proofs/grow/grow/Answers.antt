use Rattle.std.proofs.Common.{length, sym, ap, ◌∙◌}
use Rattle.std.proofs.lemmas.List.{length-map}
use Rattle.wf_model.specs.Grammar.{Production}
use Rattle.wf_run.proofs.Expanded.{can_go_on, nodes_opened, whole_opened}
use Rattle.wf_run.proofs.grow.grow.Goals as goal

pub append_children-requires-clause-parent : goal.append_children-requires-clause-parent
append_children-requires-clause-parent c =
    can_go_on _ _ c.index-node.result.now _ c.requires.filled c.requires.chain c.requires.there c.index-node.ensures c.number.ensures

pub returns-clause-nodes : goal.returns-clause-nodes
returns-clause-nodes c =
    let positions = c.positions.ensures ∙ ap (λ (r : Production). r.positions) c.production.ensures.core in
    let as_many = sym (length-map _ _) ∙ (ap length positions ∙ (sym (length-map _ _) ∙ sym c.requires.one_each)) in
    nodes_opened c.args.g.grammar.now.core c.args.e.production.0 c.args.nodes.now.items _ c.args.e.instance.0 _ _ _ c.index-node.result.now
    c.index_mut-opened.result.now _ c.requires.there c.index-node.ensures c.number.ensures c.index_mut-opened.ensures.value
    c.in_default.ensures.added (c.len-before.ensures ∙ c.args.nodes.now.ok.0) _ c.requires.one_each as_many

pub returns-clause-whole : goal.returns-clause-whole
returns-clause-whole c =
    whole_opened c.args.g.grammar.now.core c.args.e.production.0 c.args.nodes.now.items _ c.args.e.instance.0 _ _ _ c.index-node.result.now
    c.index_mut-opened.result.now _ c.requires.there c.index-node.ensures c.number.ensures c.index_mut-opened.ensures.value
    c.in_default.ensures.added c.requires.filled
