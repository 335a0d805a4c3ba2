use Rattle.std.proofs.Common.{List, sym, subst}
use Rattle.wf_spec.specs.Held.{HeldGrammar}
use Rattle.wf_flat.specs.declared.item.Item.{Item}
use Rattle.wf_flat.specs.Table.{IsTableOf}
use Rattle.wf_chain.specs.ViewedRuns.{ViewedRunValue, grammar_in}
use Rattle.wf_chain.specs.ItemLists.{AreItemsOf}
use Rattle.wf_chain.proofs.viewed_run.ViewedRun.explain.Goals as goal

pub items_of-requires : goal.items_of-requires
items_of-requires c = subst (λ (h : HeldGrammar). IsTableOf h.core c.self.inside.run.now) (sym c.grammar.ensures.grammar) c.self.invariant.run

pub explain_by-requires-clause-items : goal.explain_by-requires-clause-items
explain_by-requires-clause-items c =
    subst (λ (l : List Item). AreItemsOf (grammar_in c.args.self.now) c.args.self.now.run l) (sym c.deref.ensures.value)
    (subst (λ (w : ViewedRunValue). AreItemsOf (grammar_in w) w.run c.in_ok-items.items.items) c.self.view_is
    (subst (λ (h : HeldGrammar). AreItemsOf h.core c.self.inside.run.now c.in_ok-items.items.items) c.grammar.ensures.grammar c.in_ok-items.ensures.items))
