use Rattle.std.proofs.Common.{◌≡◌, sym, subst}
use Rattle.std.specs.Prelude.{IfSome, IsNone}
use Rattle.wf_spec.specs.Held.{HeldGrammar}
use Rattle.wf_flat.specs.Table.{IsTableOf}
use Rattle.wf_flat.specs.Item.{IsItemNamed, HasNoItem}
use Rattle.wf_chain.specs.HeldItems.{item_name}
use Rattle.wf_chain.specs.ViewedRuns.{ViewedRunValue, grammar_in, IsItemIn}
use Rattle.wf_chain.proofs.HeldNames.{found_held, found_named}
use Rattle.wf_chain.proofs.viewed_run.ViewedRun.find_item.Goals as goal

pub find_item-requires : goal.find_item-requires
find_item-requires c = subst (λ (h : HeldGrammar). IsTableOf h.core c.self.inside.run.now) (sym c.grammar.ensures.grammar) c.self.invariant.run

pub returns-clause-found : goal.returns-clause-found
returns-clause-found c =
    let x = c.self.inside in
    let kept = c.self.invariant in
    subst (λ (w : ViewedRunValue). IfSome c.find_item.result (IsItemIn w)) c.self.view_is
    (found_held x.viewed.now.accepted.grammar.core x.run.now kept.run kept.safe.accepted.formed c.args.name.now c.find_item.result
    (subst (λ (h : HeldGrammar). IfSome c.find_item.result (IsItemNamed h.core x.run.now c.args.name.now)) c.grammar.ensures.grammar c.find_item.ensures.found) c.find_item.ensures.within)

pub returns-clause-named : goal.returns-clause-named
returns-clause-named c =
    let x = c.self.inside in
    let kept = c.self.invariant in
    subst (λ (w : ViewedRunValue). IfSome c.find_item.result (λ i. item_name (grammar_in w) w.run i ≡ c.args.name.now)) c.self.view_is
    (found_named x.viewed.now.accepted.grammar.core x.run.now kept.run kept.safe.accepted.formed c.args.name.now c.find_item.result
    (subst (λ (h : HeldGrammar). IfSome c.find_item.result (IsItemNamed h.core x.run.now c.args.name.now)) c.grammar.ensures.grammar c.find_item.ensures.found) c.find_item.ensures.within)

pub returns-clause-none : goal.returns-clause-none
returns-clause-none c =
    subst (λ (w : ViewedRunValue). IsNone c.find_item.result → HasNoItem (grammar_in w) w.run c.args.name.now) c.self.view_is
    (subst (λ (h : HeldGrammar). IsNone c.find_item.result → HasNoItem h.core c.self.inside.run.now c.args.name.now) c.grammar.ensures.grammar c.find_item.ensures.none)
