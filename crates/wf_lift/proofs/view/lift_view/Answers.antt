use Rattle.std.proofs.Common.{Vec, Global, ℕ, ap, ◌∙◌, sym, subst, map}
use Rattle.std.proofs.lemmas.List.{length-map}
use Rattle.wf_model.specs.Grammar.{Grammar}
use Rattle.wf_spec.specs.Held.{HeldGrammar}
use Rattle.wf_view.specs.FitRows.{FitGrammar}
use Rattle.wf_view.specs.Held.{IsHeldFor}
use Rattle.wf_view.proofs.KnownViews.{held}
use Rattle.wf_lift.proofs.Perceiving.{fit_lifted, lifted_alike}
use Rattle.wf_lift.proofs.view.lift_view.Goals as goal

pub of_rows-requires : goal.of_rows-requires
of_rows-requires c =
    let g = c.args.sight.grammar.now.core in
    let v = c.args.sight.view.now in
    let rows = map (λ (r : Vec ℕ Global). r.items) c.in_ok-rows.rows.items in
    subst (λ (h : Grammar). FitGrammar h c.in_ok-expanded.expanded.items rows) (sym (ap (λ (h : HeldGrammar). h.core) c.grammar-grammar.ensures.grammar ∙ c.requires.lifted))
    (fit_lifted g c.start-formed.ensures.formed v (held g v c.args.sight.held) c.args.automaton.now c.states-automaton.ensures.formed c.in_ok-expanded.expanded.items rows
    c.in_ok-expanded.ensures.one_each c.in_ok-expanded.ensures.flags (length-map c.in_ok-rows.rows.items (λ (r : Vec ℕ Global). r.items) ∙ c.in_ok-rows.ensures.one_each) c.in_ok-rows.ensures.lifted)

pub returns-clause-held : goal.returns-clause-held
returns-clause-held c = subst (λ (h : HeldGrammar). IsHeldFor h.core c.in_ok-view.view) c.grammar-grammar.ensures.grammar c.in_ok-view.ensures.held

pub returns-clause-alike : goal.returns-clause-alike
returns-clause-alike c =
    let g = c.args.sight.grammar.now.core in
    let v = c.args.sight.view.now in
    let rows = map (λ (r : Vec ℕ Global). r.items) c.in_ok-rows.rows.items in
    lifted_alike g c.start-formed.ensures.formed v (held g v c.args.sight.held) c.args.automaton.now c.states-automaton.ensures.formed c.in_ok-expanded.expanded.items rows
    c.in_ok-expanded.ensures.one_each c.in_ok-expanded.ensures.flags (length-map c.in_ok-rows.rows.items (λ (r : Vec ℕ Global). r.items) ∙ c.in_ok-rows.ensures.one_each) c.in_ok-rows.ensures.lifted
    c.in_ok-view.view.core c.in_ok-view.ensures.in_words
