use Rattle.std.proofs.Common.{List, Option, sym, ap, subst, ◌∙◌}
use Rattle.std.specs.Prelude.{ℕ}
use Rattle.wf_model.specs.Links.{links_with}
use Rattle.wf_model.specs.Meaning.{pairs_of}
use Rattle.wf_model.specs.Proper.{IsProper}
use Rattle.wf_model.specs.WellFormed.{IsWellFormed}
use Rattle.wf_spec.specs.Held.{HeldGrammar}
use Rattle.wf_view.specs.Held.{HeldView, IsHeldFor}
use Rattle.wf_safe.specs.Full.{AreFullRows}
use Rattle.wf_flat.specs.Graph.{Marks}
use Rattle.wf_flat.specs.Table.{IsTableOf, events_of}
use Rattle.cmd_ask.specs.Prepared.{IsPrepared}
use Rattle.cmd_ask.proofs.trace.prepare.Goals as goal

pub invariant_of-result : goal.invariant_of-result
invariant_of-result c =
    let v = c.args.v.now in
    let g = c.grammar.result.now.core in
    let same = c.grammar.ensures.grammar in
    let safe = c.grammar.ensures.safe in
    let formed = subst (λ (h : HeldGrammar). IsWellFormed h.core) (sym same) safe.accepted.formed in
    let proper = subst (λ (h : HeldGrammar). IsProper h.core) (sym same) safe.accepted.proper in
    let held = subst (λ (h : HeldGrammar). IsHeldFor h.core v.view) (sym same) safe.held in
    let full = subst (λ (h : HeldGrammar). AreFullRows h.core v.view.core v.full) (sym same) safe.full in
    let marks = subst (λ (u : HeldView). Marks c.marks.result.now u.core) c.view.ensures.view c.marks.ensures in
    subst (λ (h : HeldGrammar). IsPrepared h.core v.view.core c.args.run.now c.in_ok-flat.flat) same
    (record {
      formed = formed;
      proper = proper;
      composites = held.is_view.expanded;
      run = subst (λ (h : HeldGrammar). IsTableOf h.core c.args.run.now) (sym same) c.requires.run;
      full = pairs_of v.full;
      induced = full.induced;
      held = c.in_ok-flat.ensures.graph.0;
      links = c.in_ok-flat.ensures.graph.1 v.view.core marks
          ∙ ap (λ (rows : List (Option (List ℕ))). links_with g v.view.core (pairs_of rows) g.start (events_of c.args.run.now)) (c.deps.ensures ∙ c.full.ensures.full);
      within = c.in_ok-flat.ensures.graph.2;
      graph = c.in_ok-flat.ensures.graph.3;
      opens = c.in_ok-flat.ensures.opens v.view.core marks;
    })
