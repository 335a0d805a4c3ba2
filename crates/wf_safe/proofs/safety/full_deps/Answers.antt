use Rattle.std.proofs.Common.{subst, sym}
use Rattle.std.proofs.lemmas.Option.{MatchOption-at_none, MatchOption-at_some}
use Rattle.wf_safe.specs.Full.{AreFullRows}
use Rattle.wf_safe.proofs.ByRows.{each_has_rows, found_not_safe, full_told, safe_told}
use Rattle.wf_safe.proofs.Inducing.{none_before}
use Rattle.wf_view.proofs.KnownViews.{held}
use Rattle.wf_safe.proofs.safety.full_deps.Goals as goal

pub induce_all-requires-clause-before : goal.induce_all-requires-clause-before
induce_all-requires-clause-before c = none_before c.args.v.grammar.now.core c.args.v.view.now c.args.proper.now c.in_ok-deps.deps c.shown_deps.ensures.formed c.requires.ranking (held c.args.v.grammar.now.core c.args.v.view.now c.args.v.held) c.in_ok-deps.ensures.shown

pub least_disagreement-requires : goal.least_disagreement-requires
least_disagreement-requires c = record { rows = each_has_rows c.args.v.grammar.now.core c.args.v.view.now.core c.args.proper.now c.induce_all.new.deps c.in_ok-induce_all.ensures }

pub witness_of-requires-clause-found : goal.witness_of-requires-clause-found
witness_of-requires-clause-found c = record {
  rows = c.induce_all.new.deps;
  induced = c.in_ok-induce_all.ensures;
  least = MatchOption-at_some _ _ c.in-Some.found c.in-Some.is c.in_ok-found.ensures;
}

pub returns-in_ok-witness-in-Some-clause-refused : goal.returns-in_ok-witness-in-Some-clause-refused
returns-in_ok-witness-in-Some-clause-refused c = (
  found_not_safe c.args.v.grammar.now.core c.args.v.view.now c.args.proper.now c.in-Some.found c.shown_deps.ensures.formed c.requires.ranking (held c.args.v.grammar.now.core c.args.v.view.now c.args.v.held) (record {
    rows = c.induce_all.new.deps;
    induced = c.in_ok-induce_all.ensures;
    least = MatchOption-at_some _ _ c.in-Some.found c.in-Some.is c.in_ok-found.ensures;
  }),
  c.in_ok-witness-in-Some.ensures,
)

pub returns-in-None-clause-safe : goal.returns-in-None-clause-safe
returns-in-None-clause-safe c =
    safe_told c.args.v.grammar.now.core c.args.v.view.now c.args.proper.now c.induce_all.new.deps c.shown_deps.ensures.formed c.requires.ranking (held c.args.v.grammar.now.core c.args.v.view.now c.args.v.held) c.in_ok-induce_all.ensures
    (MatchOption-at_none _ _ c.in-None.is c.in_ok-found.ensures)

pub returns-in-None-clause-full : goal.returns-in-None-clause-full
returns-in-None-clause-full c =
    subst (AreFullRows c.args.v.grammar.now.core c.args.v.view.now.core) (sym c.of_rows.ensures)
    (full_told c.args.v.grammar.now.core c.args.v.view.now c.args.proper.now c.induce_all.new.deps c.shown_deps.ensures.formed c.requires.ranking (held c.args.v.grammar.now.core c.args.v.view.now c.args.v.held) c.in_ok-induce_all.ensures
    (MatchOption-at_none _ _ c.in-None.is c.in_ok-found.ensures))
