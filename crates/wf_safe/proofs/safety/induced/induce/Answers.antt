use Rattle.std.proofs.Common.{sym, ◌∙◌, subst}
use Rattle.std.proofs.lemmas.Result.{on_ok_weaker}
use Rattle.wf_body.specs.Matrices.{HaveRows}
use Rattle.wf_safe.specs.Inducing.{GetsInduced}
use Rattle.wf_safe.proofs.Inducing.{body_has_rows, next_before, passed_by}
use Rattle.wf_safe.proofs.SeenBelow.{not_seen_expanded, seen_expanded_is}
use Rattle.wf_view.proofs.KnownViews.{held}
use Rattle.wf_safe.proofs.safety.induced.induce.Goals as goal
use Rattle.wf_safe.proofs.safety.induced.induce.Goals.{then-not-is_seen_expanded-via-then-not-is_seen_expanded, then-not-is_seen_expanded-via-else-not-is_seen_expanded+then-rank}

pub set_induced-requires-clause-rows : goal.set_induced-requires-clause-rows
set_induced-requires-clause-rows c =
    let g = c.args.v.grammar.now.core in
    let known = (seen_expanded_is g c.args.v.view.now c.args.m.0 (held c.args.v.grammar.now.core c.args.v.view.now c.args.v.held) c.requires.module_no).0 (sym c.is_seen_expanded.ensures ∙ c.if-not-is_seen_expanded.false) in
    subst (λ p. HaveRows g p c.args.deps.now) (sym c.choice.ensures)
    (body_has_rows g c.args.v.view.now c.args.proper.now c.args.rank c.args.m.0 c.args.deps.now c.requires.formed c.requires.ranking (held c.args.v.grammar.now.core c.args.v.view.now c.args.v.held) c.requires.before known (sym c.rank.ensures ∙ c.if-rank.false))

pub returns : goal.returns
returns c =
    let g = c.args.v.grammar.now.core in
    let known = (seen_expanded_is g c.args.v.view.now c.args.m.0 (held c.args.v.grammar.now.core c.args.v.view.now c.args.v.held) c.requires.module_no).0 (sym c.is_seen_expanded.ensures ∙ c.if-not-is_seen_expanded.false) in
    on_ok_weaker c.set_induced.result
    (λ s. next_before g c.args.v.view.now c.args.proper.now c.args.rank c.args.m.0 c.args.deps.now c.set_induced.new.deps c.requires.formed c.requires.ranking (held c.args.v.grammar.now.core c.args.v.view.now c.args.v.held) c.requires.before known (sym c.rank.ensures ∙ c.if-rank.false)
    (subst (λ p. GetsInduced g p c.args.deps.now c.set_induced.new.deps) c.choice.ensures s))
    c.set_induced.ensures

pub returns-then-not-is_seen_expanded : goal.returns-then-not-is_seen_expanded
returns-then-not-is_seen_expanded c =
    let g = c.args.v.grammar.now.core in
    let v = c.args.v.view.now in
    passed_by g v.core c.args.proper.now c.args.rank c.args.m.0 c.args.deps.now c.requires.before
    (elim c.then-not-is_seen_expanded.branch [
      | then-not-is_seen_expanded-via-then-not-is_seen_expanded w ↦ λ o e. not_seen_expanded g v c.args.m.0 (held c.args.v.grammar.now.core c.args.v.view.now c.args.v.held) c.requires.module_no (sym c.is_seen_expanded.ensures ∙ w.if-not-is_seen_expanded.true) o
      | then-not-is_seen_expanded-via-else-not-is_seen_expanded+then-rank w ↦ λ o e. absurd (w.if-rank.true (w.rank.ensures ∙ e))
    ])
