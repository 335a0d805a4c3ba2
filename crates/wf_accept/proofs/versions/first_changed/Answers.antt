use Rattle.std.proofs.Common.{length, get_or, below_more, sym, ap, subst, inl, inr, ⊎_elim, arith}
use Rattle.wf_model.specs.Lists.{IsIn, IsAt}
use Rattle.wf_model.proofs.Lists.{is_at, at_is, at_in, in_at, at_below}
use Rattle.wf_spec.specs.declared.version.Version.{Version}
use Rattle.wf_accept.specs.Accepted.{KeepsItsCycles}
use Rattle.wf_accept.proofs.versions.first_changed.Goals as goal

abbrev none : Version
none = record { modules = 0; productions = 0 }

pub same_cycles-requires : goal.same_cycles-requires
same_cycles-requires c =
    let vs = c.versions-versions.result.now in
    record { version = c.versions-versions.ensures.fit.each (get_or vs c.loop-n.n none) (subst (IsIn (get_or vs c.loop-n.n none)) c.versions-versions.ensures.versions (at_in (get_or vs c.loop-n.n none) c.loop-n.n vs (is_at c.loop-n.n vs none c.loop-n-test.true))) }

pub returns-in-Err-clause-changed : goal.returns-in-Err-clause-changed
returns-in-Err-clause-changed c =
    let vs = c.versions-versions.result.now in
    let held = c.versions-versions.ensures.versions in
    ⊎_elim (λ m. inl m) (λ h. inr (record {
      version = get_or vs c.loop-n.n none;
      is_at = subst (IsAt (get_or vs c.loop-n.n none) c.loop-n.n) held (is_at c.loop-n.n vs none c.loop-n-test.true);
      before = c.loop-n.invariant;
      changes = h;
    })) c.in-Err.ensures.changed

pub loop-n-preserved : goal.loop-n-preserved
loop-n-preserved c = below_more (λ k. (v : Version) → IsAt v k c.args.g.grammar.now.versions → KeepsItsCycles c.args.g.grammar.now.core v) c.loop-n.n c.loop-n.invariant (λ v at.
    let vs = c.versions-versions.result.now in
    let same = at_is v c.loop-n.n vs none (subst (IsAt v c.loop-n.n) (sym c.versions-versions.ensures.versions) at) in
    subst (KeepsItsCycles c.args.g.grammar.now.core) same c.in_default.ensures.kept)

pub returns-clause-kept : goal.returns-clause-kept
returns-clause-kept c = λ v i.
    let a = in_at v c.args.g.grammar.now.versions i in
    let low = at_below v a.0 c.args.g.grammar.now.versions a.1 in
    let many = ap length c.versions-versions.ensures.versions in
    c.loop-n.invariant a.0 (omega arith) v a.1
