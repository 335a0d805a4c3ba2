use Rattle.std.proofs.Common.{◌≡◌, suc, ◌+◌, ◌≤◌, take, length, ap, sym, subst, ◌∙◌, arith, ⊎_elim}
use Rattle.std.proofs.lemmas.List.{take_all}
use Rattle.wf_model.specs.declared.body.Edge.{Edge as EdgeHeld}
use Rattle.wf_model.specs.Lists.{IsIn}
use Rattle.wf_model.proofs.Lists.{is_at, at_in}
use Rattle.wf_flat.proofs.Leaving.{same_port, other_port, in_take_more}
use Rattle.wf_flat.proofs.item.edge_from.Goals as goal

pub returns-then-eq-clause-found : goal.returns-then-eq-clause-found
returns-then-eq-clause-found c = (at_in _ c.loop-e.e-index c.args.edges.now (is_at c.loop-e.e-index c.args.edges.now _ c.loop-e-test.true), same_port _ c.args.from c.if-eq.ensures)

pub loop-e-preserved : goal.loop-e-preserved
loop-e-preserved c =
    λ e h s.
    let n : c.loop-e.e-index + 1 ≡ suc c.loop-e.e-index = omega arith in
    ⊎_elim (λ a. c.loop-e.invariant e a s) (λ q. other_port _ c.args.from c.if-eq.ensures (ap (λ (z : EdgeHeld). z.from) (sym q) ∙ s))
    (in_take_more e _ c.loop-e.e-index c.args.edges.now (subst (λ k. IsIn e (take k c.args.edges.now)) n h))

pub returns-clause-none : goal.returns-clause-none
returns-clause-none c =
    λ z e h s. c.loop-e.invariant e (subst (IsIn e) (sym (let l : length c.args.edges.now ≤ c.loop-e.e-index = omega arith in take_all c.loop-e.e-index c.args.edges.now l)) h) s
