use Rattle.std.proofs.Common.{◌≤◌, List, map, subst, sym, ◌∙◌, true≢false}
use Rattle.wf_model.specs.declared.body.Edge.{Edge as EdgeHeld}
use Rattle.wf_model.specs.Meaning.{edge_of}
use Rattle.wf_form.specs.Graphs.{IsAcyclic}
use Rattle.wf_form.specs.Wiring.{IsWiredForward, IsSmall}
use Rattle.wf_spec.proofs.Listing.{read_in}
use Rattle.wf_spec.proofs.FirstFaults.{holds_more, fails_at}
use Rattle.wf_form.proofs.Sided.{from_there, to_there}
use Rattle.wf_form.proofs.links.wirings.first_cycle.Goals as goal
use Rattle.wf_form.proofs.links.wirings.first_cycle.Goals.{After-deref}

small : (c : After-deref) → IsSmall c.index-wirings-k.result
small c = c.requires c.index-wirings-k.result (read_in c.args.wirings.now c.loop-k.k c.index-wirings-k.result c.index-wirings-k.is c.loop-k-test.true)

pub has_no_cycle-requires-clause-few : goal.has_no_cycle-requires-clause-few
has_no_cycle-requires-clause-few c =
    subst (λ n. n ≤ 64) (sym (c.len.ensures ∙ c.index-wirings-k.result.positions.ok.0)) (small (goal.at.has_no_cycle-requires-clause-few c).After-deref).few_positions

pub has_no_cycle-requires-clause-from : goal.has_no_cycle-requires-clause-from
has_no_cycle-requires-clause-from c =
    from_there c.index-wirings-k.result c.deref.result.now c.len.result (small (goal.at.has_no_cycle-requires-clause-from c).After-deref) c.deref.ensures.value (c.len.ensures ∙ c.index-wirings-k.result.positions.ok.0)

pub has_no_cycle-requires-clause-to : goal.has_no_cycle-requires-clause-to
has_no_cycle-requires-clause-to c =
    to_there c.index-wirings-k.result c.deref.result.now c.len.result (small (goal.at.has_no_cycle-requires-clause-to c).After-deref) c.deref.ensures.value (c.len.ensures ∙ c.index-wirings-k.result.positions.ok.0)

pub returns-then-not-forward : goal.returns-then-not-forward
returns-then-not-forward c =
    fails_at IsWiredForward c.args.wirings.now c.loop-k.k c.index-wirings-k.result c.loop-k.invariant (λ h. true≢false (sym (c.in_ok-forward.ensures.1 (subst (λ (l : List EdgeHeld). IsAcyclic (map edge_of l)) (sym c.deref.ensures.value) h)) ∙ c.if-not-forward.true)) c.index-wirings-k.is c.loop-k-test.true

pub loop-k-preserved : goal.loop-k-preserved
loop-k-preserved c =
    holds_more IsWiredForward c.args.wirings.now c.loop-k.k c.index-wirings-k.result c.loop-k.invariant (subst (λ (l : List EdgeHeld). IsAcyclic (map edge_of l)) c.deref.ensures.value (c.in_ok-forward.ensures.0 c.if-not-forward.false)) c.index-wirings-k.is
