use Rattle.std.proofs.Common.{sym, ◌∙◌, true≢false}
use Rattle.wf_form.specs.Wiring.{IsWiredAtMostOnce}
use Rattle.wf_spec.proofs.Listing.{read_in}
use Rattle.wf_spec.proofs.FirstFaults.{holds_more, fails_at}
use Rattle.wf_form.proofs.links.wirings.first_linked_twice.Goals as goal

pub is_linked_at_most_once-requires : goal.is_linked_at_most_once-requires
is_linked_at_most_once-requires c = c.requires c.index-wirings-k.result (read_in c.args.wirings.now c.loop-k.k c.index-wirings-k.result c.index-wirings-k.is c.loop-k-test.true)

pub returns-then-not-linked : goal.returns-then-not-linked
returns-then-not-linked c =
    fails_at IsWiredAtMostOnce c.args.wirings.now c.loop-k.k c.index-wirings-k.result c.loop-k.invariant (λ h. true≢false (sym (c.in_ok-linked.ensures.1 h) ∙ c.if-not-linked.true)) c.index-wirings-k.is c.loop-k-test.true

pub loop-k-preserved : goal.loop-k-preserved
loop-k-preserved c =
    holds_more IsWiredAtMostOnce c.args.wirings.now c.loop-k.k c.index-wirings-k.result c.loop-k.invariant (c.in_ok-linked.ensures.0 c.if-not-linked.false) c.index-wirings-k.is
