use Rattle.std.proofs.Common.{refl, sym, ap, ◌∙◌, subst}
use Rattle.wf_model.specs.Run.{Instance}
use Rattle.wf_flat.specs.Graph.{inst_at}
use Rattle.wf_chain.specs.ViewedRuns.{grammar_in, view_in, events_in, item_in}
use Rattle.wf_chain.proofs.Stepping.{same_number}
use Rattle.wf_reason.proofs.Named.{number_of}
use Rattle.chain_model.specs.Chains.{Consumes}
use Rattle.wf_reason.proofs.naming.find_consumer.Goals as goal

pub returns-in_err-via-clause-none : goal.returns-in_err-via-clause-none
returns-in_err-via-clause-none c = λ g n h e.
    let k = number_of c.args.run.now c.run-run.ensures.safe c.run-run.ensures.table n h.seen in
    c.in_err-via.ensures.none refl k.0 k.1 (ap (λ (z : Instance). z.name) k.2 ∙ e)

pub returns-in_err-input-clause-none : goal.returns-in_err-input-clause-none
returns-in_err-input-clause-none c = λ g n h e.
    let v = c.args.run.now in
    let via = c.in_ok-via.via in
    let k = number_of v c.run-run.ensures.safe c.run-run.ensures.table n h.seen in
    let same = same_number v c.run-run.ensures.table k.0 via k.1 c.in_ok-via.ensures.there (ap (λ (z : Instance). z.name) k.2 ∙ (e ∙ sym c.in_ok-via.ensures.named)) in
    let is = sym k.2 ∙ ap (inst_at v.run.instances) same in
    c.in_err-input.ensures (subst (Consumes (grammar_in v) (view_in v) (grammar_in v).start (events_in v) (item_in v c.args.item.now)) is h)
