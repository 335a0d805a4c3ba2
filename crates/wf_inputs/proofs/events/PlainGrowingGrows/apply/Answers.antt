use Rattle.std.proofs.Common.{◌≡◌, List, sym, subst}
use Rattle.wf_model.specs.declared.event.Event.{Event}
use Rattle.wf_intake.specs.Applied.{number_of}
use Rattle.wf_inputs.specs.Reporting.{GrowingSeen, IsGrownBy}
use Rattle.wf_inputs.proofs.PlainRuns.{found_for}
use Rattle.wf_inputs.proofs.events.PlainGrowingGrows.apply.Goals as goal

pub take_found-requires-clause-found : goal.take_found-requires-clause-found
take_found-requires-clause-found c =
    let seen : GrowingSeen = record { grammar = c.self.inside.grammar.now.core; run = c.self.inside.run } in
    let told = subst (λ (r : GrowingSeen). (events : List Event) → IsGrownBy r events → c.args.number ≡ number_of r.grammar events c.args.event.now) (sym c.self.view_is) c.requires in
    found_for seen c.self.invariant c.args.event.now c.args.number told
