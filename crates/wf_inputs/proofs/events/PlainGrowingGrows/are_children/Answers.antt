use Rattle.std.proofs.Common.{ap, ◌∙◌}
use Rattle.std.specs.Prelude.{position, bytes_eq}
use Rattle.wf_model.specs.Run.{expanded_by}
use Rattle.wf_flat.specs.Table.{names_in, events_of}
use Rattle.wf_inputs.specs.Reporting.{GrowingSeen}
use Rattle.wf_inputs.proofs.PlainRuns.{place_of_name}
use Rattle.wf_inputs.proofs.events.PlainGrowingGrows.are_children.Goals as goal

pub returns : goal.returns
returns c = λ events run instance e at is.
    let seen = c.self.view_is in
    c.are_children.ensures instance e
    (ap (λ (r : GrowingSeen). position (bytes_eq instance) (names_in r.run.instances)) seen ∙ (place_of_name c.args.self.now events run instance ∙ at))
    (ap (λ (r : GrowingSeen). expanded_by (events_of r.run) instance) seen ∙ (ap (λ es. expanded_by es instance) run.events ∙ is))
