use Rattle.std.proofs.Common.{ap, ◌∙◌}
use Rattle.std.specs.Prelude.{position, bytes_eq}
use Rattle.wf_flat.specs.Table.{names_in}
use Rattle.wf_inputs.specs.Reporting.{GrowingSeen}
use Rattle.wf_inputs.proofs.PlainRuns.{place_of_name}
use Rattle.wf_inputs.proofs.events.PlainGrowingGrows.find.Goals as goal

pub returns : goal.returns
returns c = λ events at.
    let name = c.args.name.now in
    c.find.ensures.place ∙ (ap (λ (r : GrowingSeen). position (bytes_eq name) (names_in r.run.instances)) c.self.view_is ∙ place_of_name c.args.self.now events at name)
