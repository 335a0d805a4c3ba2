use Rattle.std.proofs.Common.{◌≤◌, sym, subst}
use Rattle.std.proofs.lemmas.List.{length-map}
use Rattle.wf_model.specs.Grammar.{Module}
use Rattle.wf_spec.specs.Naming.{names_of}
use Rattle.wf_view.specs.Rules.{number_in}
use Rattle.wf_view.proofs.Heading.{none_past}
use Rattle.wf_view.proofs.Looked.{none_place}
use Rattle.wf_view.proofs.checks.composite.is_composite_name.Goals as goal

pub returns-in-None : goal.returns-in-None
returns-in-None c =
    let g = c.args.g.now.core in
    sym (none_past g c.start-formed.ensures.formed (number_in g c.args.name.now)
    (subst (λ n. n ≤ number_in g c.args.name.now) (length-map g.modules (λ (m : Module). m.name)) (none_place (names_of g.modules) c.args.name.now c.find.result c.find.ensures.place c.in-None.is)))
