use Rattle.std.proofs.Common.{◌≤◌, ◌==◌, length, ap, ◌∙◌, subst}
use Rattle.std.proofs.lemmas.List.{length-map}
use Rattle.wf_model.specs.Grammar.{Module}
use Rattle.wf_spec.specs.Naming.{names_of, place_of}
use Rattle.wf_view.specs.Rules.{number_in}
use Rattle.wf_view.proofs.Looked.{none_place}
use Rattle.wf_view.proofs.Ports.{none_past}
use Rattle.wf_view.proofs.checks.pairs.has_known_pairs.Goals as goal

pub returns-in-None : goal.returns-in-None
returns-in-None c =
    let g = c.args.g.now.core in
    let name = c.args.part.now.«module» in
    let past = none_place (names_of g.modules) c.bytes.result.now c.find.result c.find.ensures.place c.in-None.is in
    c.is_empty.ensures ∙ (ap (λ ps. length ps == 0) c.items-pairs.ensures
    ∙ none_past g (number_in g name) c.args.part.now.pairs (subst (λ n. n ≤ number_in g name) (length-map g.modules (λ (m : Module). m.name)) (subst (λ n. length (names_of g.modules) ≤ place_of (names_of g.modules) n) c.bytes.ensures past)))
