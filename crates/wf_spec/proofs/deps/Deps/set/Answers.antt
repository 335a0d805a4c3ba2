use Rattle.std.proofs.Common.{◌∙◌, ap, set, Some}
use Rattle.std.specs.Prelude.{option_map}
use Rattle.std.proofs.lemmas.List.{map-set}
use Rattle.wf_spec.proofs.deps.Deps.set.Goals as goal

pub returns-clause-set : goal.returns-clause-set
returns-clause-set c =
    map-set (option_map (λ r. r.items)) c.self.inside.modules.items c.args.m.0 (Some c.in_ok-kept.kept)
    ∙ ap (λ d. set d c.args.m.0 (Some c.in_ok-kept.kept.items)) c.self.view_is
    ∙ ap (λ r. set c.args.self.now c.args.m.0 (Some r)) c.in_ok-kept.ensures.items
