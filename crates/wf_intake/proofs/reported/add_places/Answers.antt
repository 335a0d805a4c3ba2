use Rattle.std.proofs.Common.{◌∙◌, ◌+◌, ap, refl}
use Rattle.wf_intake.proofs.Adding.{places_added, places_same}
use Rattle.wf_intake.proofs.reported.add_places.Goals as goal

pub returns-clause-added : goal.returns-clause-added
returns-clause-added c = places_added c.resize.result c.resize.new.self.items c.args.places.now.items _ _ c.args.count _ c.resize.ensures.items c.args.places.now.ok.0 (c.in-Some.ensures.1 ∙ ap (λ n. n + c.args.count) c.len.ensures) refl

pub returns-clause-same : goal.returns-clause-same
returns-clause-same c = places_same c.resize.result c.resize.new.self.items c.args.places.now.items _ c.resize.ensures.items
