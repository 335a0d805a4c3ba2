use Rattle.std.proofs.Common.{◌≡◌, ◌&&◌, drop, map, get_or, false}
use Rattle.std.specs.Prelude.{◌==◌}
use Rattle.wf_model.specs.Lists.{some}
use Rattle.wf_model.specs.Grammar.{Edge}
use Rattle.wf_model.specs.Meaning.{edge_of}
use Rattle.wf_form.proofs.links.cycle.leads_back.Given as goal

abbrev pub invariant-loop-e : goal.invariant-loop-e
invariant-loop-e l =
    some (λ (e : Edge). (e.to.position == l.position) && get_or l.marks e.from.position false) (map edge_of (drop l.e-index l.edges))
    ≡ some (λ (e : Edge). (e.to.position == l.position) && get_or l.marks e.from.position false) (map edge_of l.edges)
