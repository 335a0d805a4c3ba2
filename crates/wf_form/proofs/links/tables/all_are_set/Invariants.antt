use Rattle.std.proofs.Common.{◌≡◌, ◌<◌, true, false, get_or}
use Rattle.wf_model.specs.Grammar.{Inner}
use Rattle.wf_form.specs.Ends.{IsPortOf, place_of}
use Rattle.wf_form.proofs.links.tables.all_are_set.Given as goal

abbrev pub invariant-loop-k : goal.invariant-loop-k
invariant-loop-k l = (i : Inner) → i.position < l.k → IsPortOf l.counts i → get_or l.marks (place_of i) false ≡ true
