use Rattle.std.proofs.Common.{◌≡◌, ◌+◌, List, length, bytes_eq}
use Rattle.std.specs.Cmp.Lexicographic.{pointwise}
use Rattle.wf_model.specs.Lists.{numbers_from}
use Rattle.wf_model.specs.declared.event.Event.{Event}
use Rattle.wf_run.specs.Runs.{IsRunOf, names_at}
use Rattle.cmd_ingest.proofs.label_lines.have_names.Given as goal

abbrev pub invariant-loop-wanted : goal.invariant-loop-wanted
invariant-loop-wanted l =
    let all = names_at l.run (numbers_from l.fn.children.first l.fn.children.count) in
    let behind = names_at l.run (numbers_from l.next l.left) in
    (l.next + l.left ≡ l.fn.children.first + l.fn.children.count)
    × ((events : List Event) → IsRunOf l.run events → pointwise bytes_eq all l.names ≡ pointwise bytes_eq behind l.wanted)

abbrev pub decreases-loop-wanted : goal.decreases-loop-wanted
decreases-loop-wanted l = length l.wanted
