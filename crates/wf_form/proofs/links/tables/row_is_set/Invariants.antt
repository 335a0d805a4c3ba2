use Rattle.std.proofs.Common.{◌≡◌, ◌+◌, ◌<◌, ℕ, true, false, get_or}
use Rattle.wf_form.proofs.links.tables.row_is_set.Given as goal

abbrev pub invariant-loop-j : goal.invariant-loop-j
invariant-loop-j l = (j : ℕ) → j < l.j → get_or l.marks (l.first + j) false ≡ true
