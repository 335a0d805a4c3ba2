use Rattle.std.proofs.Common.{◌<◌, [], ℕ, false, get_or, map}
use Rattle.wf_view.specs.FitRows.{FitModule}
use Rattle.wf_view.proofs.fit.modules_fit.Given as goal

abbrev pub invariant-loop-m : goal.invariant-loop-m
invariant-loop-m l = (m : ℕ) → m < l.m → FitModule l.g.core m (get_or l.expanded m false) (get_or (map (λ r. r.items) l.rows) m [])
