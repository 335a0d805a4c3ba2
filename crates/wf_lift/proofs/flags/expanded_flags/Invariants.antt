use Rattle.std.proofs.Common.{◌≡◌, ℕ, ◌<◌, false, length, get_or}
use Rattle.wf_model.specs.View.{expands}
use Rattle.wf_lift.proofs.flags.expanded_flags.Given as goal

-- the modules so far
abbrev pub invariant-loop-m : goal.invariant-loop-m
invariant-loop-m l = record {
  one_each : length l.flags.items ≡ l.m;
  flags_are : (m : ℕ) → m < l.m → get_or l.flags.items m false ≡ expands l.sight.view.now.core m;
}
