use Rattle.std.proofs.Common.{◌≡◌, ◌++◌, ◌<◌, ◌^◌, length}
use Rattle.std.specs.Prelude.{flat_map}
use Rattle.std.specs.List.{AllByRecursion}
use Rattle.wf_inbox.specs.Packed.{name_bytes}
use Rattle.wf_inbox.proofs.packed.push_names.Given as goal

abbrev pub invariant-loop-left : goal.invariant-loop-left
invariant-loop-left l =
    (l.into.items ++ flat_map name_bytes l.left ≡ l.initial.into.items ++ flat_map name_bytes l.names)
    × (AllByRecursion (λ n. length n < 2 ^ 32) l.left → AllByRecursion (λ n. length n < 2 ^ 32) l.names)

abbrev pub decreases-loop-left : goal.decreases-loop-left
decreases-loop-left l = length l.left
