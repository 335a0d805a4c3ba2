use Rattle.std.proofs.Common.{◌≡◌, ◌<◌, ℕ, map, drop, length}
use Rattle.wf_model.specs.Lists.{IsIn}
use Rattle.wf_model.specs.View.{View}
use Rattle.wf_model.specs.Run.{see_all, seen_in}
use Rattle.wf_flat.specs.Table.{names_in, expansion_of, events_of}
use Rattle.wf_flat.specs.Graph.{Agree, Marks, inst_at}
use Rattle.wf_flat.proofs.seen.seen.Given as goal

abbrev pub invariant-loop-o : goal.invariant-loop-o
invariant-loop-o l = record {
  told : (u : View) → Marks l.expanded u → see_all l.g.core u l.g.core.start (map (inst_at l.run.instances) l.seen.items) (map (expansion_of (names_in l.run.instances)) (drop l.o-index l.order)) ≡ seen_in l.g.core u l.g.core.start (events_of l.run);
  agree : Agree l.flags.items l.seen.items;
  there : (c : ℕ) → IsIn c l.seen.items → c < length l.run.instances;
  count : length l.flags.items ≡ length l.run.instances;
}
