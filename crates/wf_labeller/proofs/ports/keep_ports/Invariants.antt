use Rattle.std.proofs.Common.{map, drop}
use Rattle.label_model.specs.Files.{entry_of}
use Rattle.wf_labeller.specs.Entries.{labelled_ports}
use Rattle.wf_labeller.proofs.KeptSoFar.{IsKeptSoFar}
use Rattle.wf_labeller.proofs.ports.keep_ports.Given as goal

abbrev pub invariant-loop-k : goal.invariant-loop-k
invariant-loop-k g l =
    IsKeptSoFar g.K.Keeper.parts_of (g.K.Keeper.kept l.fn.to) (g.K.Keeper.kept l.to) (map entry_of (labelled_ports l.side l.root l.k (drop l.k l.ports))) (map entry_of (labelled_ports l.side l.root 0 l.ports))
