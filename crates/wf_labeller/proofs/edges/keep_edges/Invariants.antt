use Rattle.std.proofs.Common.{◌≡◌, ◌≤◌, ◌++◌, length, map, take, drop}
use Rattle.wf_model.specs.Meaning.{edge_of}
use Rattle.bit_pack.specs.Written.{first_bits}
use Rattle.wf_label.specs.Values.{alternative_bits}
use Rattle.wf_labeller.specs.Entries.{edge_entry, numbered_edges}
use Rattle.wf_labeller.proofs.KeptSoFar.{IsKeptSoFar}
use Rattle.wf_labeller.proofs.edges.keep_edges.Given as goal

-- what was kept, and the entries of the edges that are left, are all; and the bits begin with those that all labels begin with
abbrev pub invariant-loop-k : goal.invariant-loop-k
invariant-loop-k g l =
    let entry = edge_entry l.g.core l.production.0 l.names (first_bits l.prefix.bytes.now l.prefix.length) l.prefix.chain in
    record {
      kept : IsKeptSoFar g.K.Keeper.parts_of (g.K.Keeper.kept l.fn.to) (g.K.Keeper.kept l.to) (map entry (numbered_edges l.k (map edge_of (drop l.k l.edges)))) (map entry (numbered_edges 0 (map edge_of l.edges)));
      begun : take l.begun l.bits ≡ first_bits l.prefix.bytes.now l.prefix.length ++ alternative_bits l.prefix.chain l.alternative;
      within : l.begun ≤ length l.bits;
    }
