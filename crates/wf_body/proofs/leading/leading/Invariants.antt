use Rattle.std.proofs.Common.{◌≡◌, length, take, map}
use Rattle.wf_model.specs.Meaning.{edge_of}
use Rattle.wf_body.proofs.Listing.{AreListed}
use Rattle.wf_body.proofs.leading.leading.Given as goal

abbrev pub invariant-loop-e : goal.invariant-loop-e
invariant-loop-e l = record {
  count : length l.lists.items ≡ l.count;
  listed : AreListed (map edge_of (take l.e-index l.edges)) l.lists.items;
}
