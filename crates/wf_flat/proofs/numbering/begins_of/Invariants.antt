use Rattle.std.proofs.Common.{◌≡◌, ◌*◌, ◌≤◌, get_or}
use Rattle.wf_flat.specs.Numbering.{AreSums, widths_of}
use Rattle.wf_flat.proofs.numbering.begins_of.Given as goal

abbrev pub invariant-loop-x : goal.invariant-loop-x
invariant-loop-x l = record {
  sums : AreSums (widths_of l.g.core l.instances) l.begins.items (2 * l.x-index);
  last : get_or l.begins.items (2 * l.x-index) 0 ≡ l.next;
  small : l.next ≤ 2147483648;
}
