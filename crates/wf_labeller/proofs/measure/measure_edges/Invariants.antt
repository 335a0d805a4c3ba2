use Rattle.std.proofs.Common.{◌≡◌, ◌≤◌, ◌++◌, length, map, take}
use Rattle.wf_model.specs.Lists.{numbers_from}
use Rattle.wf_model.specs.Grammar.{alternative_of}
use Rattle.bit_pack.specs.Written.{first_bits}
use Rattle.label_model.specs.Labels.{ending_bits}
use Rattle.wf_label.specs.Values.{alternative_bits}
use Rattle.wf_labeller.specs.Groups.{longest_of}
use Rattle.wf_labeller.proofs.measure.measure_edges.Given as goal

-- the longest of the labels so far; and the bits begin with those that all labels begin with
abbrev pub invariant-loop-k : goal.invariant-loop-k
invariant-loop-k l =
    let bits = first_bits l.prefix.bytes.now l.prefix.length in
    record {
      longest : l.longest ≡ longest_of (map (λ k. bits ++ ending_bits l.prefix.chain (alternative_of l.g.core l.fn.production.0) k) (numbers_from 0 l.k));
      begun : take l.begun l.bits ≡ bits ++ alternative_bits l.prefix.chain (alternative_of l.g.core l.fn.production.0);
      within : l.begun ≤ length l.bits;
    }
