use Rattle.std.proofs.Common.{◌≡◌, ◌≤◌, ◌+◌, ◌++◌, take, vec_len, vec_capacity}
use Rattle.wf_model.specs.Grammar.{body_of}
use Rattle.wf_gen.specs.Turns.{pending_from}
use Rattle.wf_gen.specs.Held.{all_pending}
use Rattle.wf_gen.proofs.pending.put_children.Given as goal

abbrev pub invariant-loop-k : goal.invariant-loop-k
invariant-loop-k l = record {
  items : all_pending l.pending.items ≡ all_pending l.initial.pending.items ++ pending_from l.g.core l.first (take l.k (body_of l.g.core l.p.0));
  few : vec_len l.pending ≤ vec_len l.initial.pending + l.k;
  room : vec_capacity l.initial.pending ≤ vec_capacity l.pending;
}
