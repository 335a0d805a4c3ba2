use Rattle.std.proofs.Common.{◌≡◌, ℕ, ◌+◌, ◌*◌, ◌≤◌, take, length}
use Rattle.wf_recur.specs.Cycles.{round_at}
use Rattle.decode_model.specs.Counts.{most_products}
use Rattle.wf_lineage.specs.Listed.{IsListed}
use Rattle.wf_lineage.specs.Lines.{OfStore, AreLinesDue}
use Rattle.wf_lineage.proofs.listing.add_listed.Given as goal

-- the lines of the entries so far are due
abbrev pub invariant-loop-entry : goal.invariant-loop-entry
invariant-loop-entry g l = record {
  due : OfStore l.vl l.store l.of.bits (λ u entries y. AreLinesDue (IsListed l.vl.grammar u l.direction y) (take l.entry entries) l.initial.due l.due (g.O.Sink.put_bytes l.initial.out) (g.O.Sink.put_bytes l.out));
  count : g.O.Sink.faults l.out ≡ g.O.Sink.faults l.initial.out;
  room : l.scratch ≡ l.initial.scratch;
  cost : (most : ℕ) → ((k : ℕ) → length (round_at l.vl.cycles k) ≤ most) → l.steps ≤ l.initial.steps + l.entry * most_products l.vl.grammar most;
}
