use Rattle.std.proofs.Common.{◌≡◌, List, ℕ, ◌++◌}
use Rattle.wf_lines.specs.BegunLines.{begun_line}
use Rattle.wf_lines.specs.Taking.{IsDue}
use Rattle.wf_lines.proofs.lines.take_line.Given as goal

abbrev pub invariant-loop-fault : goal.invariant-loop-fault
invariant-loop-fault g l =
    let t = g.T.Taker in
    let put = g.O.Sink.put_bytes in record {
      ready : t.is_ready l.taker;
      known : (k : t.Known) → t.is_known l.fn.taker k → t.is_known l.taker k;
      within : (s : t.State) → t.is_at l.fn.taker s → (far : List ℕ) × t.is_within l.taker (begun_line s l.fn.number l.fn.text far) × IsDue (l.fn.due ++ far) l.due (put l.fn.out) (put l.out);
      put_faults : g.O.Sink.faults l.out ≡ g.O.Sink.faults l.fn.out;
    }

abbrev pub decreases-loop-fault : goal.decreases-loop-fault
decreases-loop-fault g l = g.T.Taker.left l.taker
