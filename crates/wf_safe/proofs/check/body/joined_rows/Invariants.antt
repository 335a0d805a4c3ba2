use Rattle.std.proofs.Common.{◌≡◌, ◌↔◌, ◌<◌, ◌^◌, ℕ, IsTrue, length, get_or}
use Rattle.std.specs.List.{All}
use Rattle.wf_model.specs.Safe.{BodyJoins}
use Rattle.wf_model.specs.Meaning.{pairs_of}
use Rattle.bool_mat.specs.Matrix.{has}
use Rattle.wf_safe.proofs.check.body.joined_rows.Given as goal

-- the rows so far
abbrev pub invariant-loop-i : goal.invariant-loop-i
invariant-loop-i l = record {
  count : length l.rows.items ≡ l.i;
  pairs : (i o : ℕ) → i < l.i → o < l.outputs → IsTrue (has (get_or l.rows.items i 0) o) ↔ BodyJoins l.g.core (pairs_of l.deps) l.fn.p.0 i o;
  no_more : All (λ r. r < 2 ^ l.outputs) l.rows.items;
}
