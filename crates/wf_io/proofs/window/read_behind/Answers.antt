use Rattle.std.proofs.Common.{◌≡◌, ◌-◌, ◌+◌, List, ◌++◌, ℕ, length, take, drop, Result, Ok, Err, ap, ◌∙◌, arith, length-take, length-drop}
use Rattle.std.proofs.lemmas.List.{drop_at, take-append-le, length-take-le}
use borrow.Rule.Slice.PartMut.{post_of}
use Rattle.wf_io.specs.Told.{File, Reads}
use Rattle.wf_io.proofs.window.read_behind.Goals as goal

-- what was read into a part of a buffer stands behind what was before it
read_part : {E : Type 0} (file : File) (at size room : ℕ) (result : Result ℕ E) (part buffer more : List ℕ) → room ≡ size → length part ≡ room → buffer ≡ part ++ more → Reads file at room result part → Reads file at size result buffer
read_part file at size room (Ok n) part buffer more e fits whole r = record {
  within = omega (arith, r.within, e);
  there = r.there;
  same = ap (take n) whole ∙ take-append-le n part more (omega (arith, r.within, fits)) ∙ r.same;
  none = λ z some. r.none z (omega (arith, some, e));
}
read_part file at size room (Err d) part buffer more e fits whole r = record { room = omega (arith, r.room, e); past = r.past; broken = r.broken }

pub returns-clause-bytes : goal.returns-clause-bytes
returns-clause-bytes g c = λ f told.
    let a = c.args in
    let size = a.from + a.size - a.from in
    let front = length-take-le a.from a.buffer.now (omega arith) in
    let room : length (take size (drop a.from a.buffer.now)) ≡ a.size = omega (arith, length-take size (drop a.from a.buffer.now), length-drop a.from a.buffer.now) in
    let fits : length c.read_at.new.buf ≡ length (take size (drop a.from a.buffer.now)) = omega (arith, c.read_at.auto.buf) in
    read_part (f a.name.now) a.at a.size _ c.read_at.result c.read_at.new.buf _ (post_of a.from size a.buffer.now) room fits (drop_at (take a.from a.buffer.now) _ a.from front) (c.read_at.ensures.bytes f told)
