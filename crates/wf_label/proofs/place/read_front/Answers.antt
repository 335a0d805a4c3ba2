use Rattle.std.proofs.Common.{◌≡◌, ◌+◌, Bool, true, false, List, ◌∷◌, ◌++◌, ap, ◌∙◌}
use Rattle.bit_pack.specs.Gamma.{gamma}
use Rattle.wf_label.specs.Marks.{Mark, BeginMarks, BeginLabel}
use Rattle.wf_label.proofs.MarksRead.{ok_from}
use Rattle.wf_label.proofs.LabelFirst.{IsPortFirst, label_bit, edge_first, port_first, port_bit, port_number, port_read}
use Rattle.wf_label.proofs.place.read_front.Given.{Over}
use Rattle.wf_label.proofs.place.read_front.Goals as goal
use Rattle.wf_label.proofs.place.read_front.Goals.{Then-of_edge, After-next_bit-2}

-- a bit that is read is this one
is_bit : (b d : Bool) (bits left : List Bool) → bits ≡ b ∷ left → b ≡ d → bits ≡ d ∷ left
is_bit b d bits left e is = e ∙ ap (λ z. z ∷ left) is

-- behind a one a place is left
place_left : (over : Over) (c : Then-of_edge over) (marks : List Mark) → BeginLabel c.args.g.now.core (over.R.Codes.reading c.args.bits.now).left marks → BeginMarks c.args.g.now.core c.args.g.now.core.start false (over.R.Codes.reading c.next_bit.new.self).left marks
place_left over c marks h =
    let g = c.args.g.now.core in
    let left = (over.R.Codes.reading c.next_bit.new.self).left in
    let bit = rw c.unwrap-of_edge.ensures at c.next_bit.ensures.ok in
    (edge_first g (over.R.Codes.reading c.args.bits.now).left left marks (is_bit c.unwrap-of_edge.result true (over.R.Codes.reading c.args.bits.now).left left bit c.if-of_edge.true) h)

-- behind a zero a port is left
port_left : (over : Over) (c : After-next_bit-2 over) (marks : List Mark) → BeginLabel c.args.g.now.core (over.R.Codes.reading c.args.bits.now).left marks → IsPortFirst (over.R.Codes.reading c.next_bit.new.self).left marks
port_left over c marks h =
    let bit = rw c.unwrap-of_edge.ensures at c.next_bit.ensures.ok in
    port_first c.args.g.now.core c.start-formed.ensures.formed (over.R.Codes.reading c.args.bits.now).left (over.R.Codes.reading c.next_bit.new.self).left marks (is_bit c.unwrap-of_edge.result false (over.R.Codes.reading c.args.bits.now).left (over.R.Codes.reading c.next_bit.new.self).left bit c.if-of_edge.false) h

pub unwrap-of_edge-requires : goal.unwrap-of_edge-requires
unwrap-of_edge-requires over c = ok_from c.next_bit.result (λ e. label_bit c.args.g.now.core (over.R.Codes.reading c.args.bits.now).left c.requires.0 c.requires.1 (c.next_bit.ensures.ended e))

pub returns-then-of_edge-clause-read : goal.returns-then-of_edge-clause-read
returns-then-of_edge-clause-read over c = λ marks h. place_left over (goal.at.returns-then-of_edge-clause-read over c).Then-of_edge marks h

pub unwrap-is_output-requires : goal.unwrap-is_output-requires
unwrap-is_output-requires over c =
    let s = (goal.at.unwrap-is_output-requires over c).After-next_bit-2 in
    ok_from c.next_bit-2.result (λ e. port_bit (over.R.Codes.reading c.next_bit.new.self).left c.requires.0 (port_left over s c.requires.0 c.requires.1) (c.next_bit-2.ensures.ended e))

pub unwrap-requires : goal.unwrap-requires
unwrap-requires over c =
    let s = (goal.at.unwrap-requires over c).After-next_bit-2 in
    let bit = rw c.unwrap-is_output.ensures at c.next_bit-2.ensures.ok in
    ok_from c.next_number.result
    (λ e. port_number c.unwrap-is_output.result (over.R.Codes.reading c.next_bit.new.self).left (over.R.Codes.reading c.next_bit-2.new.self).left c.requires.0 (port_left over s c.requires.0 c.requires.1) bit (c.next_number.ensures.malformed e))

-- the port that is read
whole : (b d : Bool) (n : List Bool) (bits old new : List Bool) → bits ≡ b ∷ old → b ≡ d → old ≡ n ++ new → bits ≡ d ∷ (n ++ new)
whole b d n bits old new e is q = e ∙ (ap (λ z. z ∷ old) is ∙ ap (λ z. d ∷ z) q)

pub returns-then-is_output-clause-read : goal.returns-then-is_output-clause-read
returns-then-is_output-clause-read over c = λ marks h.
    let s = (goal.at.returns-then-is_output-clause-read over c).After-next_bit-2 in
    let bit = rw c.unwrap-is_output.ensures at c.next_bit-2.ensures.ok in
    let number = rw c.unwrap.ensures at c.next_number.ensures.read in
    let left = (over.R.Codes.reading c.next_number.new.self).left in
    port_read true c.unwrap.result (over.R.Codes.reading c.next_bit.new.self).left left marks (port_left over s marks h) (whole c.unwrap-is_output.result true (gamma (c.unwrap.result + 1)) (over.R.Codes.reading c.next_bit.new.self).left (over.R.Codes.reading c.next_bit-2.new.self).left left bit c.if-is_output.true number.is)

pub returns-clause-read : goal.returns-clause-read
returns-clause-read over c = λ marks h.
    let s = (goal.at.returns-clause-read over c).After-next_bit-2 in
    let bit = rw c.unwrap-is_output.ensures at c.next_bit-2.ensures.ok in
    let number = rw c.unwrap.ensures at c.next_number.ensures.read in
    let left = (over.R.Codes.reading c.next_number.new.self).left in
    port_read false c.unwrap.result (over.R.Codes.reading c.next_bit.new.self).left left marks (port_left over s marks h) (whole c.unwrap-is_output.result false (gamma (c.unwrap.result + 1)) (over.R.Codes.reading c.next_bit.new.self).left (over.R.Codes.reading c.next_bit-2.new.self).left left bit c.if-is_output.false number.is)
