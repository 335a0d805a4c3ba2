use Rattle.std.proofs.Common.{◌≡◌, Result, Ok, Err, OnOk, refl, sym, subst, ◌∙◌}
use Rattle.wf_io.specs.Readers.{Stands}
use Rattle.wf_io.specs.Steps.{EndsAt, GrewIn}
use Rattle.wf_io.specs.declared.lines.LineFault.{LineFault}
use Rattle.wf_io.proofs.Filling.{end_lines, end_stands, piece_lines, piece_stands}
use Rattle.wf_io.proofs.Onward.{reader_onward, further_once, further_reading, sees_end_at, grew_at, sees_tells, grew_tells}
use Rattle.wf_io.proofs.lines.Lines.fill.Goals as goal

-- what is shown of every file where a call gave no fault
on_ok : (result : Result (Unit {0}) LineFault) (P : Type 0) → (result ≡ Ok tt → P) → OnOk result P
on_ok (Ok _) P show = show refl
on_ok (Err _) P show = tt

pub returns-then-at-eq-FILE_MOST-clause-lines : goal.returns-then-at-eq-FILE_MOST-clause-lines
returns-then-at-eq-FILE_MOST-clause-lines g c = λ f told s.
    let r = c.args.self.now in
    let at = c.end_place-at.ensures in
    let all = sym at.place ∙ c.if-at-eq-FILE_MOST.true in
    let ends = subst (λ n. EndsAt (f r.name) n c.see_end.result) c.if-at-eq-FILE_MOST.true (c.see_end.ensures.bytes f told) in
    end_lines (f r.name) r c.see_end.new.self c.see_end.result (at.sound.dry c.requires.wants) at.sound all c.see_end.ensures.reader ends s

pub returns-then-at-eq-FILE_MOST-clause-stands : goal.returns-then-at-eq-FILE_MOST-clause-stands
returns-then-at-eq-FILE_MOST-clause-stands g c = on_ok c.see_end.result _ (λ ok f told s.
    let r = c.args.self.now in
    let all = sym c.end_place-at.ensures.place ∙ c.if-at-eq-FILE_MOST.true in
    let ends = subst (λ n. EndsAt (f r.name) n c.see_end.result) c.if-at-eq-FILE_MOST.true (c.see_end.ensures.bytes f told) in
    subst (λ x. OnOk x (Stands (f r.name) c.see_end.new.self)) ok (end_stands (f r.name) r c.see_end.new.self c.see_end.result all c.see_end.ensures.reader ends s))

pub returns-clause-lines : goal.returns-clause-lines
returns-clause-lines g c = λ f told s.
    let r = c.args.self.now in
    let at = c.end_place-at.ensures in
    let grew = subst (λ n. GrewIn (f r.name) n r c.read_on.new.self c.read_on.result) at.place (c.read_on.ensures.bytes f told) in
    piece_lines (f r.name) _ r c.read_on.new.self c.read_on.result (at.sound.dry c.requires.wants) at.sound c.read_on.ensures.reader grew s

pub returns-clause-stands : goal.returns-clause-stands
returns-clause-stands g c = on_ok c.read_on.result _ (λ ok f told s.
    let r = c.args.self.now in
    let grew = subst (λ n. GrewIn (f r.name) n r c.read_on.new.self c.read_on.result) c.end_place-at.ensures.place (c.read_on.ensures.bytes f told) in
    subst (λ x. OnOk x (Stands (f r.name) c.read_on.new.self)) ok (piece_stands (f r.name) _ r c.read_on.new.self c.read_on.result c.read_on.ensures.reader grew s))

pub see_end-requires : goal.see_end-requires
see_end-requires g c = record { onward = reader_onward c.args.self.now (g.H.Shelf.readings c.args.shelf.now) c.end_place-at.result c.end_place-at.ensures.place c.requires.reading }

pub read_on-requires-clause-onward : goal.read_on-requires-clause-onward
read_on-requires-clause-onward g c = reader_onward c.args.self.now (g.H.Shelf.readings c.args.shelf.now) c.end_place-at.result c.end_place-at.ensures.place c.requires.reading

pub returns-then-at-eq-FILE_MOST-clause-once : goal.returns-then-at-eq-FILE_MOST-clause-once
returns-then-at-eq-FILE_MOST-clause-once g c =
    let at = c.end_place-at.ensures in
    further_once c.args.self.now c.see_end.new.self (g.H.Shelf.readings c.args.shelf.now) (g.H.Shelf.readings c.see_end.new.shelf) c.end_place-at.result c.see_end.result
    at.place (at.sound.dry c.requires.wants).unended c.see_end.ensures.read

pub returns-then-at-eq-FILE_MOST-clause-reading : goal.returns-then-at-eq-FILE_MOST-clause-reading
returns-then-at-eq-FILE_MOST-clause-reading g c =
    let at = c.end_place-at.ensures in
    further_reading c.args.self.now c.see_end.new.self (g.H.Shelf.readings c.args.shelf.now) (g.H.Shelf.readings c.see_end.new.shelf) c.end_place-at.result c.see_end.result
    at.place (at.sound.dry c.requires.wants).unended c.see_end.ensures.read (sees_end_at c.args.self.now c.see_end.new.self c.see_end.result c.see_end.ensures.reader)

pub returns-then-at-eq-FILE_MOST-clause-line : goal.returns-then-at-eq-FILE_MOST-clause-line
returns-then-at-eq-FILE_MOST-clause-line g c = sees_tells c.args.self.now c.see_end.new.self c.see_end.result c.see_end.ensures.reader

pub returns-clause-once : goal.returns-clause-once
returns-clause-once g c =
    let at = c.end_place-at.ensures in
    further_once c.args.self.now c.read_on.new.self (g.H.Shelf.readings c.args.shelf.now) (g.H.Shelf.readings c.read_on.new.shelf) c.end_place-at.result c.read_on.result
    at.place (at.sound.dry c.requires.wants).unended c.read_on.ensures.read

pub returns-clause-reading : goal.returns-clause-reading
returns-clause-reading g c =
    let at = c.end_place-at.ensures in
    further_reading c.args.self.now c.read_on.new.self (g.H.Shelf.readings c.args.shelf.now) (g.H.Shelf.readings c.read_on.new.shelf) c.end_place-at.result c.read_on.result
    at.place (at.sound.dry c.requires.wants).unended c.read_on.ensures.read (grew_at _ c.args.self.now c.read_on.new.self c.read_on.result c.read_on.ensures.reader)

pub returns-clause-line : goal.returns-clause-line
returns-clause-line g c = grew_tells _ c.args.self.now c.read_on.new.self c.read_on.result c.read_on.ensures.reader
