use Rattle.std.proofs.Common.{◌∙◌, arith}
use Rattle.wf_lines.proofs.Dues.{due_empty, begun_at}
use Rattle.wf_io.proofs.Onward.{once_after, reading_once}
use Rattle.wf_lines.proofs.Seekings.{stands_as, leaves_as, sought_none, none_lent}
use Rattle.wf_lines.proofs.next.next_line.Goals as goal

pub returns-then-not-wants-clause-due : goal.returns-then-not-wants-clause-due
returns-then-not-wants-clause-due g c = due_empty _ _ _ _ _ _ c.loop-fault.invariant.due c.in_default.ensures.put c.in_default.ensures.none

pub loop-fault-preserved : goal.loop-fault-preserved
loop-fault-preserved g c =
    let i = c.loop-fault.invariant in
    let name = c.seek.ensures.name ∙ i.name in
    record {
      stands = λ f told st. stands_as f _ _ name c.seek.new.self c.fill.new.self (c.in_default-fill.ensures.stands f (i.files ∙ told)) (c.in-Ok-false.ensures.stands (f c.args.lines.now.name) (i.stands f told st));
      left = λ f told st.
          let here = i.stands f told st in
          leaves_as f _ _ name c.seek.new.self c.fill.new.self (c.in_default-fill.ensures.lines f (i.files ∙ told)) (c.in-Ok-false.ensures.stands (f c.args.lines.now.name) here)
          ∙ (sought_none _ _ _ _ c.in-Ok-false.field-0-test (c.in-Ok-false.ensures.lines (f c.args.lines.now.name) here) ∙ i.left f told st);
      name = c.fill.ensures.name ∙ name;
      reading = λ opened read. c.in_default-fill.ensures.reading opened (c.seek.ensures.reading (g.H.Shelf.readings c.loop-fault.shelf) opened (i.reading opened read));
      live = c.in_default-fill.ensures.live;
      line = c.in_default-fill.ensures.line.1 ∙ (none_lent c.in-Ok-false.field-0 c.loop-fault.lines c.seek.new.self c.in-Ok-false.field-0-test c.in-Ok-false.ensures.line ∙ i.line);
      less = let a = c.in_default-fill.ensures.less in let b = c.seek.ensures.no_more in let d = i.less in omega arith;
      due = due_empty _ _ _ _ _ _ i.due c.in_default.ensures.put c.in_default.ensures.none;
      files = c.fill.ensures.same ∙ i.files;
      faults = c.in_default-fill.ensures.ok ∙ i.faults;
      put_faults = c.in_default.ensures.same ∙ i.put_faults;
    }

pub returns-in-Err-put_due-clause-put : goal.returns-in-Err-put_due-clause-put
returns-in-Err-put_due-clause-put g c = begun_at _ _ _ _ _ _ c.in-Err-put_due.ensures.halt c.loop-fault.invariant.due c.in-Err-put_due.ensures.begun

pub returns-in-Err-put_due-2-clause-put : goal.returns-in-Err-put_due-2-clause-put
returns-in-Err-put_due-2-clause-put g c = begun_at _ _ _ _ _ _ c.in-Err-put_due-2.ensures.halt c.loop-fault.invariant.due c.in-Err-put_due-2.ensures.begun

pub fill-requires-clause-reading : goal.fill-requires-clause-reading
fill-requires-clause-reading g c =
    let h = c.requires.reading in
    (h.0, c.seek.ensures.reading (g.H.Shelf.readings c.loop-fault.shelf) h.0 (c.loop-fault.invariant.reading h.0 h.1))

pub returns-in-Err-fill-clause-once : goal.returns-in-Err-fill-clause-once
returns-in-Err-fill-clause-once g c =
    let l = c.loop-fault in
    let now = g.H.Shelf.readings l.shelf in
    once_after c.args.lines.now c.seek.new.self (g.H.Shelf.readings c.args.shelf.now) now (g.H.Shelf.readings c.fill.new.shelf) (c.seek.ensures.name ∙ l.invariant.name)
    (λ opened read. c.seek.ensures.reading now opened (l.invariant.reading opened read)) c.in-Err-fill.ensures.once

pub returns-in-Ok-true-clause-reading : goal.returns-in-Ok-true-clause-reading
returns-in-Ok-true-clause-reading g c = λ opened read. c.seek.ensures.reading (g.H.Shelf.readings c.loop-fault.shelf) opened (c.loop-fault.invariant.reading opened read)

pub returns-then-not-wants-clause-reading : goal.returns-then-not-wants-clause-reading
returns-then-not-wants-clause-reading g c = λ opened read. c.seek.ensures.reading (g.H.Shelf.readings c.loop-fault.shelf) opened (c.loop-fault.invariant.reading opened read)

pub returns-in-Ok-true-clause-once : goal.returns-in-Ok-true-clause-once
returns-in-Ok-true-clause-once g c =
    let l = c.loop-fault in
    let now = g.H.Shelf.readings l.shelf in
    once_after c.args.lines.now l.lines (g.H.Shelf.readings c.args.shelf.now) now now l.invariant.name l.invariant.reading (reading_once l.lines now)

pub returns-in-Ok-clause-once : goal.returns-in-Ok-clause-once
returns-in-Ok-clause-once g c =
    let l = c.loop-fault in
    let now = g.H.Shelf.readings l.shelf in
    once_after c.args.lines.now l.lines (g.H.Shelf.readings c.args.shelf.now) now now l.invariant.name l.invariant.reading (reading_once l.lines now)

pub returns-in-Err-put_due-clause-once : goal.returns-in-Err-put_due-clause-once
returns-in-Err-put_due-clause-once g c =
    let l = c.loop-fault in
    let now = g.H.Shelf.readings l.shelf in
    once_after c.args.lines.now l.lines (g.H.Shelf.readings c.args.shelf.now) now now l.invariant.name l.invariant.reading (reading_once l.lines now)

pub returns-in-Err-put_due-2-clause-once : goal.returns-in-Err-put_due-2-clause-once
returns-in-Err-put_due-2-clause-once g c =
    let l = c.loop-fault in
    let now = g.H.Shelf.readings l.shelf in
    once_after c.args.lines.now l.lines (g.H.Shelf.readings c.args.shelf.now) now now l.invariant.name l.invariant.reading (reading_once l.lines now)

pub returns-then-not-wants-clause-once : goal.returns-then-not-wants-clause-once
returns-then-not-wants-clause-once g c =
    let l = c.loop-fault in
    let now = g.H.Shelf.readings l.shelf in
    once_after c.args.lines.now l.lines (g.H.Shelf.readings c.args.shelf.now) now now l.invariant.name l.invariant.reading (reading_once l.lines now)
