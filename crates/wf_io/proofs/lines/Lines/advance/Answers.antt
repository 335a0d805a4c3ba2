use Rattle.std.proofs.Common.{◌≤◌, rules, arith, ◌∙◌}
use Rattle.wf_io.proofs.Onward.{reading_once, once_after}
use Rattle.wf_io.proofs.lines.Lines.advance.Goals as goal

pub returns-in_err-seek-clause-once : goal.returns-in_err-seek-clause-once
returns-in_err-seek-clause-once g c =
    let l = c.loop-self in
    let now = g.H.Shelf.readings l.shelf in
    once_after c.args.self.now l.self (g.H.Shelf.readings c.args.shelf.now) now now l.invariant.name l.invariant.reading (reading_once l.self now)

pub returns-then-branch-clause-reading : goal.returns-then-branch-clause-reading
returns-then-branch-clause-reading g c = λ opened read. c.seek.ensures.reading (g.H.Shelf.readings c.loop-self.shelf) opened (c.loop-self.invariant.reading opened read)

pub returns-then-branch-clause-once : goal.returns-then-branch-clause-once
returns-then-branch-clause-once g c =
    let l = c.loop-self in
    let now = g.H.Shelf.readings l.shelf in
    once_after c.args.self.now l.self (g.H.Shelf.readings c.args.shelf.now) now now l.invariant.name l.invariant.reading (reading_once l.self now)

pub returns-then-not-wants-clause-reading : goal.returns-then-not-wants-clause-reading
returns-then-not-wants-clause-reading g c = λ opened read. c.seek.ensures.reading (g.H.Shelf.readings c.loop-self.shelf) opened (c.loop-self.invariant.reading opened read)

pub returns-then-not-wants-clause-once : goal.returns-then-not-wants-clause-once
returns-then-not-wants-clause-once g c =
    let l = c.loop-self in
    let now = g.H.Shelf.readings l.shelf in
    once_after c.args.self.now l.self (g.H.Shelf.readings c.args.shelf.now) now now l.invariant.name l.invariant.reading (reading_once l.self now)

pub fill-requires-clause-reading : goal.fill-requires-clause-reading
fill-requires-clause-reading g c =
    let h = c.requires.reading in
    (h.0, c.seek.ensures.reading (g.H.Shelf.readings c.loop-self.shelf) h.0 (c.loop-self.invariant.reading h.0 h.1))

pub loop-self-preserved : goal.loop-self-preserved
loop-self-preserved g c =
    let l = c.loop-self in
    let f = c.in_ok-fill.ensures in
    record {
      stands = (search rules);
      left = (search rules);
      name = (search rules);
      live = (search rules);
      less = (search rules);
      number = (search rules);
      line = (search rules);
      reading = λ opened read. f.reading opened (c.seek.ensures.reading (g.H.Shelf.readings l.shelf) opened (l.invariant.reading opened read));
      files = (search rules);
      faults = (search rules);
    }

pub returns-in_err-fill-clause-once : goal.returns-in_err-fill-clause-once
returns-in_err-fill-clause-once g c =
    let l = c.loop-self in
    let s = c.seek in
    once_after c.args.self.now s.new.self (g.H.Shelf.readings c.args.shelf.now) (g.H.Shelf.readings l.shelf) (g.H.Shelf.readings c.fill.new.shelf) (s.ensures.name ∙ l.invariant.name)
    (λ opened read. s.ensures.reading (g.H.Shelf.readings l.shelf) opened (l.invariant.reading opened read)) c.in_err-fill.ensures.once
