use Rattle.std.proofs.Common.{ℕ, List, sym, ◌∙◌, subst, arith}
use Rattle.wf_io.specs.Readers.{Stands, Advances, left_in}
use Rattle.wf_io.proofs.Onward.{once_after}
use Rattle.wf_lines.specs.BegunLines.{begun_line}
use Rattle.wf_lines.specs.Taking.{Halts, IsStoppedBy}
use Rattle.wf_lines.proofs.Seekings.{advanced_lends, advanced_ends, stands_as}
use Rattle.wf_lines.proofs.SoFar.{one_more, later_due, lent_length, all_counted}
use Rattle.wf_lines.proofs.Stoppings.{halt_stops, line_stops, end_stops, end_taken}
use Rattle.wf_lines.proofs.Causes.{writing_caused}
use Rattle.wf_lines.proofs.lines.take_lines.Goals as goal

pub returns-in-Err-clause-stopped : goal.returns-in-Err-clause-stopped
returns-in-Err-clause-stopped g c = λ f told st s at one begins closed sound.
    let i = c.loop-halt.invariant in
    let halts = subst (λ k. Stands (f k) c.loop-halt.lines → Halts (left_in (f k) c.loop-halt.lines) c.in-Err.halt) i.name (c.in-Err.ensures.lines f (i.files ∙ told)) (i.stands f told st) in
    halt_stops g.T.Taker.ends g.T.Taker.takes g.T.Taker.stops g.T.Taker.finishes g.T.Taker.stops_at_end g.T.Taker.is_sound one closed s sound _ _ _ _ _ _ (i.so_far f told st s at) c.in-Err.halt halts c.in-Err.ensures.put

pub returns-in-Err-take_line-clause-stopped : goal.returns-in-Err-take_line-clause-stopped
returns-in-Err-take_line-clause-stopped g c = λ f told st s at one begins closed sound.
    let i = c.loop-halt.invariant in
    let lends = advanced_lends _ _ _ _ c.in-Ok-true.field-0-test (subst (λ k. Stands (f k) c.loop-halt.lines → Advances c.in-Ok-true.field-0 (left_in (f k) c.loop-halt.lines) c.next_line.new.lines (left_in (f k) c.next_line.new.lines)) i.name (c.in-Ok-true.ensures.lines f (i.files ∙ told)) (i.stands f told st)) in
    let far = later_due g.T.Taker.ends g.T.Taker.takes g.T.Taker.stops s _ _ _ _ _ (i.so_far f told st s at) _ _ c.in-Ok-true.ensures.due in
    let t = g.T.Taker in
    let By : ℕ → List ℕ → Type 0 = λ n x. IsStoppedBy (t.stops far.state n x) (λ piece. t.begins (begun_line far.state n x piece)) t.end_of c.next_line.new.due c.in-Err-take_line.fault (g.O.Sink.put_bytes c.next_line.new.out) (g.O.Sink.put_bytes c.take_line.new.out) in
    let stopped = subst (λ n. By n c.next_line.new.lines.held) c.line-number.ensures (subst (By c.line-number.result) c.held.ensures (c.in-Err-take_line.ensures.stopped far.state (c.look_ahead.ensures.at far.state far.at))) in
    line_stops t.ends t.takes t.stops t.finishes t.stops_at_end t.is_sound one closed s sound _ _ _ _ _ _ far c.next_line.new.lines _ lends t.begins begins t.end_of c.in-Err-take_line.fault stopped

pub returns-in-Err-take_line-clause-cause : goal.returns-in-Err-take_line-clause-cause
returns-in-Err-take_line-clause-cause g c =
    let i = c.loop-halt.invariant in
    writing_caused _ _ _ _ _ _ _ c.in-Err-take_line.fault (c.in-Ok-true.ensures.same ∙ i.faults) (c.in-Ok-true.ensures.put_same ∙ i.put_faults) c.in-Err-take_line.ensures.cause

pub loop-halt-preserved : goal.loop-halt-preserved
loop-halt-preserved g c =
    let i = c.loop-halt.invariant in
    record {
      ready = c.in_default.ensures.ready;
      known = λ k knows. c.take_line.ensures.known k (c.look_ahead.ensures.known k (i.known k knows));
      stands = λ f told st. stands_as f _ _ i.name c.loop-halt.lines c.next_line.new.lines (c.in-Ok-true.ensures.stands f (i.files ∙ told)) (i.stands f told st);
      so_far = λ f told st s at.
          let lends = advanced_lends _ _ _ _ c.in-Ok-true.field-0-test (subst (λ k. Stands (f k) c.loop-halt.lines → Advances c.in-Ok-true.field-0 (left_in (f k) c.loop-halt.lines) c.next_line.new.lines (left_in (f k) c.next_line.new.lines)) i.name (c.in-Ok-true.ensures.lines f (i.files ∙ told)) (i.stands f told st)) in
          let far = later_due g.T.Taker.ends g.T.Taker.takes g.T.Taker.stops s _ _ _ _ _ (i.so_far f told st s at) _ _ c.in-Ok-true.ensures.due in
          let t = c.in_default.ensures.taken far.state (c.look_ahead.ensures.at far.state far.at) in
          one_more g.T.Taker.ends g.T.Taker.takes g.T.Taker.stops s _ _ _ _ _ far c.next_line.new.lines _ lends t.0 t.1 c.take_line.new.due _ (subst (λ n. g.T.Taker.takes far.state n c.next_line.new.lines.held t.0 t.1) c.line-number.ensures (subst (λ x. g.T.Taker.takes far.state c.line-number.result x t.0 t.1) c.held.ensures t.2)) t.3 t.4;
      count = λ f told st.
          let lends = advanced_lends _ _ _ _ c.in-Ok-true.field-0-test (subst (λ k. Stands (f k) c.loop-halt.lines → Advances c.in-Ok-true.field-0 (left_in (f k) c.loop-halt.lines) c.next_line.new.lines (left_in (f k) c.next_line.new.lines)) i.name (c.in-Ok-true.ensures.lines f (i.files ∙ told)) (i.stands f told st)) in
          sym (lent_length _ _ _ c.loop-halt.taken lends) ∙ i.count f told st;
      name = c.next_line.ensures.name ∙ i.name;
      reading = λ opened read. c.in-Ok-true.ensures.reading opened (i.reading opened read);
      live = c.in-Ok-true.ensures.live;
      taken = let a = i.taken in let b = c.in-Ok-true.ensures.later_line c.in-Ok-true.field-0-test in omega (arith, a, b);
      files = c.next_line.ensures.files ∙ i.files;
      faults = c.in-Ok-true.ensures.same ∙ i.faults;
      put_faults = c.in_default.ensures.same ∙ (c.in-Ok-true.ensures.put_same ∙ i.put_faults);
    }

pub returns-in-Err-take_end-clause-stopped : goal.returns-in-Err-take_end-clause-stopped
returns-in-Err-take_end-clause-stopped g c = λ f told st s at one begins closed sound.
    let i = c.loop-halt.invariant in
    let ends = advanced_ends _ _ _ _ c.in-Ok-false.field-0-test (subst (λ k. Stands (f k) c.loop-halt.lines → Advances c.in-Ok-false.field-0 (left_in (f k) c.loop-halt.lines) c.next_line.new.lines (left_in (f k) c.next_line.new.lines)) i.name (c.in-Ok-false.ensures.lines f (i.files ∙ told)) (i.stands f told st)) in
    let far = later_due g.T.Taker.ends g.T.Taker.takes g.T.Taker.stops s _ _ _ _ _ (i.so_far f told st s at) _ _ c.in-Ok-false.ensures.due in
    end_stops g.T.Taker.ends g.T.Taker.takes g.T.Taker.stops g.T.Taker.finishes g.T.Taker.stops_at_end g.T.Taker.is_sound one closed s sound _ _ _ _ _ _ far ends g.T.Taker.end_of c.in-Err-take_end.fault (c.in-Err-take_end.ensures.stopped far.state far.at)

pub returns-in-Err-take_end-clause-cause : goal.returns-in-Err-take_end-clause-cause
returns-in-Err-take_end-clause-cause g c =
    let i = c.loop-halt.invariant in
    writing_caused _ _ _ _ _ _ _ c.in-Err-take_end.fault (c.in-Ok-false.ensures.same ∙ i.faults) (c.in-Ok-false.ensures.put_same ∙ i.put_faults) c.in-Err-take_end.ensures.cause

pub returns-in-Ok-clause-taken : goal.returns-in-Ok-clause-taken
returns-in-Ok-clause-taken g c = λ f told st s at.
    let i = c.loop-halt.invariant in
    let ends = advanced_ends _ _ _ _ c.in-Ok-false.field-0-test (subst (λ k. Stands (f k) c.loop-halt.lines → Advances c.in-Ok-false.field-0 (left_in (f k) c.loop-halt.lines) c.next_line.new.lines (left_in (f k) c.next_line.new.lines)) i.name (c.in-Ok-false.ensures.lines f (i.files ∙ told)) (i.stands f told st)) in
    let far = later_due g.T.Taker.ends g.T.Taker.takes g.T.Taker.stops s _ _ _ _ _ (i.so_far f told st s at) _ _ c.in-Ok-false.ensures.due in
    let t = c.in-Ok.ensures.finished far.state far.at in
    end_taken g.T.Taker.ends g.T.Taker.takes g.T.Taker.stops g.T.Taker.finishes s _ _ _ _ _ _ far ends t.0 t.1 t.2 t.3

pub returns-in-Ok-clause-count : goal.returns-in-Ok-clause-count
returns-in-Ok-clause-count g c = λ f told st.
    let i = c.loop-halt.invariant in
    let ends = advanced_ends _ _ _ _ c.in-Ok-false.field-0-test (subst (λ k. Stands (f k) c.loop-halt.lines → Advances c.in-Ok-false.field-0 (left_in (f k) c.loop-halt.lines) c.next_line.new.lines (left_in (f k) c.next_line.new.lines)) i.name (c.in-Ok-false.ensures.lines f (i.files ∙ told)) (i.stands f told st)) in
    all_counted _ _ c.loop-halt.taken ends (i.count f told st)

pub returns-in-Err-clause-once : goal.returns-in-Err-clause-once
returns-in-Err-clause-once g c =
    let l = c.loop-halt in
    once_after c.args.lines.now l.lines (g.H.Shelf.readings c.args.shelf.now) (g.H.Shelf.readings l.shelf) (g.H.Shelf.readings c.next_line.new.shelf) l.invariant.name l.invariant.reading c.next_line.ensures.once

pub returns-in-Err-take_line-clause-once : goal.returns-in-Err-take_line-clause-once
returns-in-Err-take_line-clause-once g c =
    let l = c.loop-halt in
    once_after c.args.lines.now l.lines (g.H.Shelf.readings c.args.shelf.now) (g.H.Shelf.readings l.shelf) (g.H.Shelf.readings c.next_line.new.shelf) l.invariant.name l.invariant.reading c.next_line.ensures.once

pub returns-in-Ok-clause-once : goal.returns-in-Ok-clause-once
returns-in-Ok-clause-once g c =
    let l = c.loop-halt in
    once_after c.args.lines.now l.lines (g.H.Shelf.readings c.args.shelf.now) (g.H.Shelf.readings l.shelf) (g.H.Shelf.readings c.next_line.new.shelf) l.invariant.name l.invariant.reading c.next_line.ensures.once

pub returns-in-Err-take_end-clause-once : goal.returns-in-Err-take_end-clause-once
returns-in-Err-take_end-clause-once g c =
    let l = c.loop-halt in
    once_after c.args.lines.now l.lines (g.H.Shelf.readings c.args.shelf.now) (g.H.Shelf.readings l.shelf) (g.H.Shelf.readings c.next_line.new.shelf) l.invariant.name l.invariant.reading c.next_line.ensures.once
