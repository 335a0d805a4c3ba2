use Rattle.std.proofs.Common.{◌++◌, ◌∙◌}
use Rattle.wf_lines.specs.BegunLines.{begun_line}
use Rattle.wf_lines.proofs.Pieces.{due_further, stopped_further}
use Rattle.wf_lines.proofs.lines.take_line.Goals as goal

pub loop-fault-preserved : goal.loop-fault-preserved
loop-fault-preserved g c =
    let i = c.loop-fault.invariant in
    record {
      ready = c.in-Ok-true.ensures.ready;
      known = λ k knows. c.go_on.ensures.known k (i.known k knows);
      within = λ s at.
          let far = i.within s at in
          let next = c.in-Ok-true.ensures.within c.in-Ok-true.field-0-test (begun_line s c.args.number c.args.text.now far.0) far.1 in
          (far.0 ++ next.0, next.1, due_further _ far.0 _ _ _ far.2 next.0 _ _ next.2);
      put_faults = c.in-Ok-true.ensures.same ∙ i.put_faults;
    }

pub returns-in-Ok-false-clause-taken : goal.returns-in-Ok-false-clause-taken
returns-in-Ok-false-clause-taken g c = λ s at.
    let i = c.loop-fault.invariant in
    let far = i.within s at in
    let last = c.in-Ok-false.ensures.taken c.in-Ok-false.field-0-test (begun_line s c.args.number c.args.text.now far.0) far.1 in
    (last.0, far.0 ++ last.1, last.2, last.3, due_further _ far.0 _ _ _ far.2 last.1 _ _ last.4)

pub returns-in-Err-go_on-clause-stopped : goal.returns-in-Err-go_on-clause-stopped
returns-in-Err-go_on-clause-stopped g c = λ s at.
    let t = g.T.Taker in
    let i = c.loop-fault.invariant in
    let far = i.within s at in
    stopped_further _ far.0 _ _ _ far.2 (t.stops s c.args.number c.args.text.now) (λ piece. t.begins (begun_line s c.args.number c.args.text.now piece)) t.end_of _ _
    (c.in-Err-go_on.ensures.stopped (begun_line s c.args.number c.args.text.now far.0) far.1)
