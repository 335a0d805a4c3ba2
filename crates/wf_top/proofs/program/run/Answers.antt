use Rattle.std.proofs.Common.{sym, ap, ◌∙◌}
use Rattle.wf_message.specs.declared.status.Status.TheVariants.{Done, Usage, Refused, ReadFault, WriteFault, NoMemory}
use Rattle.wf_message.specs.Endings.{end_by, status_of}
use Rattle.wf_top.proofs.Obeyed.{counts_at, told_no_less, usage_told, wanting_told}
use Rattle.wf_top.proofs.program.run.Goals as goal

pub returns : goal.returns
returns g c =
    let done = c.perform-ending.ensures in
    let is = c.status_of.ensures in
    let at = counts_at (g.H.Shelf.faults c.args.shelf.now) (g.H.Shelf.faults c.perform-ending.new.shelf) (g.H.Shelf.at_last c.perform-ending.new.shelf) (g.O.Sink.faults c.args.out.now) (g.O.Sink.faults c.perform-ending.new.out) (g.O.Sink.at_last c.perform-ending.new.out) (status_of (end_by c.perform-ending.result)) done.counts in
    record {
      ended = record { ending = end_by c.perform-ending.result; status_is = is; line = c.tell.ensures; outcome = done.outcome };
      usage = (λ u. done.usage.0 (usage_told _ (sym is ∙ u)), λ n. is ∙ ap (λ e. status_of (end_by e)) (done.usage.1 n));
      quiet = λ u. let s = at Usage (sym is ∙ u) in (done.quiet (usage_told _ (sym is ∙ u)), s.0, s.1);
      done = λ s. at Done (sym is ∙ s);
      refused = λ s. at Refused (sym is ∙ s);
      read = λ s. at ReadFault (sym is ∙ s);
      write = λ s. at WriteFault (sym is ∙ s);
      wanting = λ s. at NoMemory (sym is ∙ s);
      untouched = λ s puts. (done.untouched (wanting_told _ (sym is ∙ s)) puts, (at NoMemory (sym is ∙ s)).1);
      in_turn = done.in_turn;
      same = done.same;
      later = done.later;
      put_later = done.put_later;
      told_later = told_no_less _ _ _ _ _ _ c.tell.ensures;
    }
