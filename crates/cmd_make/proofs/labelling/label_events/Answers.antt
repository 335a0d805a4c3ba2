use Rattle.std.proofs.Common.{subst, ◌∙◌}
use Rattle.wf_gen.specs.Coming.{IsNext}
use Rattle.cmd_make.proofs.RunLabelled.{next_extends, one_labelled}
use Rattle.cmd_make.proofs.labelling.label_events.Goals as goal

pub label_event-requires : goal.label_event-requires
label_event-requires c =
    let first = subst (λ o. IsNext c.loop-event.generator o c.next.new.self) c.in-Some.is c.in_ok-event.ensures.next in
    record { extends = next_extends _ _ _ _ _ c.loop-event.invariant.so_far c.in-Some.event c.next.new.self.events first.events c.requires.accepted }

pub loop-event-preserved-in_ok-label_event : goal.loop-event-preserved-in_ok-label_event
loop-event-preserved-in_ok-label_event c =
    let first = subst (λ o. IsNext c.loop-event.generator o c.next.new.self) c.in-Some.is c.in_ok-event.ensures.next in
    let step = c.in_ok-label_event.ensures in record {
      so_far = one_labelled _ _ _ _ _ c.loop-event.invariant.so_far c.in-Some.event c.next.new.self.events c.label_event.new.run first.events step.taken step.labels step.grammar step.most;
      draws = first.draws ∙ c.loop-event.invariant.draws;
    }

pub loop-event-preserved : goal.loop-event-preserved
loop-event-preserved c =
    let first = subst (λ o. IsNext c.loop-event.generator o c.next.new.self) c.in-Some.is c.in_ok-event.ensures.next in
    let step = c.in_ok-label_event.ensures in record {
      so_far = one_labelled _ _ _ _ _ c.loop-event.invariant.so_far c.in-Some.event c.next.new.self.events c.label_event.new.run first.events step.taken step.labels step.grammar step.most;
      draws = first.draws ∙ c.loop-event.invariant.draws;
    }

pub loop-event-preserved-in_ok-label_event-2 : goal.loop-event-preserved-in_ok-label_event-2
loop-event-preserved-in_ok-label_event-2 c =
    let first = subst (λ o. IsNext c.loop-event.generator o c.next.new.self) c.in-Some.is c.in_ok-event.ensures.next in
    let step = c.in_ok-label_event.ensures in record {
      so_far = one_labelled _ _ _ _ _ c.loop-event.invariant.so_far c.in-Some.event c.next.new.self.events c.label_event.new.run first.events step.taken step.labels step.grammar step.most;
      draws = first.draws ∙ c.loop-event.invariant.draws;
    }
