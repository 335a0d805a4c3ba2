use Rattle.std.proofs.Common.{◌∙◌, ◌++◌, flat_map, ap, sym, append-nil}
use Rattle.std.proofs.lemmas.List.{take_all}
use Rattle.wf_gen.specs.Lines.{event_line}
use Rattle.wf_compare.proofs.OneMore.{events_more}
use Rattle.wf_compare.proofs.text.add_events.Goals as goal

pub loop-event-init : goal.loop-event-init
loop-event-init c = sym (append-nil c.args.out.now.items)

pub loop-event-preserved : goal.loop-event-preserved
loop-event-preserved c =
    events_more c.args.run.now c.loop-event.event-index c.event-item.result c.args.out.now.items c.loop-event.out.items c.write_event.new.to.items c.extend_from_slice.new.self.items c.loop-event-test.true c.event-item.is
    c.loop-event.invariant c.in_ok-write_event.ensures.ok c.in_ok-extend_from_slice.ensures.items

pub returns : goal.returns
returns c = c.loop-event.invariant ∙ ap (λ l. c.args.out.now.items ++ flat_map event_line l) (take_all c.loop-event.event-index c.args.run.now c.loop-event-test.false)
