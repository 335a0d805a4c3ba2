use Rattle.wf_events.proofs.Appended.{expand_written}
use Rattle.wf_events.proofs.write.write_event.Goals as goal

pub returns-in-Expand-clause-ok : goal.returns-in-Expand-clause-ok
returns-in-Expand-clause-ok c =
    expand_written c.append_expand.result c.args.event.now _ _ c.in-Expand.instance c.bytes-in-Expand.result.now c.in-Expand.production c.in-Expand.names c.items.result.now
    c.in-Expand.is c.bytes-in-Expand.ensures c.items.ensures c.append_expand.ensures.ok
