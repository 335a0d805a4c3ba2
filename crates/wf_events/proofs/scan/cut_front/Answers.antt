use Rattle.wf_events.proofs.Cuts.{front_whole}
use Rattle.wf_events.proofs.scan.cut_front.Goals as goal

pub returns-clause-whole : goal.returns-clause-whole
returns-clause-whole c =
    front_whole c.args.bytes.now c.in_ok-instance.instance.now c.in_ok-instance.number.now c.in_ok-behind.field-0.now c.in_ok-production.names.now c.in_ok-rest.rest.now c.in_ok-production.production
    c.in_ok-instance.ensures.whole c.in_ok-behind.ensures c.in_ok-production.ensures.whole c.in_ok-rest.ensures
