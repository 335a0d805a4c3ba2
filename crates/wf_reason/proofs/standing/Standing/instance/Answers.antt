use Rattle.std.proofs.Common.{refl}
use Rattle.wf_reason.proofs.Standings.{not_instance, instance_lead}
use Rattle.wf_reason.proofs.standing.Standing.instance.Goals as goal

pub returns-in-None-clause-stands : goal.returns-in-None-clause-stands
returns-in-None-clause-stands c = λ lines lead.
    not_instance c.args.run.now c.run-run.ensures.safe c.run-run.ensures.table lines c.args.line c.args.item c.args.name.now lead (c.in-None.ensures.none refl)

pub find_consumer-requires : goal.find_consumer-requires
find_consumer-requires c = c.requires.item

pub returns-in-Some-clause-of_run : goal.returns-in-Some-clause-of_run
returns-in-Some-clause-of_run c = c.in-Some.ensures.consumes

pub returns-in-Some-clause-stands : goal.returns-in-Some-clause-stands
returns-in-Some-clause-stands c = λ lines lead. instance_lead c.args.run.now lines c.args.line c.args.item c.in-Some.by c.args.name.now lead c.in-Some.ensures.named

pub returns-in-None-clause-of_run : goal.returns-in-None-clause-of_run
returns-in-None-clause-of_run c = tt
