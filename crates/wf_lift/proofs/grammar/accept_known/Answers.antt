use Rattle.wf_lift.proofs.LiftedAccepted.{only_memory}
use Rattle.wf_lift.proofs.grammar.accept_known.Goals as goal

pub want_of_memory-requires : goal.want_of_memory-requires
want_of_memory-requires c = only_memory c.args.grammar c.in-Err.refused.fault c.requires.proper c.requires.linear c.requires.versions c.in-Err.ensures.refused.1
