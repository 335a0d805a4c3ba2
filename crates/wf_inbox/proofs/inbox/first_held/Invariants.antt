use Rattle.report_model.specs.Kept.{NoneHeldBefore}
use Rattle.wf_inbox.proofs.inbox.first_held.Given as goal

abbrev pub invariant-loop-report : goal.invariant-loop-report
invariant-loop-report l = NoneHeldBefore l.kept l.report-index
