use Rattle.outcome_laws.proofs.AskIsTrace
use Rattle.outcome_laws.proofs.law.ask_is_trace_law.Goals as goal

pub returns : goal.returns
returns c = AskIsTrace.ask_is_trace_law
