use Rattle.std.proofs.Common.{ap, is_some}
use Rattle.wf_model.proofs.Options.{match_none}
use Rattle.wf_check.proofs.Loops.{no_loop}
use Rattle.wf_check.proofs.check.proper.Goals as goal

pub returns-clause-proper : goal.returns-clause-proper
returns-clause-proper c = (
  record {
    reached = match_none c.in_ok-module.field-0 _ _ c.in_ok-module.ensures (ap is_some c.in_default.is);
    ranked = match_none c.in_ok-module-2.field-0 _ _ c.in_ok-module-2.ensures (ap is_some c.in_default-2.is);
    no_unit_loop = no_loop c.args.g.now.core (match_none c.in_ok-productions.field-0 _ _ c.in_ok-productions.ensures (ap is_some c.in_default-3.is));
  },
  c.in_ok-ranking.ensures,
)
