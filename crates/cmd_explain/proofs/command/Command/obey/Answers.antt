use Rattle.cmd_explain.proofs.Commanded.{done_as}
use Rattle.cmd_explain.specs.declared.command.Command.TheVariants.{Lineage, Impact, Explain, Verify}
use Rattle.cmd_explain.proofs.command.Command.obey.Goals as goal

pub returns-in-Lineage : goal.returns-in-Lineage
returns-in-Lineage g c = record { obeys = done_as (Lineage c.in-Lineage.words) _ _ _ _ _ _ c.in-Lineage.is c.list_items.ensures.obeys }

pub returns-in-Impact : goal.returns-in-Impact
returns-in-Impact g c = record { obeys = done_as (Impact c.in-Impact.words) _ _ _ _ _ _ c.in-Impact.is c.list_items-in-Impact.ensures.obeys }

pub returns-in-Explain : goal.returns-in-Explain
returns-in-Explain g c = record { obeys = done_as (Explain c.in-Explain.words) _ _ _ _ _ _ c.in-Explain.is c.explain.ensures.obeys }

pub returns-in-Verify : goal.returns-in-Verify
returns-in-Verify g c = record { obeys = done_as (Verify c.in-Verify.words) _ _ _ _ _ _ c.in-Verify.is c.verify.ensures.obeys }
