use Rattle.wf_model.specs.Composite.{is_composite}
use Rattle.cmd_describe.specs.CheckText.{check_line}
use Rattle.cmd_describe.proofs.CompositeLines.{appended_more}
use Rattle.cmd_describe.proofs.check_text.add_lines.Goals as goal

pub loop-k-preserved : goal.loop-k-preserved
loop-k-preserved c = appended_more (check_line c.args.spec.now.grammar.core c.args.spec.now.ranking c.args.spec.now.cycles) (is_composite c.args.spec.now.grammar.core) c.loop-k.k _ _ _ c.loop-k.invariant c.in_ok-add_module.ensures
