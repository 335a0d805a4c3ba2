use Rattle.std.proofs.Common.{cond, []}
use Rattle.wf_model.specs.Meaning.{pairs_of}
use Rattle.cmd_describe.specs.ViewText.{pair_text}
use Rattle.cmd_describe.proofs.NumberedTexts.{text_more}
use Rattle.cmd_describe.proofs.view_text.add_row.Goals as goal

pub loop-o-preserved : goal.loop-o-preserved
loop-o-preserved c =
    text_more (λ o. cond (pairs_of c.args.v.now.full c.args.m.0 c.args.i.0 o) (pair_text c.args.v.now.accepted.grammar.core c.args.m.0 c.args.i.0 o) []) c.loop-o.o _ _ _ c.loop-o.invariant c.in_ok-add_joined.ensures
