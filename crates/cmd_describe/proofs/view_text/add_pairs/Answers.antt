use Rattle.wf_model.specs.Meaning.{pairs_of}
use Rattle.cmd_describe.specs.ViewText.{row_text}
use Rattle.cmd_describe.proofs.NumberedTexts.{text_more}
use Rattle.cmd_describe.proofs.view_text.add_pairs.Goals as goal

pub loop-i-preserved : goal.loop-i-preserved
loop-i-preserved c =
    text_more (row_text c.args.v.now.accepted.grammar.core (pairs_of c.args.v.now.full) c.args.m.0) c.loop-i.i _ _ _ c.loop-i.invariant c.in_ok-add_row.ensures
