use Rattle.std.proofs.Common.{[], ◌∙◌}
use Rattle.wf_stage.specs.Ends.{IsWritten}
use Rattle.wf_stage.proofs.Ends.{begins_nothing}
use Rattle.wf_stage.proofs.Writing.{writes_wanting, writes_alike}
use Rattle.cmd_describe.specs.Does.{IsChecked}
use Rattle.cmd_describe.proofs.OneText.{this_text, text_told}
use Rattle.cmd_describe.proofs.check.put_grammar.Goals as goal

pub returns-in_default : goal.returns-in_default
returns-in_default g c = record {
  writes =
      writes_wanting [] _ (begins_nothing _) _;
}

pub returns : goal.returns
returns g c = record {
  writes =
      let s = c.args.spec.now in
      let t = c.grammar-taken.ensures.accepted in
      let is = c.deref.ensures.value ∙ c.in-Ok.ensures in
      writes_alike [] (IsWritten c.deref.result.now) (IsChecked s.grammar.core)
      (text_told s.grammar.core t.linear s.ranking s.cycles c.deref.result.now t.ranked t.cycled is)
      (this_text s.grammar.core t.linear s.ranking s.cycles c.deref.result.now t.ranked t.cycled is) _ _ _ c.put_text.ensures.writes;
}
