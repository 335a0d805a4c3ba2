use Rattle.std.proofs.Common.{◌∙◌, ap, sym, cond, [], get_or, false}
use Rattle.wf_model.specs.Meaning.{pairs_of}
use Rattle.wf_view.specs.Held.{HeldView}
use Rattle.wf_stage.proofs.Ends.{begins_nothing}
use Rattle.wf_stage.proofs.Writing.{writes_wanting, writes_nothing, writes_text}
use Rattle.cmd_describe.specs.ViewText.{module_line}
use Rattle.cmd_describe.proofs.ViewLines.{line_made}
use Rattle.cmd_describe.proofs.view.put_module.Goals as goal

pub returns-then-not-seen : goal.returns-then-not-seen
returns-then-not-seen g c = record {
  writes =
      let flag = c.seen.ensures ∙ ap (λ (v : HeldView). get_or v.seen c.args.m.0 false) c.view.ensures.view in
      writes_nothing _ (ap (λ b. cond b (module_line c.args.v.now.accepted.grammar.core c.args.v.now.view.core (pairs_of c.args.v.now.full) c.args.m.0) []) (sym flag ∙ c.if-not-seen.true)) _;
}

pub returns-in_default : goal.returns-in_default
returns-in_default g c = record {
  writes =
      writes_wanting [] _ (begins_nothing _) _;
}

pub returns : goal.returns
returns g c = record {
  writes =
      let flag = c.seen.ensures ∙ ap (λ (v : HeldView). get_or v.seen c.args.m.0 false) c.view.ensures.view in
      writes_text _ _
      (line_made (module_line c.args.v.now.accepted.grammar.core c.args.v.now.view.core (pairs_of c.args.v.now.full) c.args.m.0) _ _ c.deref.result.now _
      (sym flag ∙ c.if-not-seen.false) c.clear.ensures.items c.in-Ok.ensures c.deref.ensures.value) _ _ _ c.put_text.ensures.writes;
}
