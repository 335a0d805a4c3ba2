use Rattle.std.proofs.Common.{◌∙◌, ap}
use Rattle.wf_spec.specs.Held.{HeldGrammar}
use Rattle.wf_gen.specs.Coming.{Coming}
use Rattle.wf_stage.proofs.Writing.{writes_text}
use Rattle.cmd_make.specs.EventLines.{event_lines}
use Rattle.cmd_make.specs.Does.{generated_text}
use Rattle.cmd_make.proofs.generate.put_generated.Goals as goal

pub returns : goal.returns
returns g c = record {
  writes = writes_text _ _
      (ap (λ (e : Coming). event_lines e.events) c.new-events.ensures ∙ ap (λ (h : HeldGrammar). generated_text h.core c.args.words.now.n c.args.words.now.seed) c.linear.ensures.grammar)
      _ _ _ c.put_events.ensures.writes;
}
