use Rattle.std.proofs.Common.{sym, ap, ◌∙◌}
use Rattle.wf_run.specs.Runs.{RunSeen}
use Rattle.cmd_ingest.specs.declared.label_lines.Labelling.{Labelling}
use Rattle.cmd_ingest.proofs.HeadFirst.{ingests_same}
use Rattle.cmd_ingest.proofs.Labelling.{labelled_at_start}
use Rattle.cmd_ingest.proofs.label_lines.label_events.Goals as goal

pub label_lines-requires : goal.label_lines-requires
label_lines-requires g c =
    let first = c.new-reporting.result in
    let is = ap (λ (l : Labelling). l.labeller) c.new-reporting.ensures.run ∙ c.new.ensures in
    record {
      none = labelled_at_start first.run.labeller.grammar first.inbox.kept first.reported c.with_key-run.result first.run.labeller c.new-reporting.ensures.kept c.new-reporting.ensures.reported
          is c.with_key-run.ensures.run (ap (λ (r : RunSeen). r.grammar) (sym is)) c.with_key-run.ensures.most;
    }

pub returns : goal.returns
returns g c =
    let is = ap (λ (l : Labelling). l.labeller) c.new-reporting.ensures.run ∙ c.new.ensures in
    record { obeys = ingests_same _ _ _ _ _ _ _ _ (ap (λ (r : RunSeen). r.grammar) is ∙ (c.with_key-run.ensures.grammar ∙ c.linear.ensures.grammar)) c.label_lines.ensures.obeys }
