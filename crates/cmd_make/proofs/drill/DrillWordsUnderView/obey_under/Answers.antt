use Rattle.wf_stage.proofs.Obeying.{obeys_writing}
use Rattle.cmd_make.proofs.Drilled.{drill_written}
use Rattle.cmd_make.proofs.drill.DrillWordsUnderView.obey_under.Goals as goal

pub returns-clause-obeys : goal.returns-clause-obeys
returns-clause-obeys g c =
    let w = c.args.self.now in
    obeys_writing _ _ _ _ _ _ (drill_written c.args.v.now.accepted.grammar.core c.args.v.now.view.core w.n w.seed c.in-Ok.text.items c.deref.result.now c.in-Ok.ensures c.deref.ensures.value _ _ _ c.put_text.ensures.writes)
