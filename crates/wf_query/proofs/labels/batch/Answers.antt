use Rattle.wf_query.specs.Answers.{IsAnswerText}
use Rattle.wf_lines.proofs.Openings.{opened_reading, opened_once}
use Rattle.wf_query.proofs.Opening.{put_of_all, count_of_all}
use Rattle.wf_query.proofs.labels.batch.Goals as goal

pub returns-clause-put : goal.returns-clause-put
returns-clause-put g c f told u entries of held =
    put_of_all _ _ c.in-Ok.ensures (IsAnswerText c.args.vl.now.grammar u entries) _ _ _ _ f (λ stands. c.batch_counted.ensures.put f told stands u entries of held)

pub returns-clause-count : goal.returns-clause-count
returns-clause-count g c = count_of_all _ _ c.in-Ok.ensures (g.H.Shelf.files c.args.shelf.now) _ c.batch_counted.ensures.count

pub batch_counted-requires-clause-reading : goal.batch_counted-requires-clause-reading
batch_counted-requires-clause-reading g c = opened_reading _ _ c.in-Ok.ensures _

pub returns-clause-once : goal.returns-clause-once
returns-clause-once g c = opened_once _ _ c.in-Ok.ensures _ _ c.batch_counted.ensures.once
