use Rattle.std.proofs.lemmas.Result.{IfErr-weaker}
use Rattle.wf_lines.proofs.Openings.{opened_reading, opened_once}
use Rattle.wf_query.proofs.Opening.{put_of_all, count_of_all}
use Rattle.wf_query.proofs.batching.answer_lines.Goals as goal

pub returns-clause-put : goal.returns-clause-put
returns-clause-put g c f told k knows one = put_of_all _ _ c.in-Ok.ensures (g.A.Answerer.words k) _ _ _ _ f (λ stands. c.answer_left.ensures.put f told stands k knows one)

pub returns-clause-count : goal.returns-clause-count
returns-clause-count g c = count_of_all _ _ c.in-Ok.ensures (g.H.Shelf.files c.args.shelf.now) _ c.answer_left.ensures.count

pub answer_left-requires-clause-reading : goal.answer_left-requires-clause-reading
answer_left-requires-clause-reading g c = opened_reading _ _ c.in-Ok.ensures _

pub returns-clause-once : goal.returns-clause-once
returns-clause-once g c = opened_once _ _ c.in-Ok.ensures _ _ c.answer_left.ensures.once

pub returns-clause-untouched : goal.returns-clause-untouched
returns-clause-untouched g c none = IfErr-weaker c.answer_left.result _ _ (λ fault told wants. absurd (none (told wants))) c.answer_left.ensures.memory
