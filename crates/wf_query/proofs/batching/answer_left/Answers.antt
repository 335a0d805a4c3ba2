use Rattle.std.proofs.Common.{◌≡◌, ℕ, List, Option, refl, sym, ap, ◌∙◌, subst, rules}
use Rattle.wf_io.specs.Lines.{FileLines}
use Rattle.wf_lines.specs.declared.fault.LinesFault.{LinesFault}
use Rattle.wf_lines.specs.Taking.{IsWritingFault, end_at}
use Rattle.wf_lines.proofs.Pieces.{begins_at_once}
use Rattle.wf_query.specs.declared.answering.QueryFault.{QueryFault}
use Rattle.wf_query.specs.declared.batching.BatchFault.{BatchFault}
use Rattle.wf_query.specs.declared.batching.BatchFault.TheVariants.{WriteFault}
use Rattle.wf_query.specs.Lines.{ArePut, ended_at, query_ends}
use Rattle.wf_query.specs.Answering.{fault_by, query_end}
use Rattle.wf_query.proofs.AnsweredLines.{queries_one_way, queries_closed_one_way}
use Rattle.wf_query.proofs.Faults.{end_by_fault, written_by_fault}
use Rattle.wf_query.proofs.Lent.{given_back}
use Rattle.wf_query.proofs.PutAnswers.{put_of_taken, put_of_stopped}
use Rattle.wf_query.proofs.batching.answer_left.Goals as goal

-- what was put by the end at which lines were taken was put by the fault that this is
put_by_fault : (Answers : List ℕ → List ℕ → List ℕ → Type 0) (file : FileLines) (f : LinesFault QueryFault) (fault : BatchFault) (old new : Option (List ℕ)) → fault ≡ fault_by f → ArePut Answers file (end_at query_ends query_end f) (IsWritingFault f) old new → ArePut Answers file (ended_at fault) (fault ≡ WriteFault) old new
put_by_fault Answers file f fault old new is put =
    let told : ArePut Answers file (ended_at fault) (IsWritingFault f) old new = subst (λ e. ArePut Answers file e (IsWritingFault f) old new) (end_by_fault f ∙ ap ended_at (sym is)) put in
    record { whole = told.whole; begun = told.begun; some = λ failed. told.some (written_by_fault f (sym is ∙ failed)) }

pub returns-in-Ok-clause-put : goal.returns-in-Ok-clause-put
returns-in-Ok-clause-put g c f told stands k knows one = put_of_taken g.A.Answerer.words k _ _ _ _ one (c.in-Ok.ensures.taken f told stands k knows)

pub returns-in-Err-clause-put : goal.returns-in-Err-clause-put
returns-in-Err-clause-put g c f told stands k knows one =
    let words = g.A.Answerer.words in
    put_by_fault (words k) _ c.in-Err.fault c.fault_of.result _ _ c.fault_of.ensures
    (put_of_stopped words k _ _ _ _ _ (c.in-Err.ensures.stopped f told stands k knows (queries_one_way words) (begins_at_once _ _ _ (queries_one_way words)) (queries_closed_one_way words) one))

-- what is kept of what answers holds of it where the loan is over
pub returns-in-Ok-clause-ready : goal.returns-in-Ok-clause-ready
returns-in-Ok-clause-ready g c k knows =
    let kept = c.take_lines-taken.ensures.known (record { name = _; known = k }) (refl, c.requires.ready, knows) in
    given_back g.A.Answerer.is_ready _ _ _ _ (sym kept.0) (search rules) kept.1

pub returns-in-Ok-clause-known : goal.returns-in-Ok-clause-known
returns-in-Ok-clause-known g c k knows =
    let kept = c.take_lines-taken.ensures.known (record { name = _; known = k }) (refl, c.requires.ready, knows) in
    given_back (λ a. g.A.Answerer.is_known a k) _ _ _ _ (sym kept.0) (search rules) kept.2

pub returns-in-Err-clause-ready : goal.returns-in-Err-clause-ready
returns-in-Err-clause-ready g c k knows =
    let kept = c.take_lines-taken.ensures.known (record { name = _; known = k }) (refl, c.requires.ready, knows) in
    given_back g.A.Answerer.is_ready _ _ _ _ (sym kept.0) (search rules) kept.1

pub returns-in-Err-clause-known : goal.returns-in-Err-clause-known
returns-in-Err-clause-known g c k knows =
    let kept = c.take_lines-taken.ensures.known (record { name = _; known = k }) (refl, c.requires.ready, knows) in
    given_back (λ a. g.A.Answerer.is_known a k) _ _ _ _ (sym kept.0) (search rules) kept.2
