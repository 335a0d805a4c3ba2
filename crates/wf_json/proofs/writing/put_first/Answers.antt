use Rattle.wf_json.proofs.Taken.{behind, last_behind}
use Rattle.wf_json.proofs.writing.put_first.Goals as goal

pub returns : goal.returns
returns g c = last_behind _ _ _ (behind c.in_ok-put.ensures c.in_ok-put_first_members.ensures) c.put-2.ensures
