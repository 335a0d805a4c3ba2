use Rattle.wf_json.proofs.Hashed.{all_hashed}
use Rattle.wf_json.proofs.hashed_text.HashedText.make_room.Goals as goal

pub returns-then-capacity-len : goal.returns-then-capacity-len
returns-then-capacity-len c = λ text h. all_hashed c.hand_on.new.self text (c.hand_on.ensures.hashed text h) c.hand_on.ensures.empty
