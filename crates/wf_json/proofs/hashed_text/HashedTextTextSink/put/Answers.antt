use Rattle.std.proofs.Common.{refl}
use Rattle.wf_json.proofs.Hashed.{piece_gathered}
use Rattle.wf_json.proofs.hashed_text.HashedTextTextSink.put.Goals as goal

pub returns : goal.returns
returns c =
    let room = c.make_room.new.self in
    piece_gathered _ _ room (record { state = room.state; gathered = c.extend_from_slice.new.self }) _ c.make_room.ensures refl c.extend_from_slice.ensures.items
