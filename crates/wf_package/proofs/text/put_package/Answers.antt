use Rattle.std.proofs.Common.{codes, map}
use Rattle.std.specs.List.{join_by}
use Rattle.wf_json.specs.Canonical.{members_of}
use Rattle.wf_package.specs.PackageText.{given_text, loop_text}
use Rattle.wf_package.specs.Parts.{loop_entry_of}
use Rattle.std.proofs.lemmas.Result.{on_ok_weaker}
use Rattle.wf_json.proofs.Taken.{behind, renamed}
use Rattle.wf_package.proofs.PutTexts.{package_pieces}
use Rattle.wf_package.proofs.text.put_package.Goals as goal

pub returns : goal.returns
returns g c =
    let s0 = behind c.in_ok-put.ensures c.in_ok-put_members.ensures in
    let s1 = behind (behind s0 c.in_ok-put-2.ensures) c.in_ok-put_given.ensures in
    let s2 = behind (behind s1 c.in_ok-put-3.ensures) c.in_ok-put_loops.ensures in
    on_ok_weaker c.put-4.result (λ last. renamed (package_pieces (members_of c.args.g.now.core) (join_by given_text (codes ",") c.args.given.now) (join_by loop_text (codes ",") (map loop_entry_of c.args.loops.now))) (behind s2 last)) c.put-4.ensures
