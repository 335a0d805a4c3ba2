use Rattle.std.proofs.Common.{◌∙◌, ap, ap₂, length}
use Rattle.std.proofs.lemmas.Result.{on_ok_weaker}
use Rattle.wf_spec.specs.Held.{HeldProduction}
use Rattle.wf_json.specs.Writing.{first_members}
use Rattle.wf_json.proofs.FirstTexts.{first_members-all}
use Rattle.wf_json.proofs.Seen.{length-seen}
use Rattle.wf_json.proofs.Taken.{renamed}
use Rattle.wf_json.proofs.writing.put_members.Goals as goal

pub returns : goal.returns
returns g c =
    let core = c.args.g.now.core in
    let all = ap₂ (first_members core) (ap length c.modules.ensures.modules) (length-seen (λ (p : HeldProduction). p.core) _ _ c.productions.ensures.productions) ∙ first_members-all core in
    on_ok_weaker c.put_first_members.result (renamed all) c.put_first_members.ensures
