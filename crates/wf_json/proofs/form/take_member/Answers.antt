use Rattle.std.proofs.Common.{◌∙◌, option_map, sym, ap}
use Rattle.std.specs.Prelude.{option_and_then}
use Rattle.serde_json.specs.Find.{get, get_member}
use Rattle.serde_json.specs.View.{view, members_view}
use Rattle.serde_json.proofs.Views.{view-Object, view-lookup}
use Rattle.wf_json.proofs.Others.{get_by_members, others_kept}
use Rattle.wf_json.proofs.form.take_member.Goals as goal

pub returns-in-Some-clause-taken : goal.returns-in-Some-clause-taken
returns-in-Some-clause-taken c =
    let key = c.args.key.now in
    ap (option_map view) c.remove.ensures.value ∙ (view-lookup key c.in-Some.members.now.entries
    ∙ (ap (option_and_then (get_member key)) c.in-Some.ensures.value ∙ sym (get_by_members key (view c.args.value.now))))

pub returns-in-Some-clause-others : goal.returns-in-Some-clause-others
returns-in-Some-clause-others c = λ k other.
    ap (get k) (view-Object c.remove.new.self) ∙ (ap (λ es. get_member k (members_view es)) c.remove.ensures.entries ∙ (others_kept k c.args.key.now c.in-Some.members.now.entries other
    ∙ (ap (option_and_then (get_member k)) c.in-Some.ensures.value ∙ sym (get_by_members k (view c.args.value.now)))))
