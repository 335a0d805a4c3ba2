use Rattle.std.proofs.Common.{rules, [], ◌∙◌, ap}
use Rattle.wf_model.specs.Grammar.{Production, production_at}
use Rattle.wf_model.specs.Meaning.{position_of}
use Rattle.wf_json.specs.Canonical.{position_at, position_text}
use Rattle.wf_json.proofs.Joined.{list_taken}
use Rattle.wf_json.proofs.Seen.{length-seen}
use Rattle.wf_json.proofs.writing.body.put_positions.Goals as goal

pub returns : goal.returns
returns g c =
    list_taken _ _ _ (position_text c.args.g.now.core) (production_at c.args.g.now.core c.args.p.0).positions (record { name = []; module_no = 0 }) _ _
    (length-seen position_of _ _ (c.positions-count.ensures ∙ ap (λ (r : Production). r.positions) c.production.ensures.core))
    (c.put_list.ensures (λ k. position_text c.args.g.now.core (position_at (production_at c.args.g.now.core c.args.p.0) k)) (λ v k r w below met. search rules))
