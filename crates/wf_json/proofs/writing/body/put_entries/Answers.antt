use Rattle.std.proofs.Common.{rules, [], ◌∙◌, ap}
use Rattle.wf_model.specs.Grammar.{Production, production_at}
use Rattle.wf_model.specs.Meaning.{inner_of}
use Rattle.wf_json.specs.Canonical.{entry_text, entries_of}
use Rattle.wf_json.specs.Writing.{entry_at, first_port}
use Rattle.wf_json.proofs.Joined.{list_taken}
use Rattle.wf_json.proofs.Seen.{length-seen, length-together}
use Rattle.wf_json.proofs.writing.body.put_entries.Goals as goal

pub returns : goal.returns
returns g c =
    list_taken _ _ _ (entry_text c.args.g.now.core (production_at c.args.g.now.core c.args.p.0)) (entries_of c.args.g.now.core (production_at c.args.g.now.core c.args.p.0)) ([], first_port) _ _
    (length-seen inner_of _ _ (c.entries-count.ensures ∙ ap (λ (r : Production). r.entries) c.production.ensures.core)
    ∙ length-together _ _ (c.production.ensures.formed.bodies c.args.p.0 c.requires).one_entry_each)
    (c.put_list.ensures (λ k. entry_text c.args.g.now.core (production_at c.args.g.now.core c.args.p.0) (entry_at c.args.g.now.core (production_at c.args.g.now.core c.args.p.0) k)) (λ v k r w below met. search rules))
