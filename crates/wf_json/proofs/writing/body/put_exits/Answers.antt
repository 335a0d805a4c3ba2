use Rattle.std.proofs.Common.{rules, [], ◌∙◌, ap}
use Rattle.wf_model.specs.Grammar.{Production, production_at}
use Rattle.wf_model.specs.Meaning.{inner_of}
use Rattle.wf_json.specs.Canonical.{exit_text, exits_of}
use Rattle.wf_json.specs.Writing.{exit_at, first_port}
use Rattle.wf_json.proofs.Joined.{list_taken}
use Rattle.wf_json.proofs.Seen.{length-seen, length-together}
use Rattle.wf_json.proofs.writing.body.put_exits.Goals as goal

pub returns : goal.returns
returns g c =
    list_taken _ _ _ (exit_text c.args.g.now.core (production_at c.args.g.now.core c.args.p.0)) (exits_of c.args.g.now.core (production_at c.args.g.now.core c.args.p.0)) ([], first_port) _ _
    (length-seen inner_of _ _ (c.exits-count.ensures ∙ ap (λ (r : Production). r.exits) c.production.ensures.core)
    ∙ length-together _ _ (c.production.ensures.formed.bodies c.args.p.0 c.requires).one_exit_each)
    (c.put_list.ensures (λ k. exit_text c.args.g.now.core (production_at c.args.g.now.core c.args.p.0) (exit_at c.args.g.now.core (production_at c.args.g.now.core c.args.p.0) k)) (λ v k r w below met. search rules))
