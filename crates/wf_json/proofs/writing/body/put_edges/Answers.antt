use Rattle.std.proofs.Common.{rules, ◌∙◌, ap}
use Rattle.wf_model.specs.Grammar.{Production, production_at}
use Rattle.wf_model.specs.Meaning.{edge_of}
use Rattle.wf_json.specs.Canonical.{edge_text}
use Rattle.wf_json.specs.Writing.{edge_at, first_port}
use Rattle.wf_json.proofs.Joined.{list_taken}
use Rattle.wf_json.proofs.Seen.{length-seen}
use Rattle.wf_json.proofs.writing.body.put_edges.Goals as goal

pub returns : goal.returns
returns g c =
    list_taken _ _ _ (edge_text c.args.g.now.core (production_at c.args.g.now.core c.args.p.0)) (production_at c.args.g.now.core c.args.p.0).edges (record { from = first_port; to = first_port }) _ _
    (length-seen edge_of _ _ (c.edges-count.ensures ∙ ap (λ (r : Production). r.edges) c.production.ensures.core))
    (c.put_list.ensures (λ k. edge_text c.args.g.now.core (production_at c.args.g.now.core c.args.p.0) (edge_at (production_at c.args.g.now.core c.args.p.0) k)) (λ v k r w below met. search rules))
