use Rattle.std.proofs.Common.{◌∙◌, ap, subst, OnOk}
use Rattle.wf_model.specs.Grammar.{Edge, Production, production_at}
use Rattle.wf_model.specs.Meaning.{edge_of}
use Rattle.wf_json.specs.Canonical.{edge_text}
use Rattle.wf_json.specs.Writing.{Takes}
use Rattle.wf_json.proofs.Taken.{paired}
use Rattle.wf_json.proofs.Seen.{read_in, read_seen}
use Rattle.wf_json.proofs.writing.body.put_edge.Goals as goal

pub put_output-requires-clause-port : goal.put_output-requires-clause-port
put_output-requires-clause-port g c =
    (c.production.ensures.formed.bodies c.args.p.0 c.requires.production).edges_from _ (read_in edge_of _ _ c.args.k _ (c.edges.ensures ∙ ap (λ (r : Production). r.edges) c.production.ensures.core) c.requires.edge)

pub put_input-requires-clause-port : goal.put_input-requires-clause-port
put_input-requires-clause-port g c =
    (c.production.ensures.formed.bodies c.args.p.0 c.requires.production).edges_to _ (read_in edge_of _ _ c.args.k _ (c.edges.ensures ∙ ap (λ (r : Production). r.edges) c.production.ensures.core) c.requires.edge)

pub returns : goal.returns
returns g c =
    subst (λ (e : Edge). OnOk c.put-3.result (Takes g.S.TextSink.holds c.args.out.now c.put-3.new.self (edge_text c.args.g.now.core (production_at c.args.g.now.core c.args.p.0) e)))
    (read_seen edge_of _ _ c.args.k _ (c.edges.ensures ∙ ap (λ (r : Production). r.edges) c.production.ensures.core))
    (paired _ _ c.in_ok-put.ensures c.in_ok-put_output.ensures c.in_ok-put-2.ensures c.in_ok-put_input.ensures c.put-3.ensures)
