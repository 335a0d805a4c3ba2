use Rattle.std.proofs.Common.{◌∙◌, [], ℕ, List, ap, sym, subst, OnOk, arith}
use Rattle.wf_model.specs.Grammar.{Inner, Module, Production, production_at}
use Rattle.wf_model.specs.Meaning.{inner_of}
use Rattle.wf_json.specs.Canonical.{entry_text}
use Rattle.wf_json.specs.Writing.{Takes}
use Rattle.wf_json.proofs.Taken.{paired}
use Rattle.wf_json.proofs.Seen.{read_at, read_in, read_seen, together}
use Rattle.wf_json.proofs.writing.body.put_entry.Goals as goal

pub put_input-requires-clause-port : goal.put_input-requires-clause-port
put_input-requires-clause-port g c =
    (c.production.ensures.formed.bodies c.args.p.0 c.requires.production).entries_to _ (read_in inner_of _ _ c.args.k _ (c.entries.ensures ∙ ap (λ (r : Production). r.entries) c.production.ensures.core) c.requires.entry)

pub returns : goal.returns
returns g c =
    let r = production_at c.args.g.now.core c.args.p.0 in
    let each = (c.production.ensures.formed.bodies c.args.p.0 c.requires.production).one_entry_each in
    let names = c.inputs.ensures ∙ ap (λ (m : Module). m.inputs) c.head.ensures in
    let inside = c.requires.entry in
    let name = c.bytes.ensures ∙ read_at _ _ c.args.k _ [] names c.index-inputs-k.is (omega arith) in
    let port = read_seen inner_of _ _ c.args.k _ (c.entries.ensures ∙ ap (λ (r : Production). r.entries) c.production.ensures.core) in
    subst (λ (e : List ℕ × Inner). OnOk c.put-4.result (Takes g.S.TextSink.holds c.args.out.now c.put-4.new.self (entry_text c.args.g.now.core r e))) (sym (together _ _ c.args.k _ [] _ _ each inside name port))
    (paired _ _ c.in_ok-put.ensures c.in_ok-put-2.ensures c.in_ok-put-3.ensures c.in_ok-put_input.ensures c.put-4.ensures)
