use Rattle.std.proofs.Common.{[], ◌∙◌, ap, length, sym, subst, ◌<◌, ℕ, List}
use Rattle.wf_model.specs.Grammar.{Module}
use Rattle.wf_model.specs.Meaning.{inner_of}
use Rattle.wf_json.proofs.Taken.{named}
use Rattle.wf_json.proofs.Places.{output_there}
use Rattle.wf_json.proofs.Seen.{read_at}
use Rattle.wf_json.proofs.writing.port.put_output.Goals as goal

pub place-requires-clause-position : goal.place-requires-clause-position
place-requires-clause-position g c = (output_there c.args.g.now.core c.args.p.0 (inner_of c.args.i) c.requires.port).0

pub bounds-outputs-i : goal.bounds-outputs-i
bounds-outputs-i g c =
    subst (λ (names : List (List ℕ)). c.args.i.port.0 < length names) (sym (c.outputs.ensures ∙ ap (λ (m : Module). m.outputs) c.place.ensures.stands))
    (output_there c.args.g.now.core c.args.p.0 (inner_of c.args.i) c.requires.port).1

pub returns : goal.returns
returns g c =
    named _ _ _ _ c.place.ensures.name
    (c.bytes.ensures ∙ read_at _ _ c.args.i.port.0 c.index-outputs-i.result [] (c.outputs.ensures ∙ ap (λ (m : Module). m.outputs) c.place.ensures.stands) c.index-outputs-i.is (output_there c.args.g.now.core c.args.p.0 (inner_of c.args.i) c.requires.port).1)
    c.put_dotted.ensures
