use Rattle.std.proofs.Common.{◌∙◌, ap, take, get_or, [], List, ℕ}
use Rattle.std.proofs.lemmas.Result.{IfOk-weaker}
use Rattle.wf_model.specs.Grammar.{inputs_of, body_of}
use Rattle.wf_model.specs.Meaning.{pairs_of}
use Rattle.bool_mat.specs.Matrix.{matrix_at}
use Rattle.bool_mat.specs.declared.pool.MatNo.{MatNo}
use Rattle.wf_body.specs.Matrices.{LeadsToInputs}
use Rattle.wf_body.proofs.Meaning.{leads_to_inputs}
use Rattle.wf_body.proofs.leads.push_to_inputs.Goals as goal

pub returns-clause-leads : goal.returns-clause-leads
returns-clause-leads c =
    IfOk-weaker c.push_turned.result _
    (λ (m : MatNo). LeadsToInputs c.args.g.now.core (pairs_of c.args.deps.now) c.args.p.0 c.args.from c.args.k.0 (matrix_at c.push_turned.new.pool m.0))
    (λ m h. leads_to_inputs c.args.g.now.core (pairs_of c.args.deps.now) c.args.p.0 c.args.k.0 c.source_count-sources.result c.args.from c.in_ok-words.words.ins.items c.in_ok-words.words.outs.items c.input_words-row.result.now (matrix_at c.push_turned.new.pool m.0)
    (c.input_words-row.ensures.formed.bodies c.args.p.0 c.requires.production) c.in_ok-words.ensures c.requires.position
    (c.input_words-row.ensures.words ∙ ap (λ (w : List (List ℕ)). take (inputs_of c.args.g.now.core (get_or (body_of c.args.g.now.core c.args.p.0) c.args.k.0 0)) (get_or w c.args.k.0 [])) c.deref.ensures.value)
    c.input_words-row.ensures.count c.source_count-sources.ensures.count h)
    c.push_turned.ensures.turned
