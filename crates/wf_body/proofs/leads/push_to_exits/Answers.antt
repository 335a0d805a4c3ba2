use Rattle.std.proofs.Common.{◌≡◌, ◌∙◌, ap, subst, get_or, List, ℕ, arith}
use Rattle.std.proofs.lemmas.Result.{IfOk-weaker}
use Rattle.wf_model.specs.Grammar.{Inner, Production, production_at, outputs_of}
use Rattle.wf_model.specs.Lists.{IsAt}
use Rattle.wf_model.specs.Meaning.{pairs_of}
use Rattle.bool_mat.specs.Matrix.{matrix_at}
use Rattle.bool_mat.specs.declared.pool.MatNo.{MatNo}
use Rattle.wf_body.specs.Matrices.{LeadsToExits}
use Rattle.wf_body.specs.Words.{word_at}
use Rattle.wf_body.proofs.Meaning.{leads_to_exits}
use Rattle.wf_body.proofs.leads.push_to_exits.Goals as goal

pub returns-clause-leads : goal.returns-clause-leads
returns-clause-leads c =
    let few = c.output_count-count.ensures.few in
    let room = c.at_exits-exits.ensures.room in
    IfOk-weaker c.push_turned.result _
    (λ (m : MatNo). LeadsToExits c.args.g.now.core (pairs_of c.args.deps.now) c.args.p.0 c.args.from (matrix_at c.push_turned.new.pool m.0))
    (λ m h. leads_to_exits c.args.g.now.core (pairs_of c.args.deps.now) c.args.p.0 c.output_count-count.result c.source_count-sources.result c.args.from c.in_ok-words.words.ins.items c.in_ok-words.words.outs.items c.at_exits-exits.result (matrix_at c.push_turned.new.pool m.0)
    (c.production.ensures.formed.bodies c.args.p.0 c.requires.production) c.in_ok-words.ensures
    (subst (λ (w : List (List ℕ)). (q : ℕ) (i : Inner) → IsAt i q (production_at c.args.g.now.core c.args.p.0).exits → get_or c.at_exits-exits.result q 0 ≡ word_at w i.position i.port) c.deref.ensures.value c.at_exits-exits.ensures.words)
    (c.output_count-count.ensures.count ∙ ap (outputs_of c.args.g.now.core) (c.head.ensures ∙ ap (λ (r : Production). r.head) c.production.ensures.core)) (omega arith) c.source_count-sources.ensures.count h)
    c.push_turned.ensures.turned
