use Rattle.std.proofs.Common.{◌<◌, ◌∙◌, ap, subst, length, take, get_or, [], List, ℕ}
use Rattle.std.proofs.lemmas.Result.{err_from_is_err_and}
use Rattle.wf_model.specs.Grammar.{inputs_of, body_of}
use Rattle.wf_model.specs.Meaning.{pairs_of}
use Rattle.bool_mat.specs.Matrix.{matrix_at}
use Rattle.bool_mat.proofs.Pools.{adds_more}
use Rattle.bool_mat.proofs.Powers.{adds_front}
use Rattle.wf_body.proofs.Calls.{all_more}
use Rattle.wf_body.proofs.Meaning.{leads_to_inputs}
use Rattle.wf_body.proofs.Ordering.{count_is}
use Rattle.wf_body.proofs.leads.push_to_all_inputs.Goals as goal

pub returns-in_err-push_turned-clause-err : goal.returns-in_err-push_turned-clause-err
returns-in_err-push_turned-clause-err c =
    let p = err_from_is_err_and c.from_residual-in_err-push_turned.result c.from_residual-in_err-push_turned.ensures.1 in
    rw p.1 (ap (take (length c.args.pool.now)) c.in_err-push_turned.ensures.err ∙ adds_front _ _ _ _ c.loop-k.invariant.added)

pub loop-k-preserved : goal.loop-k-preserved
loop-k-preserved c =
    let count = count_is c.args.g.now.core c.args.p.0 c.positions-count.result.now c.production.result.now.core c.positions-count.ensures c.production.ensures.core in
    record {
      added = adds_more _ _ _ _ _ _ _ c.loop-k.invariant.added c.in_ok-push_turned.ensures.added;
      leads = all_more c.args.g.now.core (pairs_of c.args.deps.now) c.args.p.0 c.loop-k.k c.len.result c.args.from c.args.pool.now c.loop-k.pool c.push_turned.new.pool c.in_ok-push_turned.field-0.0 c.loop-k.invariant.added c.in_ok-push_turned.ensures.added c.loop-k.invariant.leads
          (leads_to_inputs c.args.g.now.core (pairs_of c.args.deps.now) c.args.p.0 c.loop-k.k c.source_count-sources.result c.args.from c.in_ok-words.words.ins.items c.in_ok-words.words.outs.items c.input_words.result.now (matrix_at c.push_turned.new.pool c.in_ok-push_turned.field-0.0)
          (c.source_count-sources.ensures.formed.bodies c.args.p.0 c.requires.production) c.in_ok-words.ensures (subst (λ n. c.loop-k.k < n) count c.loop-k-test.true)
          (c.input_words.ensures.words ∙ ap (λ (w : List (List ℕ)). take (inputs_of c.args.g.now.core (get_or (body_of c.args.g.now.core c.args.p.0) c.loop-k.k 0)) (get_or w c.loop-k.k [])) c.deref.ensures.value)
          c.input_words.ensures.count c.source_count-sources.ensures.count c.in_ok-push_turned.ensures.turned);
    }
