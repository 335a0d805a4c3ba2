use Rattle.std.proofs.Common.{◌∙◌, length, ap, arith}
use Rattle.std.proofs.lemmas.Result.{err_from_is_err_and}
use Rattle.wf_spec.specs.Held.{HeldGrammar}
use Rattle.wf_message.specs.Endings.{end_of}
use Rattle.wf_stage.proofs.Writing.{writes_passed}
use Rattle.wf_stage.proofs.Obeying.{stop_is_not_done}
use Rattle.cmd_describe.proofs.ViewWritten.{line_more, lines_put, line_stops}
use Rattle.cmd_describe.proofs.view.put_lines.Goals as goal

pub returns-in_err-put_module : goal.returns-in_err-put_module
returns-in_err-put_module g c =
    let v = c.args.v.now in
    let count = ap length c.modules-count.ensures.modules ∙ ap (λ (g : HeldGrammar). length g.core.modules) c.grammar.ensures.grammar in
    let test = c.loop-k-test.true in
    record {
      writes = writes_passed _ _ _ _ c.from_residual.result c.in_err-put_module.field-0.0 (err_from_is_err_and c.from_residual.result c.from_residual.ensures.1)
          (line_stops v.accepted.grammar.core v.view v.full c.grammar.ensures.safe.accepted.proper c.grammar.ensures.safe.held c.grammar.ensures.safe.full c.loop-k.k (omega arith) (end_of c.in_err-put_module.field-0.0) _ _ _ c.loop-k.invariant (stop_is_not_done c.in_err-put_module.field-0.0) c.in_err-put_module.ensures.writes);
    }

pub loop-k-preserved : goal.loop-k-preserved
loop-k-preserved g c =
    let v = c.args.v.now in
    line_more v.accepted.grammar.core v.view v.full c.grammar.ensures.safe.accepted.proper c.grammar.ensures.safe.held c.grammar.ensures.safe.full c.loop-k.k _ _ _ c.loop-k.invariant c.in_ok-put_module.ensures.writes

pub returns : goal.returns
returns g c =
    let v = c.args.v.now in
    let count = ap length c.modules-count.ensures.modules ∙ ap (λ (g : HeldGrammar). length g.core.modules) c.grammar.ensures.grammar in
    let test = c.loop-k-test.false in
    let most = c.loop-k.auto.k-end in
    record { writes = lines_put v.accepted.grammar.core v.view v.full c.grammar.ensures.safe.accepted.proper c.grammar.ensures.safe.held c.grammar.ensures.safe.full c.loop-k.k (omega arith) _ _ c.loop-k.invariant }
