use Rattle.std.proofs.lemmas.Result.{err_from_is_err_and}
use Rattle.hex.specs.Hex.{decode_of}
use Rattle.label_words.specs.Digits.{bytes_in}
use Rattle.wf_message.specs.Endings.{end_of}
use Rattle.wf_stage.proofs.Obeying.{stop_is_not_done}
use Rattle.wf_stage.proofs.Writing.{writes_passed}
use Rattle.cmd_share.proofs.GoodPackages.{held_good}
use Rattle.cmd_share.proofs.ConsultedTexts.{consulting_stops, consulted_written}
use Rattle.cmd_share.proofs.consult.put_verdict.Goals as goal

pub returns-in_err-verdict-clause-writes : goal.returns-in_err-verdict-clause-writes
returns-in_err-verdict-clause-writes g c =
    writes_passed _ _ _ _ c.from_residual.result c.in_err-verdict.field-0.0 (err_from_is_err_and c.from_residual.result c.from_residual.ensures.1)
    (consulting_stops c.args.held.now _ _ _ (end_of c.in_err-verdict.field-0.0) (stop_is_not_done c.in_err-verdict.field-0.0) c.in_err-verdict.ensures.stops)

pub returns-clause-writes : goal.returns-clause-writes
returns-clause-writes g c =
    consulted_written c.args.held.now (bytes_in (decode_of c.args.words.now.first.word.now)) (bytes_in (decode_of c.args.words.now.second.word.now)) (held_good c.args.held.now c.looped-held.ensures.held)
    c.in_ok-verdict.verdict c.in_ok-verdict.ensures.verdict c.verdict_line.result.now c.verdict_line.ensures _ _ _ c.put_text.ensures.writes
