use Rattle.std.proofs.Common.{inl}
use Rattle.std.proofs.lemmas.Result.{err_from_is_err_and, IfOk-weaker, IfErr-weaker}
use Rattle.hex.specs.Hex.{decode_of}
use Rattle.label_words.specs.Digits.{bytes_in}
use Rattle.wf_message.specs.Endings.{end_of}
use Rattle.cmd_share.proofs.ConsultedTexts.{packed_over, stops_passed, first_stops, second_stops}
use Rattle.cmd_share.proofs.consult.verdict_of_words.Goals as goal

pub returns-in_err-first-clause-stops : goal.returns-in_err-first-clause-stops
returns-in_err-first-clause-stops c =
    stops_passed _ c.from_residual.result c.in_err-first.field-0.0 (err_from_is_err_and c.from_residual.result c.from_residual.ensures.1)
    (first_stops c.args.held.now _ _ (end_of c.in_err-first.field-0.0) c.in_err-first.ensures.stops)

pub returns-in_err-second-clause-stops : goal.returns-in_err-second-clause-stops
returns-in_err-second-clause-stops c =
    stops_passed _ c.from_residual-in_err-second.result c.in_err-second.field-0.0 (err_from_is_err_and c.from_residual-in_err-second.result c.from_residual-in_err-second.ensures.1)
    (second_stops c.args.held.now _ _ (end_of c.in_err-second.field-0.0) (packed_over c.args.held.now _ c.in_ok-first.first c.in_ok-first.ensures.packed) c.in_err-second.ensures.stops)

pub verdict_by-requires-clause-first : goal.verdict_by-requires-clause-first
verdict_by-requires-clause-first c = (bytes_in (decode_of c.args.words.now.first.word.now), c.in_ok-first.ensures.packed)

pub verdict_by-requires-clause-second : goal.verdict_by-requires-clause-second
verdict_by-requires-clause-second c = (bytes_in (decode_of c.args.words.now.second.word.now), c.in_ok-second.ensures.packed)

pub returns-clause-verdict : goal.returns-clause-verdict
returns-clause-verdict c =
    let x = bytes_in (decode_of c.args.words.now.first.word.now) in
    let y = bytes_in (decode_of c.args.words.now.second.word.now) in
    IfOk-weaker c.verdict_by.result _ _ (λ v told. told x y c.in_ok-first.ensures.packed c.in_ok-second.ensures.packed) c.verdict_by.ensures.verdict

pub returns-clause-stops : goal.returns-clause-stops
returns-clause-stops c = IfErr-weaker c.verdict_by.result _ _ (λ e wants. inl wants) c.verdict_by.ensures.memory
