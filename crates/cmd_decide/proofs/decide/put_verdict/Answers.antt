use Rattle.std.proofs.Common.{refl, ◌∙◌}
use Rattle.std.proofs.lemmas.Result.{err_from_is_err_and}
use Rattle.hex.specs.Hex.{decode_of}
use Rattle.wf_message.specs.Endings.{end_of}
use Rattle.wf_stage.proofs.Writing.{writes_passed}
use Rattle.label_words.specs.Digits.{bytes_in}
use Rattle.cmd_decide.proofs.TwoLabels.{label_told, decision_wants, first_refused, second_refused, verdict_written}
use Rattle.cmd_decide.proofs.decide.put_verdict.Goals as goal

pub returns-in_err-first_bytes : goal.returns-in_err-first_bytes
returns-in_err-first_bytes g c = record {
  writes =
      writes_passed _ _ _ _ c.from_residual.result c.in_err-first_bytes.field-0.0 (err_from_is_err_and c.from_residual.result c.from_residual.ensures.1)
      (decision_wants _ _ _ _ _ _ c.in_err-first_bytes.ensures.memory);
}

pub returns-in_err-first : goal.returns-in_err-first
returns-in_err-first g c = record {
  writes =
      let e = c.in_err-first.ensures.malformed in
      writes_passed _ _ _ _ c.from_residual-in_err-first.result c.in_err-first.field-0.0 (err_from_is_err_and c.from_residual-in_err-first.result c.from_residual-in_err-first.ensures.1)
      (first_refused c.args.v.now.accepted.grammar.core c.args.v.now.view.core _ _ _ c.deref.result.now (c.deref.ensures.value ∙ c.in_ok-first_bytes.ensures.bytes) e.0 (end_of c.in_err-first.field-0.0) e.1);
}

pub returns-in_err-second : goal.returns-in_err-second
returns-in_err-second g c = record {
  writes =
      let h = c.args.v.now.accepted.grammar.core in
      let e = c.in_err-second.ensures.malformed in
      let l = label_told h c.deref.result.now (bytes_in (decode_of c.args.words.now.first.word.now)) c.in_ok-first.first (c.deref.ensures.value ∙ c.in_ok-first_bytes.ensures.bytes) c.in_ok-first.ensures.label in
      writes_passed _ _ _ _ c.from_residual-in_err-second.result c.in_err-second.field-0.0 (err_from_is_err_and c.from_residual-in_err-second.result c.from_residual-in_err-second.ensures.1)
      (second_refused h c.args.v.now.view.core _ _ _ l.0 l.1 c.deref-2.result.now (c.deref-2.ensures.value ∙ c.in_ok-second_bytes.ensures.bytes) e.0 (end_of c.in_err-second.field-0.0) e.1);
}

pub returns-in_default : goal.returns-in_default
returns-in_default g c = record { writes = decision_wants _ _ _ _ _ _ refl }

pub returns : goal.returns
returns g c = record {
  writes =
      let h = c.args.v.now.accepted.grammar.core in
      let l = label_told h c.deref.result.now (bytes_in (decode_of c.args.words.now.first.word.now)) c.in_ok-first.first (c.deref.ensures.value ∙ c.in_ok-first_bytes.ensures.bytes) c.in_ok-first.ensures.label in
      let k = label_told h c.deref-2.result.now (bytes_in (decode_of c.args.words.now.second.word.now)) c.in_ok-second.second (c.deref-2.ensures.value ∙ c.in_ok-second_bytes.ensures.bytes) c.in_ok-second.ensures.label in
      verdict_written h c.args.v.now.view.core _ _ l.0 k.0 l.1 k.1 c.in-Ok.verdict (c.in-Ok.ensures.verdict l.0 k.0 l.1.0 k.1.0 l.2 k.2) c.verdict_line.result.now c.verdict_line.ensures _ _ _ c.put_text.ensures.writes;
}
