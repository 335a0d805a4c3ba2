use Rattle.std.proofs.Common.{◌≡◌, ◌==◌, drop, position, Some, None, ap, sym, ◌∙◌}
use Rattle.std.proofs.lemmas.List.{take_rest}
use Rattle.wf_io.proofs.Cutting.{no_newline_from, newline_behind}
use Rattle.wf_io.proofs.lines.newline_from.Goals as goal

pub returns-in_err-at : goal.returns-in_err-at
returns-in_err-at c =
    let bytes = c.args.bytes.now in
    let e : position (λ b. b == 10) (drop c.args.from bytes) ≡ None = ap (position (λ b. b == 10)) (sym (take_rest bytes c.args.from)) ∙ sym c.newline.ensures ∙ c.in_err-at.was in
    c.from_residual.ensures ∙ sym (no_newline_from bytes c.args.from c.requires.within c.requires.none e)

pub returns : goal.returns
returns c =
    let bytes = c.args.bytes.now in
    let e : position (λ b. b == 10) (drop c.args.from bytes) ≡ Some c.in_ok-at.at = ap (position (λ b. b == 10)) (sym (take_rest bytes c.args.from)) ∙ sym c.newline.ensures ∙ c.in_ok-at.was in
    sym (newline_behind bytes c.args.from c.in_ok-at.at c.requires.within c.requires.none e)
