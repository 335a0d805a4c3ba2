use Rattle.std.proofs.Common.{refl, sym, ap, ◌∙◌, subst, arith, true≢false}
use Rattle.bit_pack.specs.Bits.{bits_of, Holds}
use Rattle.bit_pack.specs.Written.{first_bits, IsWhole}
use Rattle.bit_pack.proofs.Packing.{length-bits_of}
use Rattle.label_model.specs.Reading.{IsLabelBytes, IsLabelLeft}
use Rattle.wf_label.specs.Parts.{IsPassed, at_front}
use Rattle.wf_label.specs.Checkpoints.{IsLeftAt}
use Rattle.wf_label.specs.Values.{AreLabelBits}
use Rattle.wf_label.proofs.Shared.{passed_to}
use Rattle.wf_label.proofs.WholeLabels.{place_read, bits_read, bytes_read, whole_read, more_left, nothing_read, at_error}
use Rattle.wf_label.proofs.checker.Checker.check_from.Goals as goal

pub new-reader-requires-clause-inside : goal.new-reader-requires-clause-inside
new-reader-requires-clause-inside c = omega (arith, c.requires.shared.inside, length-bits_of c.args.short.bytes.now)

pub pass_rest-requires-clause-passed : goal.pass_rest-requires-clause-passed
pass_rest-requires-clause-passed c =
    let g = c.args.self.now in
    let s = c.args.checkpoint in
    let bytes = c.args.short.bytes.now in
    subst (IsPassed (IsLabelLeft g) (IsLeftAt g s.chained s.at.0) (at_front bytes)) (sym c.new-reader.ensures) (passed_to g (bits_of bytes) s c.requires.shared)

pub returns-in_err-pass_rest-clause-malformed : goal.returns-in_err-pass_rest-clause-malformed
returns-in_err-pass_rest-clause-malformed c =
    let g = c.args.self.now in
    let bytes = c.args.short.bytes.now in
    at_error (¬ IsLabelBytes g bytes) c.from_residual.result (nothing_read g bytes (c.in_err-pass_rest.ensures.malformed refl))

pub overflow_cast-at : goal.overflow_cast-at
overflow_cast-at c =
    let few = c.args.short.held.few in
    let place = place_read c.args.self.now c.args.short.bytes.now c.pass_rest.new.reader c.in_ok-pass_rest.ensures.passed in
    omega (arith, c.at.ensures)

pub new-requires : goal.new-requires
new-requires c =
    let bytes = c.args.short.bytes.now in
    let few = c.args.short.held.few in
    subst (IsWhole bytes) (sym c.at.ensures)
    (whole_read c.args.self.now bytes c.pass_rest.new.reader c.in_ok-pass_rest.ensures.passed (c.padding.ensures.0 c.if-padding.true) c.args.short.are (omega arith))

pub returns-then-padding-clause-label : goal.returns-then-padding-clause-label
returns-then-padding-clause-label c =
    let g = c.args.self.now in
    let bytes = c.args.short.bytes.now in
    let r = c.pass_rest.new.reader in
    let h = c.in_ok-pass_rest.ensures.passed in
    let is = c.new.ensures ∙ ap (first_bits bytes) c.at.ensures in
    subst (λ bits. AreLabelBits g bits × Holds bytes bits) (sym is) (bits_read g bytes r h, bytes_read g bytes r h (c.padding.ensures.0 c.if-padding.true))

pub returns-else-padding-clause-malformed : goal.returns-else-padding-clause-malformed
returns-else-padding-clause-malformed c =
    more_left c.args.self.now c.args.short.bytes.now c.pass_rest.new.reader c.in_ok-pass_rest.ensures.passed (λ p. true≢false (sym (c.padding.ensures.1 p) ∙ c.if-padding.false))
