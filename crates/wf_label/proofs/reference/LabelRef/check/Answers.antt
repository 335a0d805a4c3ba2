use Rattle.std.proofs.Common.{◌<◌, refl, sym, ap, ◌∙◌, subst, arith, true≢false}
use Rattle.std.proofs.lemmas.List.Elements.{All-from_get_or}
use Rattle.bit_pack.specs.Bits.{AreBytes, Holds}
use Rattle.bit_pack.specs.Reading.{Reading}
use Rattle.bit_pack.specs.Written.{first_bits, IsWhole}
use Rattle.label_model.specs.Reading.{IsPadding, IsLabelBytes, IsLabelLeft}
use Rattle.wf_label.specs.Parts.{IsPassed, at_front}
use Rattle.wf_label.specs.Values.{AreLabelBits}
use Rattle.wf_label.proofs.WholeLabels.{place_read, bits_read, bytes_read, whole_read, more_left, nothing_read, few_bytes, at_error}
use Rattle.wf_label.proofs.reference.LabelRef.check.Goals as goal
use Rattle.wf_label.proofs.reference.LabelRef.check.Goals.{After-at}

-- a label was read from the front of the bytes
read : (c : After-at) → IsPassed (IsLabelLeft c.args.g.grammar.now.core) IsPadding (at_front c.args.bytes.now) c.pass_label.new.reader
read c = subst (λ r. IsPassed (IsLabelLeft c.args.g.grammar.now.core) IsPadding r c.pass_label.new.reader) c.new-reader.ensures c.in_ok-pass_label.ensures.passed

pub returns-then-bytes-gt16384-clause-malformed : goal.returns-then-bytes-gt16384-clause-malformed
returns-then-bytes-gt16384-clause-malformed c = few_bytes c.args.g.grammar.now.core c.args.bytes.now c.start-formed.ensures.formed c.args.g.linear c.if-bytes-gt16384.true

pub returns-in_err-pass_label-clause-malformed : goal.returns-in_err-pass_label-clause-malformed
returns-in_err-pass_label-clause-malformed c =
    let g = c.args.g.grammar.now.core in
    let none = subst (λ (r : Reading). ¬ IsLabelLeft g r.left) c.new-reader.ensures (c.in_err-pass_label.ensures.malformed refl) in
    at_error (¬ IsLabelBytes g c.args.bytes.now) c.from_residual.result (nothing_read g c.args.bytes.now none)

pub returns-else-padding-clause-malformed : goal.returns-else-padding-clause-malformed
returns-else-padding-clause-malformed c =
    let g = c.args.g.grammar.now.core in
    let r = c.pass_label.new.reader in
    let h = subst (λ a. IsPassed (IsLabelLeft g) IsPadding a r) c.new-reader.ensures c.in_ok-pass_label.ensures.passed in
    more_left g c.args.bytes.now r h (λ p. true≢false (sym (c.padding.ensures.1 p) ∙ c.if-padding.false))

pub overflow_cast-at : goal.overflow_cast-at
overflow_cast-at c =
    let place = place_read c.args.g.grammar.now.core c.args.bytes.now c.pass_label.new.reader (read c) in
    let few = c.if-bytes-gt16384.false in
    omega (arith, c.at.ensures)

pub new-requires : goal.new-requires
new-requires c =
    let bytes = c.args.bytes.now in
    let r = c.pass_label.new.reader in
    let are : AreBytes bytes = All-from_get_or (λ b. b < 256) bytes 0 (λ i h. let fits = c.type_inv.bytes i in omega arith) in
    let few = c.if-bytes-gt16384.false in
    subst (IsWhole bytes) (sym c.at.ensures) (whole_read c.args.g.grammar.now.core bytes r (read c) (c.padding.ensures.0 c.if-padding.true) are (omega arith))

pub returns-then-padding-clause-label : goal.returns-then-padding-clause-label
returns-then-padding-clause-label c =
    let g = c.args.g.grammar.now.core in
    let bytes = c.args.bytes.now in
    let r = c.pass_label.new.reader in
    let h = subst (λ a. IsPassed (IsLabelLeft g) IsPadding a r) c.new-reader.ensures c.in_ok-pass_label.ensures.passed in
    let is = c.new.ensures ∙ ap (first_bits bytes) c.at.ensures in
    subst (λ bits. AreLabelBits g bits × Holds bytes bits) (sym is) (bits_read g bytes r h, bytes_read g bytes r h (c.padding.ensures.0 c.if-padding.true))
