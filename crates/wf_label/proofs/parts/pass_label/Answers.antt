use Rattle.std.proofs.Common.{◌≡◌, ℕ, ◌+◌, ◌<◌, Bool, true, false, List, [], ◌∷◌, length, get_or, ap, ◌∙◌, subst, arith}
use Rattle.std.proofs.lemmas.List.{get_or_default}
use Rattle.std.proofs.lemmas.Result.{on_ok_weaker}
use Rattle.wf_model.specs.Grammar.{Grammar, Module, module_at, inputs_of, outputs_of}
use Rattle.bit_pack.specs.Reading.{Reading}
use Rattle.label_model.specs.Reading.{IsPadding, IsLabelLeft, IsPlaceLeft, IsPortLeft}
use Rattle.wf_label.specs.Parts.{IsPassed}
use Rattle.wf_label.proofs.Passes.{passed_front, passed_then}
use Rattle.wf_label.proofs.parts.pass_label.Goals as goal

-- the start module, as it is held
start_module : (g : Grammar) (modules : List Module) (k : ℕ) (m : Module) → m ≡ get_or modules k m → modules ≡ g.modules → k ≡ g.start → g.start < length g.modules → m ≡ module_at g g.start
start_module g modules k m was are is inside =
    was ∙ (ap (λ l. get_or l k m) are ∙ (ap (λ i. get_or g.modules i m) is ∙ get_or_default g.modules g.start m (record { name = []; inputs = []; outputs = [] }) inside))

-- two bits are read
two_bits : (g : Grammar) (b c d e : Bool) (x y z : Reading) → x.left ≡ b ∷ y.left → b ≡ d → y.at ≡ x.at + 1 → y.left ≡ c ∷ z.left → c ≡ e → z.at ≡ y.at + 1 →
    IsPassed (IsLabelLeft g) (λ left. IsLabelLeft g (d ∷ (e ∷ left))) x z
two_bits g b c d e x y z first is at second is_then at_then =
    passed_front (IsLabelLeft g) (d ∷ (e ∷ [])) x z (first ∙ (ap (λ l. b ∷ l) second ∙ (ap (λ a. a ∷ (c ∷ z.left)) is ∙ ap (λ a. d ∷ (a ∷ z.left)) is_then))) (omega (arith, at, at_then))

pub returns-then-of_edge-clause-passed : goal.returns-then-of_edge-clause-passed
returns-then-of_edge-clause-passed c =
    let g = c.args.g.grammar.now.core in
    let a = c.args.reader.now in
    let b = c.bit.new.self in
    let d = c.pass_place.new.reader in
    let first = passed_front (IsLabelLeft g) (true ∷ []) a b (c.in-Ok.ensures.ok ∙ ap (λ x. x ∷ b.left) c.if-of_edge.true) c.in-Ok.ensures.at in
    on_ok_weaker c.pass_place.result (λ h. passed_then (IsLabelLeft g) (IsPlaceLeft g g.start) IsPadding a b d first h) c.pass_place.ensures.passed

pub returns-then-is_output-clause-passed : goal.returns-then-is_output-clause-passed
returns-then-is_output-clause-passed c =
    let g = c.args.g.grammar.now.core in
    let a = c.args.reader.now in
    let b = c.bit-2.new.self in
    let d = c.pass_port.new.reader in
    let first = two_bits g _ _ false true a c.bit.new.self b c.in-Ok.ensures.ok c.if-of_edge.false c.in-Ok.ensures.at c.in-Ok-bit.ensures.ok c.if-is_output.true c.in-Ok-bit.ensures.at in
    let module_is = start_module g c.modules.result.now c.start.result.0 c.index-modules-start.result c.index-modules-start.is c.modules.ensures.modules c.start.ensures.start c.start.ensures.formed.start in
    let ports = ap length (c.outputs.ensures ∙ ap (λ (m : Module). m.outputs) module_is) in
    on_ok_weaker c.pass_port.result
    (λ h. passed_then (IsLabelLeft g) (IsPortLeft (outputs_of g g.start)) IsPadding a b d first (subst (λ n. IsPassed (IsPortLeft n) IsPadding b d) ports h)) c.pass_port.ensures.passed

pub returns-clause-passed : goal.returns-clause-passed
returns-clause-passed c =
    let g = c.args.g.grammar.now.core in
    let a = c.args.reader.now in
    let b = c.bit-2.new.self in
    let d = c.pass_port-2.new.reader in
    let first = two_bits g _ _ false false a c.bit.new.self b c.in-Ok.ensures.ok c.if-of_edge.false c.in-Ok.ensures.at c.in-Ok-bit.ensures.ok c.if-is_output.false c.in-Ok-bit.ensures.at in
    let module_is = start_module g c.modules.result.now c.start.result.0 c.index-modules-start.result c.index-modules-start.is c.modules.ensures.modules c.start.ensures.start c.start.ensures.formed.start in
    let ports = ap length (c.inputs.ensures ∙ ap (λ (m : Module). m.inputs) module_is) in
    on_ok_weaker c.pass_port-2.result
    (λ h. passed_then (IsLabelLeft g) (IsPortLeft (inputs_of g g.start)) IsPadding a b d first (subst (λ n. IsPassed (IsPortLeft n) IsPadding b d) ports h)) c.pass_port-2.ensures.passed
