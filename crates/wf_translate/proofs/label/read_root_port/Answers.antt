use Rattle.std.proofs.Common.{◌≡◌, ◌∙◌, false, cond, ◌∷◌, refl, sym, ap, subst}
use Rattle.wf_model.specs.Grammar.{inputs_of, outputs_of}
use Rattle.wf_spec.specs.Held.{HeldGrammar}
use Rattle.wf_loops.specs.Looped.{loop_in}
use Rattle.package_model.specs.Translating.{Malformed, IsTranslation}
use Rattle.wf_translate.proofs.Whole.{ports_are, output_read, input_read, port_none, zero_malformed}
use Rattle.wf_translate.proofs.label.read_root_port.Goals as goal

pub returns-in_err-is_output-clause-malformed : goal.returns-in_err-is_output-clause-malformed
returns-in_err-is_output-clause-malformed c = λ _.
    let l = c.args.looped.now in
    subst (λ z. IsTranslation l.accepted.grammar.core (loop_in l.steps) (false ∷ z) Malformed) (sym (c.in_err-is_output.ensures.ended refl)) (zero_malformed l.accepted.grammar.core (loop_in l.steps))

pub returns-in_err-port-clause-malformed : goal.returns-in_err-port-clause-malformed
returns-in_err-port-clause-malformed c = λ _.
    let l = c.args.looped.now in
    let g = l.accepted.grammar.core in
    port_none g (loop_in l.steps) c.port_count-count.result c.in_ok-is_output.is_output c.args.reader.now.left c.read_bit.new.reader.left
    (ports_are g (loop_in l.steps) c.grammar-g.result.now (ap (λ (h : HeldGrammar). h.core) c.grammar-g.ensures.grammar) c.in_ok-is_output.is_output c.port_count-count.result c.port_count-count.ensures)
    c.in_ok-is_output.ensures.bit (c.in_err-port.ensures.malformed refl)

pub returns-then-is_output-clause-read : goal.returns-then-is_output-clause-read
returns-then-is_output-clause-read c =
    let l = c.args.looped.now in
    let g = l.accepted.grammar.core in
    output_read g (loop_in l.steps) c.port_count-count.result c.in_ok-port.port c.in_ok-is_output.is_output c.args.reader.now.left c.read_bit.new.reader.left
    (ports_are g (loop_in l.steps) c.grammar-g.result.now (ap (λ (h : HeldGrammar). h.core) c.grammar-g.ensures.grammar) c.in_ok-is_output.is_output c.port_count-count.result c.port_count-count.ensures
    ∙ ap (λ b. cond b (outputs_of g g.start) (inputs_of g g.start)) c.if-is_output.true)
    c.in_ok-is_output.ensures.bit c.if-is_output.true c.in_ok-port.ensures.read

pub returns-clause-read : goal.returns-clause-read
returns-clause-read c =
    let l = c.args.looped.now in
    let g = l.accepted.grammar.core in
    input_read g (loop_in l.steps) c.port_count-count.result c.in_ok-port.port c.in_ok-is_output.is_output c.args.reader.now.left c.read_bit.new.reader.left
    (ports_are g (loop_in l.steps) c.grammar-g.result.now (ap (λ (h : HeldGrammar). h.core) c.grammar-g.ensures.grammar) c.in_ok-is_output.is_output c.port_count-count.result c.port_count-count.ensures
    ∙ ap (λ b. cond b (outputs_of g g.start) (inputs_of g g.start)) c.if-is_output.false)
    c.in_ok-is_output.ensures.bit c.if-is_output.false c.in_ok-port.ensures.read
