use Rattle.std.proofs.Common.{◌≡◌, ◌⊎◌, None, subst}
use Rattle.wf_spec.specs.Held.{HeldGrammar}
use Rattle.wf_message.specs.Endings.{end_of, Refused, NoMemory}
use Rattle.wf_safe.specs.WitnessText.{unsafe_text}
use Rattle.wf_inputs.proofs.ViewSteps.{unsafe_declines}
use Rattle.wf_inputs.proofs.view.safe_view.Goals as goal

pub returns-in-Err-Unsafe-clause-declines : goal.returns-in-Err-Unsafe-clause-declines
returns-in-Err-Unsafe-clause-declines c =
    unsafe_declines c.args.place.word.now c.args.accepted.now.grammar.core c.args.view.core c.args.accepted.now.ranking c.in-Err-Unsafe.field-0 c.in-Err-Unsafe.witness (end_of c.unsafe_stop.result) c.grammar-g.ensures.accepted.ranked
    c.in-Err-Unsafe.ensures.refused c.in-Err-Unsafe.field-0-is (subst (λ (g : HeldGrammar). (end_of c.unsafe_stop.result ≡ NoMemory) ⊎ (end_of c.unsafe_stop.result ≡ Refused c.args.place.word.now None (unsafe_text g.core c.in-Err-Unsafe.witness))) c.grammar-g.ensures.grammar c.unsafe_stop.ensures)
