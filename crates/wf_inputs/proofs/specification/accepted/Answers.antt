use Rattle.std.proofs.Common.{◌≡◌, ◌⊎◌, None, subst}
use Rattle.std.specs.Prelude.{codes}
use Rattle.wf_spec.specs.Held.{HeldGrammar}
use Rattle.wf_message.specs.Endings.{end_of, Refused, NoMemory}
use Rattle.wf_accept.specs.FaultText.{accept_text}
use Rattle.wf_inputs.proofs.SpecSteps.{grammar_declines}
use Rattle.wf_inputs.proofs.specification.accepted.Goals as goal

pub returns-in-Err-clause-declines : goal.returns-in-Err-clause-declines
returns-in-Err-clause-declines c =
    let u = c.in-Err.unaccepted in
    let e = end_of c.accept_stop.result in
    grammar_declines c.args.g u.fault e c.in-Err.ensures.refused.1 c.accept_stop.ensures.memory
    (subst (λ (x : HeldGrammar). (e ≡ NoMemory) ⊎ (e ≡ Refused (codes "spec") None (accept_text x.core u.fault))) c.in-Err.ensures.refused.0 c.accept_stop.ensures.refused)
