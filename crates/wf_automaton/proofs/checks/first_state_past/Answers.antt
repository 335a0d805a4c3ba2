use Rattle.std.proofs.Common.{◌<◌, nat_lt, rules, tests}
use Rattle.std.proofs.lemmas.Bool.{ltb-true, lt-ltb}
use Rattle.std.proofs.lemmas.Iterator.{YieldsList-from_slice}
use Rattle.std.proofs.lemmas.Iterator.Search.{position_from_yields_List}
use Rattle.wf_spec.proofs.FirstFaults.{first_that_is_not}
use Rattle.wf_automaton.specs.declared.fault.AutoMember.TheVariants.{Accept}
use Rattle.wf_automaton.specs.declared.fault.AutoFault.TheVariants.{StateBad}
use Rattle.wf_automaton.proofs.checks.first_state_past.Goals as goal

pub returns : goal.returns
returns c =
    let k = c.args.states in
    first_that_is_not (λ s. nat_lt s k) (λ s. s < k) (λ n. StateBad Accept) c.args.accept.now c.position.result (λ s i. ltb-true s k) (λ s i. lt-ltb s k)
    (position_from_yields_List _ _ _ _ c.position.ensures.ran (YieldsList-from_slice c.args.accept.now cc) (λ x b q n. search (rules, tests)))
