use Rattle.std.proofs.Common.{◌&&◌, nat_lt, rules, tests}
use Rattle.std.proofs.lemmas.Bool.{ltb-true, lt-ltb, and_parts, and_from}
use Rattle.std.proofs.lemmas.Iterator.{YieldsList-from_slice}
use Rattle.std.proofs.lemmas.Iterator.Search.{position_from_yields_List}
use Rattle.wf_spec.proofs.FirstFaults.{first_that_is_not}
use Rattle.wf_automaton.specs.declared.parts.MovePart.{MovePart}
use Rattle.wf_automaton.specs.declared.fault.AutoMember.TheVariants.{Moves}
use Rattle.wf_automaton.specs.declared.fault.AutoFault.TheVariants.{StateBad}
use Rattle.wf_automaton.specs.Rules.{IsMoveBelow}
use Rattle.wf_automaton.proofs.checks.first_move_past.Goals as goal

pub returns : goal.returns
returns c =
    let k = c.args.states in
    first_that_is_not (λ (v : MovePart). nat_lt v.from k && nat_lt v.to k) (IsMoveBelow k) (λ n. StateBad Moves) c.args.moves.now c.position.result
    (λ v i h. let p = and_parts (nat_lt v.from k) (nat_lt v.to k) h in (ltb-true v.from k p.0, ltb-true v.to k p.1))
    (λ v i h. and_from (nat_lt v.from k) (nat_lt v.to k) (lt-ltb v.from k h.0) (lt-ltb v.to k h.1))
    (position_from_yields_List _ _ _ _ c.position.ensures.ran (YieldsList-from_slice c.args.moves.now cc) (λ x b q n. search (rules, tests)))
