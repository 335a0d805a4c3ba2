use Rattle.std.proofs.Common.{◌∙◌, List, Option, ap, sym, subst, length, arith, rules}
use Rattle.std.specs.Prelude.{option_map}
use Rattle.std.proofs.lemmas.List.{length-map, length-replicate}
use Rattle.wf_recur.specs.Cycles.{OnSeen, on_of, AreCyclesOf}
use Rattle.wf_recur.specs.Rounds.{AreRoundsBelow, rounds_in, stands_in}
use Rattle.wf_recur.proofs.Numbering.{rounds_first, rounds_done}
use Rattle.wf_recur.proofs.Opening.{none_replicated}
use Rattle.wf_recur.proofs.rounds.rounds.Goals as goal

pub loop-m-init : goal.loop-m-init
loop-m-init c =
    let g = c.args.g.now.core in
    let on = c.in_ok-on.on.items in
    let n = length c.args.steps.now in
    let none = c.in_ok-on.ensures.items_if_clones_equal (λ y e. search rules) in
    subst (λ l. AreRoundsBelow g 0 l (stands_in on)) (sym (ap rounds_in c.new-rounds.ensures.items))
    (rounds_first g (stands_in on) (length-map on (option_map on_of) ∙ (ap length none ∙ (length-replicate n _ ∙ c.requires.one_each))) (none_replicated on n none))

pub returns : goal.returns
returns c =
    let g = c.args.g.now.core in
    let e = ap length c.modules-m-end.ensures.modules in
    let rounds = rounds_in c.loop-m.rounds.items in
    let on = stands_in c.loop-m.on.items in
    subst (λ (l : List (Option OnSeen)). AreCyclesOf g (record { rounds = c.of_tables.result.rounds; on = l })) (sym c.of_tables.ensures.on)
    (subst (λ r. AreCyclesOf g (record { rounds = r; on = on })) (sym c.of_tables.ensures.rounds)
    (rounds_done g c.modules-m-end.ensures.formed c.loop-m.m rounds on (omega arith) c.loop-m.invariant))
