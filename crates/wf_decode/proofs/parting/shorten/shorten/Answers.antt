use Rattle.std.proofs.Common.{◌+◌, ◌-◌, ◌%◌, ◌<◌, false, ◌∷◌, drop, slice_set, sym, ap, ◌∙◌, subst, arith}
use Rattle.std.specs.Prelude.{option_map}
use Rattle.std.proofs.lemmas.List.{drop-set}
use Rattle.wf_recur.specs.Cycles.{on_of, step_of}
use Rattle.wf_decode.specs.declared.leg.Leg.TheVariants.{Chain}
use Rattle.wf_decode.specs.HeldLegs.{AreHeld, StandsOn}
use Rattle.wf_decode.specs.LegsAfter.{AreLeftAfter, HasChain}
use Rattle.wf_decode.proofs.LegsLeft.{chain_shortened, drop_at}
use Rattle.wf_decode.proofs.PlacesRead.{place_read, stands_held, length_read, read_below, read_told, read_step}
use Rattle.wf_decode.proofs.parting.shorten.shorten.Goals as goal
use Rattle.wf_decode.proofs.parting.shorten.shorten.Goals.{After-at}

-- where the chain stands
stands : (c : After-at) → StandsOn c.args.vl.now c.requires.held.0 c.in-Chain.cycle.0 c.in-Chain.place
stands c = stands_held c.args.vl.now c.args.legs.now c.args.at _ c.in-Chain.cycle c.in-Chain.place c.in-Chain.many c.requires.at c.in-Chain.is c.requires.held

pub on-requires : goal.on-requires
on-requires c =
    let s = stands c in
    read_below c.args.vl.now c.cycles-cycles.ensures.label c.cycles-cycles.result.now c.cycles-cycles.ensures.cycles c.in-Chain.cycle.0 c.in-Chain.place c.args.count c.length-length.result c.at.result.0
    s.cycle s.place c.length-length.ensures (place_read c.cycles-cycles.result.now c.in-Chain.cycle.0 c.turns-turned.result.1 _ c.at.result.0 c.turns-turned.ensures.rest c.at.ensures)

pub unreachable-requires-in_default-on : goal.unreachable-requires-in_default-on
unreachable-requires-in_default-on c =
    let s = stands ((goal.at.unreachable-requires-in_default-on c).After-at) in
    read_told c.args.vl.now c.cycles-cycles.ensures.label c.cycles-cycles.result.now c.cycles-cycles.ensures.cycles c.in-Chain.cycle.0 c.in-Chain.place c.args.count c.length-length.result c.at.result.0
    s.cycle s.place c.length-length.ensures (place_read c.cycles-cycles.result.now c.in-Chain.cycle.0 c.turns-turned.result.1 _ c.at.result.0 c.turns-turned.ensures.rest c.at.ensures) (sym c.on.ensures ∙ ap (option_map on_of) c.in_default-on.is)

pub returns-clause-left : goal.returns-clause-left
returns-clause-left c m h =
    let l = c.args.vl.now in
    let legs = c.args.legs.now in
    let at = c.args.at in
    let count = c.args.count in
    let k = c.in-Chain.cycle in
    let j = c.in-Chain.place in
    let many = c.in-Chain.many in
    let length = c.length-length.result in
    let here = (j + count) % length in
    let next = c.next_place-next.result in
    let there = place_read c.cycles-cycles.result.now k.0 c.turns-turned.result.1 here c.at.result.0 c.turns-turned.ensures.rest c.at.ensures in
    let rest = drop (at + 1) legs in
    let table = c.cycles-cycles.result.now in
    let same = c.cycles-cycles.ensures.cycles in
    let s = stands ((goal.at.returns-clause-left c).After-at) in
    let first = drop_at legs at _ (Chain k j many) c.requires.at c.in-Chain.is in
    let more : count < many = subst (HasChain count) first c.requires.longer in
    let read = length_read l c.cycles-cycles.ensures.label table same k.0 j count length c.at.result.0 s.cycle s.place c.length-length.ensures there in
    let step = read_step l c.cycles-cycles.ensures.label table same k.0 j count length c.at.result.0 s.cycle s.place c.length-length.ensures there (on_of c.in-Some.on) (sym c.in-Some.ensures) in
    let left = chain_shortened l c.cycles-cycles.ensures.label m k j many count (many - count - 1) here next rest (subst (AreHeld l m false) first h) (omega arith) (ap (λ z. (j + count) % z) read) (c.next_place-next.ensures ∙ (ap (λ z. (z + 1) % length) c.turns-turned.ensures.rest ∙ ap (λ z. (here + 1) % z) read)) in
    subst (λ z. AreLeftAfter l m z count (step_of c.in-Some.on.step) (drop at (slice_set legs at (Chain k next (many - count - 1))))) (sym first)
    (subst (λ z. AreLeftAfter l m (Chain k j many ∷ rest) count (step_of c.in-Some.on.step) z) (sym (drop-set legs at (Chain k next (many - count - 1)) c.requires.at))
    (subst (λ z. AreLeftAfter l m (Chain k j many ∷ rest) count z (Chain k next (many - count - 1) ∷ rest)) step left))
