use Rattle.std.proofs.Common.{◌≡◌, ◌+◌, ◌<◌, false, ◌∷◌, length, drop, sym, ap, ◌∙◌, subst, arith, length-drop}
use Rattle.wf_recur.specs.Cycles.{step_of}
use Rattle.wf_decode.specs.declared.leg.Leg.TheVariants.{Into, Chain}
use Rattle.wf_decode.specs.HeldLegs.{AreHeld}
use Rattle.wf_decode.specs.LegsAfter.{AreLeftAfter}
use Rattle.wf_decode.proofs.LegsLeft.{into_left, chain_into_left, more_held, drop_at}
use Rattle.wf_decode.proofs.parting.next_step.next_step.Goals as goal

pub returns-in-Into-clause-left : goal.returns-in-Into-clause-left
returns-in-Into-clause-left c m h =
    let l = c.args.vl.now in
    let legs = c.args.legs.now in
    let at = c.args.at in
    let s = c.in-Into.step in
    let e = drop_at legs at _ (Into s) c.requires.at c.in-Into.is in
    subst (λ z. AreLeftAfter l m z 0 (step_of s) (drop (at + 1) legs)) (sym e) (into_left l m s (drop (at + 1) legs) (subst (AreHeld l m false) e h))

pub returns-in-Into-legs-clause-left : goal.returns-in-Into-legs-clause-left
returns-in-Into-legs-clause-left c m h =
    let l = c.args.vl.now in
    let legs = c.args.legs.now in
    let at = c.args.at in
    let chain = Chain c.in-Chain.cycle c.in-Chain.place c.in-Chain.count in
    let s = c.in-Into-legs.step in
    let first = drop_at legs at _ chain c.requires.at c.in-Chain.is in
    let more = more_held l m c.in-Chain.cycle c.in-Chain.place c.in-Chain.count (drop (at + 1) legs) (subst (AreHeld l m false) first h) in
    let within : at + 1 < length legs = omega (arith, length-drop (at + 1) legs) in
    let second = drop_at legs (at + 1) _ (Into s) within c.in-Into-legs.is in
    let both : drop at legs ≡ chain ∷ (Into s ∷ drop (at + 2) legs) =
    first ∙ ap (λ z. chain ∷ z) second ∙ ap (λ n. chain ∷ (Into s ∷ drop n legs)) (let z : at + 1 + 1 ≡ at + 2 = omega arith in z) in
    subst (λ z. AreLeftAfter l m z c.in-Chain.count (step_of s) (drop (at + 2) legs)) (sym both)
    (chain_into_left l c.grammar-label.ensures.label m c.in-Chain.cycle c.in-Chain.place c.in-Chain.count s (drop (at + 2) legs) (subst (AreHeld l m false) both h))
