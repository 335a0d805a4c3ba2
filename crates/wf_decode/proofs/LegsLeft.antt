-- What is left of legs after continuing steps and one step more.
use Rattle.std.proofs.Common.{◌≡◌, ℕ, ◌+◌, ◌%◌, ◌<◌, ◌≤◌, Bool, true, false, cond, List, [], ◌∷◌, ◌++◌, length, get_or, drop, Some, refl, sym, ap, ◌∙◌, subst, arith, append_assoc, true≢false}
use Rattle.label_model.specs.Continuing.{continuing}
use Rattle.std.proofs.lemmas.List.{drop_more}
use Rattle.wf_model.specs.declared.body.Step.{Step as StepHeld}
use Rattle.wf_model.specs.Reach.{Step, target_of, module_along}
use Rattle.wf_recur.specs.declared.table.CycleNo.{CycleNo}
use Rattle.wf_recur.specs.Cycles.{round_at, step_of}
use Rattle.decode_model.specs.Rounds.{AreContinuing}
use Rattle.decode_model.specs.Legs.{Leg, Chain, Part, leg_steps}
use Rattle.decode_model.specs.Costs.{IsLeft, all, later, of_chain, of_part}
use Rattle.decode_model.proofs.Rounds.{module_along-append}
use Rattle.wf_vlabel.specs.Seen.{ViewLabelSeen, IsViewLabel}
use Rattle.wf_decode.specs.declared.leg.Leg.{Leg as LegHeld}
use Rattle.wf_decode.specs.declared.leg.Leg.TheVariants.{Into as IntoHeld, Chain as ChainHeld}
use Rattle.wf_decode.specs.HeldLegs.{AreHeld, StandsOn, step_by, step_on, module_on, round_from, chain_from, is_whole, leg_of, legs_of, held_steps}
use Rattle.wf_decode.specs.LegsAfter.{AreLeftAfter}
use Rattle.wf_decode.proofs.CycleChains.{chain_continues, chain_split}
use Rattle.wf_decode.proofs.ChainSteps.{length-round, length-chain}
use Rattle.wf_recur.proofs.Places.{place_told, place_next}

-- what is left of what is left of a chain
chain_left : (a : List Leg) (m n c k : ℕ) (round turned : List Step) (legs : List Leg) → IsLeft a (Chain n turned k ∷ legs) → length turned ≡ length round → k ≤ c → IsLeft a (Chain m round c ∷ legs)
chain_left _ m n c k round turned legs all e f = of_chain e f
chain_left _ m n c k round turned legs (later y) e f = later y
chain_left _ m n c k round turned legs (of_chain e' f') e f = of_chain (e' ∙ e) (omega arith)

-- and of steps one by one
part_left : (a : List Leg) (m n : ℕ) (gone steps : List Step) (legs : List Leg) → IsLeft a (Part n steps ∷ legs) → IsLeft a (Part m (gone ++ steps) ∷ legs)
part_left _ m n gone steps legs all = of_part gone
part_left _ m n gone steps legs (later y) = later y
part_left _ m n gone _ legs (of_part {n = n'} {steps = rest} more) = subst (λ z. IsLeft (Part n' rest ∷ legs) (Part m z ∷ legs)) (append_assoc gone more rest) (of_part (gone ++ more))

-- what is left of what is left
pub left_left : (a b c : List Leg) → IsLeft a b → IsLeft b c → IsLeft a c
left_left a b c x all = x
left_left a b c x (later y) = later (left_left _ _ _ x y)
left_left a b c x (of_chain e k) = chain_left _ _ _ _ _ _ _ _ x e k
left_left a b c x (of_part gone) = part_left _ _ _ gone _ _ x

-- a leg that is a chain or goes its steps one by one has these steps
steps_if : (b : Bool) (p q : Leg) → leg_steps q ≡ leg_steps p → leg_steps (cond b p q) ≡ leg_steps p
steps_if true p q e = refl
steps_if false p q e = e

leg_steps-chain : (l : ViewLabelSeen) (k : CycleNo) (j n : ℕ) → leg_steps (leg_of l (ChainHeld k j n)) ≡ leg_steps (chain_from l.cycles k.0 j n)
leg_steps-chain l k j n = steps_if (is_whole l k.0) (chain_from l.cycles k.0 j n) (Part (module_on l.cycles k.0 j) (leg_steps (chain_from l.cycles k.0 j n))) refl

-- after a step
pub into_left : (l : ViewLabelSeen) (m : ℕ) (s : StepHeld) (legs : List LegHeld) → AreHeld l m false (IntoHeld s ∷ legs) → AreLeftAfter l m (IntoHeld s ∷ legs) 0 (step_of s) legs
into_left l m s legs h = record { chain = []; continuing = tt; many = refl; steps = refl; held = h.3; left = later all }

-- of a chain a chain is left, or of its steps one by one the later ones
left_if : (b : Bool) (m n c k : ℕ) (round turned gone rest steps : List Step) (legs : List Leg) → length turned ≡ length round → k ≤ c → steps ≡ gone ++ rest →
    IsLeft (cond b (Chain n turned k) (Part n rest) ∷ legs) (cond b (Chain m round c) (Part m steps) ∷ legs)
left_if true m n c k round turned gone rest steps legs e f is = of_chain e f
left_if false m n c k round turned gone rest steps legs e f is = subst (λ z. IsLeft (Part n rest ∷ legs) (Part m z ∷ legs)) (sym is) (of_part gone)

module _ (l : ViewLabelSeen) (label : IsViewLabel l) where
  -- the steps of a chain are as many continuing steps from its module
  continues : (m : ℕ) (k : CycleNo) (j n : ℕ) → StandsOn l m k.0 j → AreContinuing l.grammar m (leg_steps (chain_from l.cycles k.0 j n))
  continues m k j n h =
      subst (λ z. AreContinuing l.grammar z (leg_steps (chain_from l.cycles k.0 j n))) h.is
      (chain_continues l.grammar l.cycles label.formed label.linear label.cycles_are k.0 j n h.cycle h.place)

  many : (m : ℕ) (k : CycleNo) (j n : ℕ) → StandsOn l m k.0 j → length (leg_steps (chain_from l.cycles k.0 j n)) ≡ n
  many m k j n h = length-chain l.cycles k.0 j h.place n

  -- after a chain and a step
  pub chain_into_left : (m : ℕ) (k : CycleNo) (j n : ℕ) (s : StepHeld) (legs : List LegHeld) → AreHeld l m false (ChainHeld k j n ∷ (IntoHeld s ∷ legs)) →
      AreLeftAfter l m (ChainHeld k j n ∷ (IntoHeld s ∷ legs)) n (step_of s) legs
  chain_into_left m k j n s legs h =
      let steps = leg_steps (chain_from l.cycles k.0 j n) in
      record {
        chain = steps;
        continuing = continues m k j n h.1;
        many = many m k j n h.1;
        steps = ap (λ z. z ++ (step_of s ∷ held_steps l legs)) (leg_steps-chain l k j n);
        held = subst (λ z. AreHeld l z false legs) (sym (module_along-append l.grammar m steps (step_of s ∷ []))) h.3.3;
        left = later (later all);
      }

  -- after the beginning of a chain: n of its steps, and one more
  pub chain_shortened : (m : ℕ) (k : CycleNo) (j c n r q w : ℕ) (legs : List LegHeld) → AreHeld l m false (ChainHeld k j c ∷ legs) →
      c ≡ n + (1 + r) → q ≡ (j + n) % length (round_at l.cycles k.0) → w ≡ (q + 1) % length (round_at l.cycles k.0) →
      AreLeftAfter l m (ChainHeld k j c ∷ legs) n (step_on l.cycles (module_on l.cycles k.0 q)) (ChainHeld k w r ∷ legs)
  chain_shortened m k j c n r q w legs h count at next =
      let g = l.grammar in
      let t = l.cycles in
      let a = leg_steps (chain_from t k.0 j n) in
      let b = leg_steps (chain_from t k.0 w r) in
      let s = step_on t (module_on t k.0 q) in
      let stands = h.1 in
      let place = stands.place in
      let ql : q < length (round_at t k.0) = omega (arith, at) in
      let wl : w < length (round_at t k.0) = omega (arith, next) in
      let o = place_told g t label.formed label.linear label.cycles_are k.0 q stands.cycle ql in
      let told : continuing g (module_on t k.0 q) ≡ Some s = o.2 ∙ ap (λ z. Some (step_by z)) (sym o.1) in
      let to : target_of g s ≡ module_on t k.0 w = place_next g t label.formed label.linear label.cycles_are k.0 q s stands.cycle ql told ∙ ap (module_on t k.0) (sym next) in
      let split : leg_steps (chain_from t k.0 j c) ≡ a ++ s ∷ b =
      ap (λ z. leg_steps (chain_from t k.0 j z)) count ∙ chain_split g t label.formed label.linear label.cycles_are k.0 j n r q w stands.cycle stands.place at next in
      let few = h.2 in
      let led = ap (module_along g m) split ∙ module_along-append g m a (s ∷ b) in
      let held : AreHeld l (target_of g s) false (ChainHeld k w r ∷ legs) =
      (refl, record { cycle = stands.cycle; place = wl; is = sym to }, omega (arith, count), subst (λ z. AreHeld l z true legs) led h.3) in
      record {
        chain = a;
        continuing = continues m k j n stands;
        many = many m k j n stands;
        steps =
            ap (λ z. z ++ held_steps l legs) (leg_steps-chain l k j c ∙ split) ∙ append_assoc a (s ∷ b) (held_steps l legs)
            ∙ ap (λ z. a ++ s ∷ (z ++ held_steps l legs)) (sym (leg_steps-chain l k w r));
        held = subst (λ z. AreHeld l z false (ChainHeld k w r ∷ legs)) (sym (module_along-append g m a (s ∷ []))) held;
        left = left_if (is_whole l k.0) (module_on t k.0 j) (module_on t k.0 w) c r (round_from t k.0 j) (round_from t k.0 w) (a ++ s ∷ []) b (leg_steps (chain_from t k.0 j c)) (legs_of l legs)
            (length-round t k.0 w wl ∙ sym (length-round t k.0 j place))
            (omega (arith, count)) (split ∙ sym (append_assoc a (s ∷ []) b));
      }

-- after a chain more legs are held
pub more_held : (l : ViewLabelSeen) (m : ℕ) (k : CycleNo) (j n : ℕ) (legs : List LegHeld) → AreHeld l m false (ChainHeld k j n ∷ legs) → 0 < length legs
more_held l m k j n [] h = absurd (true≢false h.3)
more_held l m k j n (leg ∷ legs) h = omega arith

-- the leg at a number, and those after it
pub drop_at : (legs : List LegHeld) (i : ℕ) (d leg : LegHeld) → i < length legs → get_or legs i d ≡ leg → drop i legs ≡ leg ∷ drop (i + 1) legs
drop_at legs i d leg l e = drop_more legs i d l ∙ ap (λ z. z ∷ drop (i + 1) legs) e
