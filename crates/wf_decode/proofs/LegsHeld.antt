-- Where the steps of held legs are open, the legs can be gone, and none of them is longer than a cycle.
use Rattle.std.proofs.Common.{◌≡◌, ℕ, ◌^◌, ◌<◌, ◌≤◌, IsTrue, Bool, true, false, not, cond, List, [], ◌∷◌, ◌++◌, length, take, refl, sym, ap, ◌∙◌, subst, ⊎_elim, arith, true≢false}
use Rattle.std.proofs.lemmas.Bool.{cases_Bool, cases_lt}
use Rattle.std.proofs.lemmas.List.{length-take-le}
use Rattle.wf_model.specs.Lists.{IsIn, some}
use Rattle.wf_model.specs.View.{View, expands, IsSeenModule}
use Rattle.wf_model.specs.Reach.{target_of, module_along}
use Rattle.wf_model.proofs.Lists.{some_from, some_gives}
use Rattle.wf_recur.specs.Cycles.{round_at, step_of}
use Rattle.wf_model.specs.OpenRoutes.{IsOpenRoute}
use Rattle.decode_model.specs.Matrices.{IsOnceRound}
use Rattle.decode_model.specs.Rounds.{IsRound}
use Rattle.decode_model.specs.Legs.{Leg, Part, leg_steps, IsLeg, AreLegs}
use Rattle.decode_model.specs.Costs.{IsShortLeg, AreShort}
use Rattle.decode_model.proofs.Rounds.{continuing_take, continuing_same}
use Rattle.decode_model.proofs.ChainLegs.{chain_leg_law}
use Rattle.wf_model.proofs.OpenRoutes.{open_take, step_seen, route_seen, open_split}
use Rattle.wf_recur.specs.declared.table.CycleNo.{CycleNo}
use Rattle.wf_vlabel.specs.Seen.{ViewLabelSeen, IsLabelOfView, IsViewLabel, is_expanded}
use Rattle.wf_decode.specs.declared.leg.Leg.{Leg as LegHeld}
use Rattle.wf_decode.specs.declared.leg.Leg.TheVariants.{Into as IntoHeld, Chain as ChainHeld}
use Rattle.wf_decode.specs.HeldLegs.{module_on, round_from, chain_from, is_whole, legs_of, held_steps, StandsOn, AreHeld}
use Rattle.wf_decode.proofs.CycleRounds.{whole_round, round_whole}
use Rattle.wf_decode.proofs.ChainSteps.{length-round}
use Rattle.wf_decode.proofs.HeldRounds.{gone_round}

-- a chain that is gone step by step has the steps of the chain
pub either_steps : (b : Bool) (m : ℕ) (x : Leg) → leg_steps (cond b x (Part m (leg_steps x))) ≡ leg_steps x
either_steps true m x = refl
either_steps false m x = refl

module _ (l : ViewLabelSeen) (is : IsViewLabel l) where
  -- the steps once round from a place
  pub held_round : (m k j : ℕ) → StandsOn l m k j → IsRound l.grammar m (round_from l.cycles k j)
  held_round m k j s = subst (λ z. IsRound l.grammar z (round_from l.cycles k j)) s.is (gone_round l.grammar l.cycles is.formed is.linear is.cycles_are k j s.cycle s.place)

  length-held : (m k j : ℕ) → StandsOn l m k j → length (round_from l.cycles k j) ≡ length (round_at l.cycles k)
  length-held m k j s = length-round l.cycles k j s.place

  pub held_some : (m k j : ℕ) → StandsOn l m k j → 0 < length (round_from l.cycles k j)
  held_some m k j s = let e = length-held m k j s in let p = s.place in omega arith

  module _ (u : View) (of : IsLabelOfView l u) where
    whole_expands : (k : ℕ) → is_whole l k ≡ true → (x : ℕ) → IsIn x (round_at l.cycles k) → IsTrue (expands u x)
    whole_expands k w x i = ⊎_elim
        (λ e. of.expanded x ∙ e)
        (λ e. absurd (true≢false (sym w ∙ ap not (some_from (λ m. not (is_expanded l m)) x (round_at l.cycles k) i (ap not e)))))
        (cases_Bool (is_expanded l x))

    expands_whole : (k : ℕ) → ((x : ℕ) → IsIn x (round_at l.cycles k) → IsTrue (expands u x)) → is_whole l k ≡ true
    expands_whole k all = ⊎_elim
        (λ e. let r = some_gives (λ m. not (is_expanded l m)) (round_at l.cycles k) e in
        absurd (true≢false (sym r.2 ∙ ap not (sym (of.expanded r.0) ∙ all r.0 r.1))))
        (λ e. ap not e)
        (cases_Bool (some (λ m. not (is_expanded l m)) (round_at l.cycles k)))

    module _ (m k j n : ℕ) (s : StandsOn l m k j) where
      -- a chain of a cycle that is expanded whole can be gone by rounds, and another step by step
      chain_is_leg : n < 2 ^ 24 → IsSeenModule l.grammar u m → (b : Bool) → is_whole l k ≡ b → IsOpenRoute l.grammar u m (leg_steps (chain_from l.cycles k j n)) →
          IsLeg l.grammar u m (cond b (chain_from l.cycles k j n) (Part (module_on l.cycles k j) (leg_steps (chain_from l.cycles k j n))))
      chain_is_leg few seen true w o =
          let round = whole_round l.grammar l.cycles is.formed is.linear is.cycles_are k s.cycle j s.place u (subst (IsSeenModule l.grammar u) (sym s.is) seen) (whole_expands k w) in
          (s.is, subst (λ z. IsOnceRound l.grammar u z (round_from l.cycles k j)) s.is round, few)
      chain_is_leg few seen false w o = (s.is, o)

      -- of a cycle that is not expanded whole fewer steps are open than the cycle has
      part_short : is_whole l k ≡ false → IsOpenRoute l.grammar u m (leg_steps (chain_from l.cycles k j n)) → length (leg_steps (chain_from l.cycles k j n)) < length (round_at l.cycles k)
      part_short w o = ⊎_elim (λ h. h) (λ h. absurd (true≢false (sym (expands_whole k (whole h)) ∙ w))) (cases_lt (length (leg_steps (chain_from l.cycles k j n))) (length (round_at l.cycles k)))
        where
          whole : length (round_at l.cycles k) ≤ length (leg_steps (chain_from l.cycles k j n)) → (x : ℕ) → IsIn x (round_at l.cycles k) → IsTrue (expands u x)
          whole h =
              let g = l.grammar in
              let steps = leg_steps (chain_from l.cycles k j n) in
              let round = round_from l.cycles k j in
              let r = held_round m k j s in
              let e = length-held m k j s in
              let cut : length (take (length round) steps) ≡ length round = length-take-le (length round) steps (omega arith) in
              let c = (chain_leg_law g m n round r (held_some m k j s)).continuing in
              let same = continuing_same g is.linear m (take (length round) steps) round (continuing_take g m (length round) steps c) r.continuing cut in
              let open_round = subst (IsOpenRoute g u m) same (open_take g u m (length round) steps o) in
              round_whole g l.cycles is.formed is.linear is.cycles_are k s.cycle j s.place u (subst (λ z. IsOpenRoute g u z round) (sym s.is) open_round)

      chain_short : (most : ℕ) → length (round_at l.cycles k) ≤ most → (b : Bool) → is_whole l k ≡ b → IsOpenRoute l.grammar u m (leg_steps (chain_from l.cycles k j n)) →
          IsShortLeg most (cond b (chain_from l.cycles k j n) (Part (module_on l.cycles k j) (leg_steps (chain_from l.cycles k j n))))
      chain_short most h true w o = let e = length-held m k j s in (held_some m k j s, omega arith)
      chain_short most h false w o = let e = part_short w o in omega arith

    module _ (k : CycleNo) (j n : ℕ) (legs : List LegHeld) where
      -- the steps of a chain, and those after it
      chain_split : (m : ℕ) → IsOpenRoute l.grammar u m (held_steps l (ChainHeld k j n ∷ legs)) →
          IsOpenRoute l.grammar u m (leg_steps (chain_from l.cycles k.0 j n)) × IsOpenRoute l.grammar u (module_along l.grammar m (leg_steps (chain_from l.cycles k.0 j n))) (held_steps l legs)
      chain_split m o =
          let chain = chain_from l.cycles k.0 j n in
          let same = either_steps (is_whole l k.0) (module_on l.cycles k.0 j) chain in
          open_split l.grammar u m (leg_steps chain) (held_steps l legs) (subst (λ z. IsOpenRoute l.grammar u m (z ++ held_steps l legs)) same o)

    -- legs whose steps are open can be gone from a seen module
    pub legs_held : (m : ℕ) (told : Bool) (legs : List LegHeld) → AreHeld l m told legs → IsSeenModule l.grammar u m → IsOpenRoute l.grammar u m (held_steps l legs) → AreLegs l.grammar u m (legs_of l legs)
    legs_held m told [] h seen o = tt
    legs_held m told (IntoHeld s ∷ legs) h seen o = ((o.0, o.1), legs_held (target_of l.grammar (step_of s)) false legs h.3 (step_seen l.grammar u (step_of s) o.0) o.2)
    legs_held m told (ChainHeld k j n ∷ legs) h seen o =
        let chain = chain_from l.cycles k.0 j n in
        let same = either_steps (is_whole l k.0) (module_on l.cycles k.0 j) chain in
        let parts = chain_split k j n legs m o in
        let later = legs_held (module_along l.grammar m (leg_steps chain)) true legs h.3 (route_seen l.grammar u m (leg_steps chain) seen parts.0) parts.1 in (
          chain_is_leg m k.0 j n h.1 h.2 seen (is_whole l k.0) refl parts.0,
          subst (λ z. AreLegs l.grammar u (module_along l.grammar m z) (legs_of l legs)) (sym same) later,
        )

    -- and none of them has more steps than the longest cycle
    pub short_held : (most : ℕ) → ((k : ℕ) → length (round_at l.cycles k) ≤ most) → (m : ℕ) (told : Bool) (legs : List LegHeld) → AreHeld l m told legs → IsOpenRoute l.grammar u m (held_steps l legs) → AreShort most (legs_of l legs)
    short_held most few m told [] h o = tt
    short_held most few m told (IntoHeld s ∷ legs) h o = (tt, short_held most few (target_of l.grammar (step_of s)) false legs h.3 o.2)
    short_held most few m told (ChainHeld k j n ∷ legs) h o =
        let chain = chain_from l.cycles k.0 j n in
        let parts = chain_split k j n legs m o in
        (chain_short m k.0 j n h.1 most (few k.0) (is_whole l k.0) refl parts.0, short_held most few (module_along l.grammar m (leg_steps chain)) true legs h.3 parts.1)
