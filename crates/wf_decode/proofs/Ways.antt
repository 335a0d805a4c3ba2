-- Ways on from where two addresses part.
use Rattle.std.proofs.Common.{◌≡◌, ◌≢◌, ℕ, ◌-◌, false, List, [], ◌∷◌, ◌++◌, length, take, drop, refl, sym, ap, ◌∙◌, subst}
use Rattle.std.proofs.Math.Seq.{take-length}
use Rattle.std.proofs.lemmas.List.{length-drop}
use Rattle.wf_model.specs.View.{View, IsSeenModule, at_start}
use Rattle.wf_model.specs.Reach.{Step, target_of, module_along}
use Rattle.wf_model.specs.Routes.{Agree}
use Rattle.wf_model.specs.OpenRoutes.{IsOpenStep, IsOpenRoute}
use Rattle.decode_model.proofs.Rounds.{module_along-append}
use Rattle.wf_model.proofs.OpenRoutes.{route_seen, open_split}
use Rattle.decode_model.proofs.SeenLegs.{legs_seen}
use Rattle.verdict_model.proofs.Clashing.{agree_nil}
use Rattle.wf_vlabel.specs.Seen.{ViewLabelSeen, IsLabelOfView, IsViewLabel, Sees}
use Rattle.wf_decode.specs.declared.leg.Leg.{Leg as LegHeld}
use Rattle.wf_decode.specs.HeldLegs.{held_steps, legs_of}
use Rattle.wf_decode.specs.Parting.{AreLeftFrom, AreAcross}
use Rattle.wf_decode.specs.Ends.{AreLegsAt}
use Rattle.wf_decode.specs.Products.{IsWay, AreWaysApart}
use Rattle.wf_decode.specs.Answers.{AreEnds}
use Rattle.wf_decode.proofs.LegsHeld.{legs_held}
use Rattle.wf_decode.proofs.CommonSteps.{all_left}

-- the module to which a way leads is seen
pub way_sees : (l : ViewLabelSeen) (u : View) (k : ℕ) (legs : List LegHeld) (m : ℕ) → IsLabelOfView l u → IsWay l u k legs m → Sees l m
way_sees l u k legs m of w = (u, of, subst (IsSeenModule l.grammar u) w.leads (legs_seen l.grammar u k (legs_of l legs) w.seen w.gone))

-- what a slice from a place on has
pub rest_is : {A : Type 0} (n : ℕ) (xs : List A) → take (length xs - n) (drop n xs) ≡ drop n xs
rest_is n xs = ap (λ z. take z (drop n xs)) (sym (length-drop n xs)) ∙ take-length (drop n xs)

-- addresses agree that part by steps to different positions of one body
pub agree_apart : (common : List Step) (s t : Step) (a b : List Step) → s.production ≡ t.production → s.position ≢ t.position → Agree (common ++ s ∷ a) (common ++ t ∷ b)
agree_apart [] s t a b body apart = (body, λ e. absurd (apart e))
agree_apart (w ∷ common) s t a b body apart = (refl, λ e. agree_apart common s t a b body apart)

-- and so do an address and one that goes on from it
pub agree_on : (a b : List Step) → Agree a (a ++ b)
agree_on [] b = tt
agree_on (s ∷ a) b = (refl, λ e. agree_on a b)

pub agree_off : (a b : List Step) → Agree (a ++ b) a
agree_off [] b = agree_nil b
agree_off (s ∷ a) b = (refl, λ e. agree_off a b)

module _ (l : ViewLabelSeen) (is : IsViewLabel l) (u : View) (of : IsLabelOfView l u) where
  -- what is left of the legs of an address is a way on, and the steps before it are open
  pub way_left : (a gone : List Step) (m n : ℕ) (legs later : List LegHeld) → AreLegsAt l u a m legs → AreLeftFrom l legs gone n later →
      IsWay l u (module_along l.grammar l.grammar.start gone) (drop n later) m × IsOpenRoute l.grammar u l.grammar.start gone
  way_left a gone m n legs later at left =
      let g = l.grammar in
      let rest = held_steps l (drop n later) in
      let all : a ≡ gone ++ rest = sym at.steps ∙ left.steps in
      let parts = open_split g u g.start gone rest (subst (IsOpenRoute g u g.start) all at.open_route) in
      let seen = route_seen g u g.start gone (at_start refl) parts.0 in (
        record {
          held = left.held;
          gone = legs_held l is u of (module_along g g.start gone) false (drop n later) left.held seen parts.1;
          seen = seen;
          leads = sym (module_along-append g g.start gone rest) ∙ (ap (module_along g g.start) (sym all) ∙ sym at.module_is);
        },
        parts.0,
      )

  -- the legs of an address are a way from the root
  pub way_all : (a : List Step) (m : ℕ) (legs : List LegHeld) → AreLegsAt l u a m legs → IsWay l u l.grammar.start legs m
  way_all a m legs at = (way_left a [] m 0 legs legs at (all_left l legs at.held)).0

  -- after a last step
  way_after : (a common : List Step) (s : Step) (m n : ℕ) (legs later : List LegHeld) → AreLegsAt l u a m legs → AreLeftFrom l legs (common ++ s ∷ []) n later → IsOpenStep l.grammar u s × IsWay l u (target_of l.grammar s) (drop n later) m
  way_after a common s m n legs later at left =
      let g = l.grammar in
      let w = way_left a (common ++ s ∷ []) m n legs later at left in
      ((open_split g u g.start common (s ∷ []) w.1).1.0, subst (λ z. IsWay l u z (drop n later) m) (module_along-append g g.start common (s ∷ [])) w.0)

  pub ways_apart : (a b : List Step) (x x' : List LegHeld) (m i : ℕ) (y y' : List LegHeld) (n o : ℕ) (s t : Step) (p q : ℕ) → AreEnds l u a b x m i y n o → AreAcross l x y s t p q x' y' →
      AreWaysApart l u s t (drop p x') (drop q y') m n
  ways_apart a b x x' m i y y' n o s t p q ends r =
      let v = way_after a r.common s m p x x' ends.first r.first in
      let w = way_after b r.common t n q y y' ends.second r.second in
      record { first_open = v.0; second_open = w.0; body = r.body; first = v.1; second = w.1 }
