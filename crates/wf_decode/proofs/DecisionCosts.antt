-- How many row products an answer takes.
use Rattle.std.proofs.Common.{◌≡◌, ℕ, ◌+◌, ◌*◌, ◌≤◌, false, List, [], ◌∷◌, ◌++◌, length, drop, refl, sym, ap, subst, arith, length-append}
use Rattle.wf_model.specs.View.{View}
use Rattle.wf_model.specs.Reach.{Step}
use Rattle.wf_recur.specs.Cycles.{round_at}
use Rattle.label_model.specs.Bound.{components, cycles}
use Rattle.wf_model.specs.OpenRoutes.{IsOpenRoute}
use Rattle.decode_model.specs.Legs.{Leg, way_up, way_down, crossing}
use Rattle.decode_model.specs.Costs.{AreShort, IsLeft, all}
use Rattle.decode_model.specs.Counts.{IsLegsOfPlace, most_products}
use Rattle.decode_model.proofs.QueryCosts.{products_law}
use Rattle.wf_vlabel.specs.Seen.{ViewLabelSeen, IsLabelOfView, IsViewLabel, matrices_of}
use Rattle.wf_decode.specs.declared.leg.Leg.{Leg as LegHeld}
use Rattle.wf_decode.specs.HeldLegs.{held_steps, legs_of}
use Rattle.wf_decode.specs.Parting.{AreLeftFrom, AreAcross}
use Rattle.wf_decode.specs.Ends.{AreLegsAt}
use Rattle.wf_decode.specs.Answers.{AreEnds}
use Rattle.wf_decode.proofs.CommonSteps.{all_left}
use Rattle.wf_decode.proofs.LegsHeld.{short_held}
use Rattle.wf_decode.proofs.PlaceLegs.{place_held}

-- of no legs nothing is left
none_left : (rest : List Leg) → IsLeft rest [] → rest ≡ []
none_left _ all = refl

module _ (l : ViewLabelSeen) (is : IsViewLabel l) (u : View) (of : IsLabelOfView l u) (most : ℕ) (few : (k : ℕ) → length (round_at l.cycles k) ≤ most) where
  legs_short : (a : List Step) (m : ℕ) (legs : List LegHeld) → AreLegsAt l u a m legs → AreShort most (legs_of l legs)
  legs_short a m legs at = short_held l is u of most few l.grammar.start false legs at.held (subst (IsOpenRoute l.grammar u l.grammar.start) (sym at.steps) at.open_route)

  -- legs that have a last step are those of a place
  legs_place : (a common rest : List Step) (s : Step) (m : ℕ) (legs : List LegHeld) → AreLegsAt l u a m legs → held_steps l legs ≡ (common ++ s ∷ []) ++ rest → IsLegsOfPlace l.grammar l.grammar.start (legs_of l legs)
  legs_place a common rest s m [] at e =
      let n : length (held_steps l []) ≡ length ((common ++ s ∷ []) ++ rest) = ap length e in
      let j = length-append (common ++ s ∷ []) rest in
      let k = length-append common (s ∷ []) in
      absurd (omega arith)
  legs_place a common rest s m (x ∷ legs) at e = place_held l is l.grammar.start x legs at.held

  pub across_cost : (a b : List Step) (x x' : List LegHeld) (m i : ℕ) (y y' : List LegHeld) (n o : ℕ) (s t : Step) (p q : ℕ) → AreEnds l u a b x m i y n o → AreAcross l x y s t p q x' y' →
      length (crossing l.grammar (matrices_of l) s (legs_of l (drop p x')) t (legs_of l (drop q y'))) ≤ most_products l.grammar most
  across_cost a b x x' m i y y' n o s t p q ends r =
      (products_law l.grammar is.formed (matrices_of l) most l.grammar.start).across (legs_of l x) (legs_of l y) (legs_of l (drop p x')) (legs_of l (drop q y')) s t
      (legs_place a r.common (held_steps l (drop p x')) s m x ends.first r.first.steps) (legs_place b r.common (held_steps l (drop q y')) t n y ends.second r.second.steps)
      (legs_short a m x ends.first) (legs_short b n y ends.second) r.first.left r.second.left

  pub down_cost : (b gone : List Step) (y y' : List LegHeld) (n j : ℕ) → AreLegsAt l u b n y → AreLeftFrom l y gone j y' → length (way_down (matrices_of l) (legs_of l (drop j y')) ++ (matrices_of l).full n ∷ []) ≤ most_products l.grammar most
  down_cost b gone [] y' n j at left =
      let v = matrices_of l in
      let e : length (way_down v (legs_of l (drop j y')) ++ v.full n ∷ []) ≡ 1 = ap (λ z. length (way_down v z ++ v.full n ∷ [])) (none_left (legs_of l (drop j y')) left.left) in
      let least = some (components l.grammar) (cycles l.grammar) most in
      omega arith
    where
      some : (h q k : ℕ) → 2 ≤ 2 * (h + 1) + 2 * q * (24 + k)
      some h q k = grind arith
  down_cost b gone (x ∷ y) y' n j at left =
      (products_law l.grammar is.formed (matrices_of l) most l.grammar.start).down (legs_of l (x ∷ y)) (legs_of l (drop j y')) n (place_held l is l.grammar.start x y at.held) (legs_short b n (x ∷ y) at) left.left

  pub up_cost : (a gone : List Step) (x x' : List LegHeld) (m j : ℕ) → AreLegsAt l u a m x → AreLeftFrom l x gone j x' → length (way_up (matrices_of l) (legs_of l (drop j x'))) ≤ most_products l.grammar most
  up_cost a gone [] x' m j at left =
      let v = matrices_of l in
      let e : length (way_up v (legs_of l (drop j x'))) ≡ 0 = ap (λ z. length (way_up v z)) (none_left (legs_of l (drop j x')) left.left) in
      omega arith
  up_cost a gone (y ∷ x) x' m j at left =
      (products_law l.grammar is.formed (matrices_of l) most l.grammar.start).up (legs_of l (y ∷ x)) (legs_of l (drop j x')) (place_held l is l.grammar.start y x at.held) (legs_short a m (y ∷ x) at) left.left

  -- the ways of whole addresses
  pub whole_up_cost : (a : List Step) (m : ℕ) (legs : List LegHeld) → AreLegsAt l u a m legs → length (way_up (matrices_of l) (legs_of l legs)) ≤ most_products l.grammar most
  whole_up_cost a m legs at = up_cost a [] legs legs m 0 at (all_left l legs at.held)

  pub whole_down_cost : (a : List Step) (m : ℕ) (legs : List LegHeld) → AreLegsAt l u a m legs → length (way_down (matrices_of l) (legs_of l legs)) ≤ most_products l.grammar most
  whole_down_cost a m legs at =
      let v = matrices_of l in
      let c = down_cost a [] legs legs m 0 at (all_left l legs at.held) in
      let many = length-append (way_down v (legs_of l legs)) (v.full m ∷ []) in
      omega arith
