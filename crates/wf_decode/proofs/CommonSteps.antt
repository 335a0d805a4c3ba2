-- Two addresses with a common beginning, and the legs that are left of each after it.
use Rattle.std.proofs.Common.{◌≡◌, ◌≢◌, ℕ, ◌+◌, ◌-◌, ◌≤◌, false, List, [], ◌∷◌, ◌++◌, length, drop, refl, sym, ap, ◌∙◌, subst, arith, append_assoc, append-nil}
use Rattle.std.proofs.Math.ListN.{drop_of_length-le}
use Rattle.std.proofs.lemmas.List.{drop-drop}
use Rattle.wf_model.specs.Reach.{Step, module_along}
use Rattle.decode_model.specs.Costs.{all}
use Rattle.decode_model.proofs.Rounds.{continuing_same, module_along-append}
use Rattle.wf_vlabel.specs.Seen.{ViewLabelSeen, IsViewLabel}
use Rattle.wf_decode.specs.declared.leg.Leg.{Leg as LegHeld}
use Rattle.wf_decode.specs.HeldLegs.{AreHeld, held_steps}
use Rattle.wf_decode.specs.LegsAfter.{AreLeftAfter, AreLeftOfBoth}
use Rattle.wf_decode.specs.Parting.{AreClashingSteps, AreLeftFrom, AreAcross}
use Rattle.wf_decode.proofs.LegsLeft.{left_left}

-- after the same steps, the legs from i on are left of the first address, and those from j on of the second
pub record HaveCommon (l : ViewLabelSeen) (x y : List LegHeld) (i j : ℕ) (x' y' : List LegHeld) : Type 0 where
  pub common : List Step
  pub first : AreLeftFrom l x common i x'
  pub second : AreLeftFrom l y common j y'

-- the same after a step of each
pub record HaveCommonBefore (l : ViewLabelSeen) (x y : List LegHeld) (s t : Step) (i j : ℕ) (x' y' : List LegHeld) : Type 0 where
  pub common : List Step
  pub first : AreLeftFrom l x (common ++ s ∷ []) i x'
  pub second : AreLeftFrom l y (common ++ t ∷ []) j y'

-- of all legs all are left
pub all_left : (l : ViewLabelSeen) (x : List LegHeld) → AreHeld l l.grammar.start false x → AreLeftFrom l x [] 0 x
all_left l x h = record { within = omega arith; held = h; steps = refl; left = all; kept = refl }

-- at first all is left
pub common_none : (l : ViewLabelSeen) (x y : List LegHeld) → AreHeld l l.grammar.start false x → AreHeld l l.grammar.start false y → HaveCommon l x y 0 0 x y
common_none l x y h k = record { common = []; first = all_left l x h; second = all_left l y k }

-- lists that are alike from a number on are so from a later one
alike_later : {A : Type 0} (i i' : ℕ) (a b : List A) → i ≤ i' → drop i a ≡ drop i b → drop i' a ≡ drop i' b
alike_later i i' a b h e =
    let n : i + (i' - i) ≡ i' = omega arith in
    subst (λ z. drop z a ≡ drop z b) n (sym (drop-drop (i' - i) i a) ∙ (ap (drop (i' - i)) e ∙ drop-drop (i' - i) i b))

-- what is left after more steps
left_from : (l : ViewLabelSeen) (old x x' : List LegHeld) (gone more : List Step) (s : Step) (i i' n : ℕ) → AreLeftFrom l old gone i x →
    (a : AreLeftAfter l (module_along l.grammar l.grammar.start gone) (drop i x) n s (drop i' x')) → a.chain ≡ more → i' ≤ length x' → i ≤ i' → drop (i' + 1) x' ≡ drop (i' + 1) x → AreLeftFrom l old ((gone ++ more) ++ s ∷ []) i' x'
left_from l old x x' gone more s i i' n h a e within on kept =
    let rest = held_steps l (drop i' x') in
    let chain = a.chain in
    let led : module_along l.grammar l.grammar.start ((gone ++ chain) ++ s ∷ []) ≡ module_along l.grammar (module_along l.grammar l.grammar.start gone) (chain ++ s ∷ []) =
    ap (module_along l.grammar l.grammar.start) (append_assoc gone chain (s ∷ [])) ∙ module_along-append l.grammar l.grammar.start gone (chain ++ s ∷ []) in
    let steps : held_steps l old ≡ ((gone ++ chain) ++ s ∷ []) ++ rest =
    h.steps ∙ ap (λ z. gone ++ z) a.steps ∙ sym (append_assoc gone chain (s ∷ rest)) ∙ sym (append_assoc (gone ++ chain) (s ∷ []) rest) in
    subst (λ z. AreLeftFrom l old ((gone ++ z) ++ s ∷ []) i' x') e (record {
      within = within;
      held = subst (λ z. AreHeld l z false (drop i' x')) (sym led) a.held;
      steps = steps;
      left = left_left _ _ _ a.left h.left;
      kept = kept ∙ alike_later (i + 1) (i' + 1) x old (omega arith) h.kept;
    })

-- after as many continuing steps of each address, and these are the same, a step of each follows
pub common_before : (l : ViewLabelSeen) → IsViewLabel l → (x y : List LegHeld) (s t : Step) (i j i' j' : ℕ) (x0 y0 x' y' : List LegHeld) → (h : HaveCommon l x y i j x0 y0) →
    AreLeftOfBoth l (module_along l.grammar l.grammar.start h.common) (drop i x0) s (drop i' x') (drop j y0) t (drop j' y') → i' ≤ length x' → j' ≤ length y' →
    i ≤ i' → drop (i' + 1) x' ≡ drop (i' + 1) x0 → j ≤ j' → drop (j' + 1) y' ≡ drop (j' + 1) y0 → HaveCommonBefore l x y s t i' j' x' y'
common_before l label x y s t i j i' j' x0 y0 x' y' h both xi yj xo xk yo yk =
    let m = module_along l.grammar l.grammar.start h.common in
    let a = both.first in
    let b = both.second in
    let same = continuing_same l.grammar label.linear m b.chain a.chain b.continuing a.continuing (b.many ∙ sym a.many) in
    record {
      common = h.common ++ a.chain;
      first = left_from l x x0 x' h.common a.chain s i i' both.count h.first a refl xi xo xk;
      second = left_from l y y0 y' h.common a.chain t j j' both.count h.second b same yj yo yk;
    }

-- these steps are the same
pub common_more : (l : ViewLabelSeen) (x y : List LegHeld) (s t : Step) (i j : ℕ) (x' y' : List LegHeld) → HaveCommonBefore l x y s t i j x' y' → t ≡ s → HaveCommon l x y i j x' y'
common_more l x y s t i j x' y' h e = record { common = h.common ++ s ∷ []; first = h.first; second = subst (λ z. AreLeftFrom l y (h.common ++ z ∷ []) j y') e h.second }

-- they are to different positions of one body
pub across : (l : ViewLabelSeen) (x y : List LegHeld) (s t : Step) (i j : ℕ) (x' y' : List LegHeld) → HaveCommonBefore l x y s t i j x' y' → s.production ≡ t.production → s.position ≢ t.position → AreAcross l x y s t i j x' y'
across l x y s t i j x' y' h e n = record { common = h.common; body = e; apart = n; first = h.first; second = h.second }

-- they are by different productions
pub clash : (l : ViewLabelSeen) (x y : List LegHeld) (s t : Step) (i j : ℕ) (x' y' : List LegHeld) → HaveCommonBefore l x y s t i j x' y' → s.production ≢ t.production → AreClashingSteps (held_steps l x) (held_steps l y)
clash l x y s t i j x' y' h n = record {
  common = h.common;
  first = s;
  second = t;
  first_rest = held_steps l (drop i x');
  second_rest = held_steps l (drop j y');
  first_is = h.first.steps ∙ append_assoc h.common (s ∷ []) (held_steps l (drop i x'));
  second_is = h.second.steps ∙ append_assoc h.common (t ∷ []) (held_steps l (drop j y'));
  differ = n;
}

-- an address of which nothing is left has gone by these steps
ended : (l : ViewLabelSeen) (x x' : List LegHeld) (gone : List Step) (i : ℕ) → AreLeftFrom l x gone i x' → length x' ≤ i → gone ≡ held_steps l x
ended l x x' gone i h e = sym (h.steps ∙ ap (λ z. gone ++ held_steps l z) (drop_of_length-le x' e) ∙ append-nil gone)

-- the first address ends
pub down : (l : ViewLabelSeen) (x y : List LegHeld) (i j : ℕ) (x' y' : List LegHeld) → HaveCommon l x y i j x' y' → length x' ≤ i → AreLeftFrom l y (held_steps l x) j y'
down l x y i j x' y' h e = subst (λ z. AreLeftFrom l y z j y') (ended l x x' h.common i h.first e) h.second

-- the second address ends
pub up : (l : ViewLabelSeen) (x y : List LegHeld) (i j : ℕ) (x' y' : List LegHeld) → HaveCommon l x y i j x' y' → length y' ≤ j → AreLeftFrom l x (held_steps l y) i x'
up l x y i j x' y' h e = subst (λ z. AreLeftFrom l x z i x') (ended l y y' h.common j h.second e) h.first
