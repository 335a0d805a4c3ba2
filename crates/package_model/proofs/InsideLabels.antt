-- A label that is read over a package with good loops is a label of the package's grammar.
use Rattle.std.proofs.Common.{◌≡◌, ◌≢◌, ℕ, ◌+◌, ◌^◌, ◌≤◌, Bool, true, false, cond, List, [], ◌∷◌, ◌++◌, length, Option, Some, None, refl, sym, ap, ◌∙◌, subst, arith, append_assoc, append-nil}
use Rattle.wf_model.specs.Grammar.{Grammar}
use Rattle.wf_model.specs.WellFormed.{IsWellFormed}
use Rattle.wf_model.specs.Reach.{Step, target_of, module_along}
use Rattle.wf_model.specs.Linear.{IsStepOf, IsLinear}
use Rattle.wf_model.specs.Routes.{IsRoute}
use Rattle.label_model.specs.Continuing.{continuing, continues}
use Rattle.label_model.specs.Labels.{PlaceStep, Place, Label, Input, Output, OfEdge, IsLabel}
use Rattle.label_model.specs.Places.{count_after}
use Rattle.label_model.proofs.ContinuingSteps.{continuing_is, continues_gives}
use Rattle.label_model.proofs.ValidPlaces.{AreSmall, passed_none, valid_small}
use Rattle.decode_model.proofs.Rounds.{module_along-append}
use Rattle.package_model.specs.Packages.{LoopEntry}
use Rattle.package_model.specs.Loops.{HasLoop, AreLoopsOf, AreGoodLoops}
use Rattle.package_model.specs.Translating.{Loops, AreLoopSteps, StandsFor, LeavesBy, LeadBy, IsReadAs, IsTranslatedTo}
use Rattle.package_model.specs.TranslationLaws.{InsideLabelLaw}
use Rattle.package_model.proofs.LoopSteps.{AreSteps, good_steps}

pub route_append : (g : Grammar) (m : ℕ) (a b : List Step) → IsRoute g m a → IsRoute g (module_along g m a) b → IsRoute g m (a ++ b)
route_append g m [] b x y = y
route_append g m (s ∷ a) b x y = (x.0, x.1, x.2, route_append g (target_of g s) a b x.3 y)

pub step_route : (g : Grammar) (m : ℕ) (s : Step) → IsStepOf g m s → IsRoute g m (s ∷ [])
step_route g m s x = (x.in_range, x.head, x.position, tt)

module _ (g : Grammar) (loop : Loops) (are : AreSteps g loop) where
  loops_route : (m : ℕ) (a : List Step) → AreLoopSteps g loop m a → IsRoute g m a
  loops_route m [] x = tt
  loops_route m (s ∷ a) x = let st = are m s x.0 in (st.in_range, st.head, st.position, loops_route (target_of g s) a x.1)

  stands_route : (m : ℕ) (c : Option ℕ) (a : List Step) → StandsFor g loop m c a → IsRoute g m a
  stands_route m None a x = subst (IsRoute g m) (sym x.1) tt
  stands_route m (Some c) a x = loops_route m a x.2

  leaves_route : (m : ℕ) (p : PlaceStep) (a : List Step) → LeavesBy g loop m p a → IsRoute g m a
  leaves_route m p a l = subst (IsRoute g m) (sym l.is) (route_append g m l.round (l.step ∷ []) (stands_route m p.chain l.round l.chain) (step_route g (module_along g m l.round) l.step l.of_it))

  lead_route : (ps : List PlaceStep) (m : ℕ) (a : List Step) → LeadBy g loop m ps a → IsRoute g m a
  lead_route [] m a x = subst (IsRoute g m) (sym x) tt
  lead_route (p ∷ ps) m a x = subst (IsRoute g m) (sym x.4) (route_append g m x.0 x.1 (leaves_route m p x.0 x.2) (lead_route ps (module_along g m x.0) x.1 x.3))

  pub read_route : (p : Place) (a : List Step) (q : ℕ) → IsReadAs g loop g.start p a q → IsRoute g g.start a
  read_route p a q r = subst (IsRoute g g.start) (sym r.is) (route_append g g.start r.led r.round (lead_route p.steps g.start r.led r.lead) (stands_route (module_along g g.start r.led) p.chain r.round r.chain))

-- the count after a step is one more at most
count_within : (g : Grammar) (m c : ℕ) (s : Step) → count_after g m c s ≤ c + 1
count_within g m c s = go (continues g m s)
  where
    go : (t : Bool) → cond t (c + 1) 0 ≤ c + 1
    go true = omega arith
    go false = omega arith

small_steps : (g : Grammar) (r : List Step) (m c : ℕ) (rest : List Step) → (c + length r) + 1 ≤ 2 ^ 24 → ((d : ℕ) → d ≤ c + length r → AreSmall g (module_along g m r) d rest) → AreSmall g m c (r ++ rest)
small_steps g [] m c rest h f = f c (omega arith)
small_steps g (s ∷ r) m c rest h f =
    let w = count_within g m c s in
    (omega arith, small_steps g r (target_of g s) (count_after g m c s) rest (omega (arith, h, w)) (λ d q. f d (omega (arith, q, w))))

module _ (g : Grammar) (entries : List LoopEntry) (loop : Loops) (linear : IsLinear g) (good : AreGoodLoops g entries) (are : AreLoopsOf g entries loop) where
  -- a continuing step is the loop step
  pub continues_loop : (m : ℕ) (s : Step) → continuing g m ≡ Some s → loop m ≡ Some s
  continues_loop m s e =
      let c = continuing_is g m s e in
      let q = good.cycles m (s, c) in
      (are m s).1 (subst (HasLoop g entries m) (linear m q.0 s q.2 c) q.1)

  -- after a step that is no loop step the count begins anew
  other_count : (m c : ℕ) (s : Step) → loop m ≢ Some s → count_after g m c s ≡ 0
  other_count m c s n = go (continues g m s) refl
    where
      go : (t : Bool) → continues g m s ≡ t → cond (continues g m s) (c + 1) 0 ≡ 0
      go true e = absurd (n (continues_loop m s (continues_gives g m s e)))
      go false e = ap (λ t. cond t (c + 1) 0) e

  stands_few : (m : ℕ) (c : Option ℕ) (a : List Step) → StandsFor g loop m c a → length a + 1 ≤ 2 ^ 24
  stands_few m None a x = omega (arith, ap length x.1)
  stands_few m (Some c) a x = omega (arith, x.1, x.3)

  -- along a reading each number of continuing steps is below 2^24
  lead_small : (ps : List PlaceStep) (m : ℕ) (a rest : List Step) → LeadBy g loop m ps a → AreSmall g (module_along g m a) 0 rest → AreSmall g m 0 (a ++ rest)
  lead_small [] m a rest x small = subst (λ z. AreSmall g m 0 (z ++ rest)) (sym x) (subst (λ z. AreSmall g (module_along g m z) 0 rest) x small)
  lead_small (p ∷ ps) m a rest x small =
      let l = x.2 in
      let b = x.0 in
      let c = x.1 in
      let to : module_along g m b ≡ target_of g l.step = ap (module_along g m) l.is ∙ module_along-append g m l.round (l.step ∷ []) in
      let ih : AreSmall g (module_along g m b) 0 (c ++ rest) = lead_small ps (module_along g m b) c rest x.3 (subst (λ z. AreSmall g z 0 rest) (ap (module_along g m) x.4 ∙ module_along-append g m b c) small) in
      let few = stands_few m p.chain l.round l.chain in
      let spread : a ++ rest ≡ l.round ++ l.step ∷ (c ++ rest) =
      ap (λ z. z ++ rest) (x.4 ∙ ap (λ z. z ++ c) l.is) ∙ (ap (λ z. z ++ rest) (append_assoc l.round (l.step ∷ []) c) ∙ append_assoc l.round (l.step ∷ c) rest) in
      subst (AreSmall g m 0) (sym spread)
      (small_steps g l.round m 0 (l.step ∷ (c ++ rest)) (omega (arith, few))
      (λ d q. (omega (arith, few, q), subst (λ z. AreSmall g (target_of g l.step) z (c ++ rest)) (sym (other_count (module_along g m l.round) d l.step l.leaves)) (subst (λ z. AreSmall g z 0 (c ++ rest)) to ih))))

  inside_label : IsWellFormed g → (k l : Label) → IsTranslatedTo g loop k l → IsLabel g l
  inside_label wf (Input p) l t = subst (IsLabel g) (sym t.1) t.0
  inside_label wf (Output p) l t = subst (IsLabel g) (sym t.1) t.0
  inside_label wf (OfEdge p) l t =
      let a = t.0 in
      let q = t.1 in
      let r = t.2 in
      let steps = good_steps g entries loop good are in
      let few = stands_few (module_along g g.start r.led) p.chain r.round r.chain in
      let last : AreSmall g (module_along g g.start r.led) 0 r.round = subst (AreSmall g (module_along g g.start r.led) 0) (append-nil r.round)
      (small_steps g r.round (module_along g g.start r.led) 0 [] (omega (arith, few)) (λ d h. omega (arith, h, few))) in
      let small : AreSmall g g.start 0 a = subst (AreSmall g g.start 0) (sym r.is) (lead_small p.steps g.start r.led r.round r.lead last) in
      let route = read_route g loop steps p a q r in
      subst (IsLabel g) (sym t.3) (valid_small g wf a g.start 0 g.start q p.edge (passed_none g g.start) (record { route = route; of_it = r.of_it; edge = r.edge }) small)

pub inside_label_law : InsideLabelLaw
inside_label_law g entries loop wf linear good are bits l h = inside_label g entries loop linear good are wf h.read l h.translated
