-- Lists of steps through expanded modules, and the routes of the modules to which they lead.
use Rattle.std.proofs.Common.{◌≡◌, ℕ, suc, ◌<◌, true, false, cond, List, [], ◌∷◌, map, length, refl, sym, ap, ◌∙◌, subst, inl, inr, ⊎_elim, arith}
use Rattle.std.proofs.lemmas.Bool.{cases_Bool, eqb-true}
use Rattle.std.proofs.lemmas.List.{length-map}
use Rattle.wf_model.specs.declared.body.Step.{Step as StepHeld}
use Rattle.wf_model.specs.Lists.{IsIn}
use Rattle.wf_model.specs.Steps.{step_of}
use Rattle.wf_model.specs.Grammar.{Grammar, head_of, body_of, IsProductionOf}
use Rattle.wf_model.specs.View.{View, expands, IsSeenModule}
use Rattle.wf_model.specs.Reach.{Step, target_of, module_along}
use Rattle.wf_model.specs.OpenRoutes.{IsOpenStep, IsOpenRoute}
use Rattle.wf_model.proofs.Lists.{in_map}
use Rattle.wf_model.proofs.Positions.{in_there}
use Rattle.label_model.proofs.Finding.{find_gives}
use Rattle.wf_graph.specs.Routes.{IsRoute, choices_of, IsFirstOf, IsFirstShortest}
use Rattle.wf_graph.proofs.Routes.{place_one}
use Rattle.compare_model.specs.Routes.{LeadsTo, IsEarlier, ComesFirst, IsFirstShortestRoute}
use Rattle.wf_compare.specs.declared.steps.Leading.{Leading}
use Rattle.wf_compare.specs.Steps.{leading_at, leadings_of, open_leadings, targets_of, leads_to, IsFirstStep, AreFirstSteps}
use Rattle.wf_compare.proofs.Ordered.{IsOrdered, first_or_later, first_before}
use Rattle.wf_compare.proofs.Leadings.{target_no, Precedes, leading_from, leading_in, leadings_ordered}

module _ (g : Grammar) (c : View) where
  -- the modules to which the steps of an expanded module lead
  abbrev pub led : ℕ → List ℕ
  led a = targets_of (open_leadings g c a)

  opened : (a : ℕ) → expands c a ≡ true → open_leadings g c a ≡ leadings_of g a
  opened a e = ap (λ b. cond b (leadings_of g a) []) e

  shut : (a : ℕ) → expands c a ≡ false → open_leadings g c a ≡ []
  shut a e = ap (λ b. cond b (leadings_of g a) []) e

  open_ordered : (a : ℕ) → IsOrdered target_no Precedes (open_leadings g c a)
  open_ordered a = ⊎_elim
      (λ t. subst (IsOrdered target_no Precedes) (sym (opened a t)) (leadings_ordered g a))
      (λ f. subst (IsOrdered target_no Precedes) (sym (shut a f)) tt)
      (cases_Bool (expands c a))

  -- a step among those of an expanded module
  record IsOpenLeading (a : ℕ) (e : Leading) : Type 0 where
    pub expanded : expands c a ≡ true
    pub production : IsProductionOf g e.step.production.0 a
    pub position : e.step.position.0 < length (body_of g e.step.production.0)
    pub target : e.target.0 ≡ target_of g (step_of e.step)

  open_from : (a : ℕ) (e : Leading) → IsIn e (open_leadings g c a) → IsOpenLeading a e
  open_from a e i = ⊎_elim
      (λ t.
      let r = leading_from g a e (subst (IsIn e) (opened a t) i) in
      subst (IsOpenLeading a) (sym r.4) (record { expanded = t; production = r.2; position = r.3; target = refl }))
      (λ f. absurd (subst (IsIn e) (shut a f) i))
      (cases_Bool (expands c a))

  open_in : (a : ℕ) (s : Step) → IsOpenStep g c s → head_of g s.production ≡ a → IsIn (leading_at g s.production s.position) (open_leadings g c a)
  open_in a s o h = subst (IsIn (leading_at g s.production s.position)) (sym (opened a (ap (expands c) (sym h) ∙ o.expanded)))
      (leading_in g a s.production s.position (o.in_range, h) o.position)

  led_to : (a : ℕ) (s : Step) → IsOpenStep g c s → head_of g s.production ≡ a → IsIn (target_of g s) (led a)
  led_to a s o h = in_map target_no (leading_at g s.production s.position) (open_leadings g c a) (open_in a s o h)

  -- where steps lead, a route of as many modules does
  pub steps_route : (a : ℕ) (us : List Step) → IsOpenRoute g c a us → IsRoute led a (map (target_of g) us) (module_along g a us)
  steps_route a [] r = refl
  steps_route a (s ∷ us) r = (led_to a s r.0 r.1, steps_route (target_of g s) us r.2)

  -- what is made by a seen, expanded module is seen
  made_seen : (a : ℕ) (e : Leading) → IsSeenModule g c a → IsOpenLeading a e → IsSeenModule g c (target_of g (step_of e.step))
  made_seen a e s o = IsSeenModule.in_body e.step.production.0 o.production.0 (subst (IsSeenModule g c) (sym o.production.1) s) (ap (expands c) o.production.1 ∙ o.expanded)
      (in_there (body_of g e.step.production.0) e.step.position.0 (target_of g (step_of e.step)) o.position (Rattle.std.proofs.lemmas.List.get_or_default (body_of g e.step.production.0) e.step.position.0 0 (target_of g (step_of e.step)) o.position))

  first_is : (a w : ℕ) (s : StepHeld) → IsFirstStep (open_leadings g c a) w s → IsOpenLeading a (record { step = s; target = record { 0 = w } })
  first_is a w s f =
      let r = find_gives (leads_to w) (open_leadings g c a) f.leading f.found in
      let o = open_from a f.leading r.0 in
      let t : f.leading.target.0 ≡ w = eqb-true f.leading.target.0 w r.1 in
      subst (λ z. IsOpenLeading a (record { step = z; target = record { 0 = w } })) f.step_is
      (record { expanded = o.expanded; production = o.production; position = o.position; target = sym t ∙ o.target })

  -- the first steps along a route lead to its end
  pub record AreSteps (a b : ℕ) (ws : List ℕ) (ps : List StepHeld) : Type 0 where
    pub as_many : length ps ≡ length ws
    pub route : IsOpenRoute g c a (map step_of ps)
    pub end_is : module_along g a (map step_of ps) ≡ b

  pub steps_lead : (a b : ℕ) (ws : List ℕ) (ps : List StepHeld) → IsSeenModule g c a → IsRoute led a ws b → AreFirstSteps (open_leadings g c) a ws ps → AreSteps a b ws ps
  steps_lead a b [] [] seen r f = record { as_many = refl; route = tt; end_is = r }
  steps_lead a b [] (p ∷ ps) seen r f = absurd f
  steps_lead a b (w ∷ ws) [] seen r f = absurd f
  steps_lead a b (w ∷ ws) (p ∷ ps) seen r f =
      let o = first_is a w p f.0 in
      let seen_next = made_seen a (record { step = p; target = record { 0 = w } }) seen o in
      let rest = steps_lead w b ws ps (subst (IsSeenModule g c) (sym o.target) seen_next) r.1 f.1 in
      let here : IsOpenStep g c (step_of p) = record {
        in_range = o.production.0;
        seen = subst (IsSeenModule g c) (sym o.production.1) seen;
        expanded = ap (expands c) o.production.1 ∙ o.expanded;
        position = o.position;
      } in
      record {
        as_many = ap suc rest.as_many;
        route = (here, o.production.1, subst (λ z. IsOpenRoute g c z (map step_of ps)) o.target rest.route);
        end_is = ap (λ z. module_along g z (map step_of ps)) (sym o.target) ∙ rest.end_is;
      }

  -- the first steps along the route that is first by its choices come first
  pub steps_first : (a b : ℕ) (ws : List ℕ) (ps : List StepHeld) (us : List Step) → IsRoute led a ws b → AreFirstSteps (open_leadings g c) a ws ps → IsOpenRoute g c a us
      → IsFirstOf (choices_of led a ws) (choices_of led a (map (target_of g) us)) → ComesFirst (map step_of ps) us
  steps_first a b [] [] us r f o l = tt
  steps_first a b [] (p ∷ ps) us r f o l = absurd f
  steps_first a b (w ∷ ws) [] us r f o l = absurd f
  steps_first a b (w ∷ ws) (p ∷ ps) [] r f o l = absurd l
  steps_first a b (w ∷ ws) (p ∷ ps) (u ∷ us) r f o (inl l) =
      let before = first_before target_no Precedes (open_leadings g c a) (open_ordered a) w (target_of g u) f.0.leading (leading_at g u.production u.position) f.0.found (open_in a u o.0 o.1) refl l in
      inl (subst (λ s. IsEarlier (step_of s) u) f.0.step_is before)
  steps_first a b (w ∷ ws) (p ∷ ps) (u ∷ us) r f o (inr l) =
      let same : w ≡ target_of g u = place_one w (target_of g u) (led a) r.0 (led_to a u o.0 o.1) l.0 in
      ⊎_elim
      (λ e. inr (
        ap step_of (sym f.0.step_is ∙ ap (λ (x : Leading). x.step) e),
        steps_first w b ws ps us r.1 f.1 (subst (λ z. IsOpenRoute g c z us) (sym same) o.2)
            (subst (λ z. IsFirstOf (choices_of led w ws) (choices_of led z (map (target_of g) us))) (sym same) l.1),
      ))
      (λ q. inl (subst (λ s. IsEarlier (step_of s) u) f.0.step_is q))
      (first_or_later target_no Precedes (open_leadings g c a) (open_ordered a) w f.0.leading (leading_at g u.production u.position) f.0.found (open_in a u o.0 o.1) (sym same))

  -- so they are the first of the shortest
  pub is_first_route : (m : ℕ) (ws : List ℕ) (ps : List StepHeld) → (g.start ≡ m → ⊥) → IsFirstShortest led g.start m ws → AreFirstSteps (open_leadings g c) g.start ws ps → IsFirstShortestRoute g c m (map step_of ps)
  is_first_route m ws ps apart f first =
      let way = steps_lead g.start m ws ps (IsSeenModule.at_start refl) f.route first in
      record {
        leads = (way.route, way.end_is);
        fewest = λ us l.
            let route = subst (IsRoute led g.start (map (target_of g) us)) l.1 (steps_route g.start us l.0) in
            let short = f.shortest (map (target_of g) us) (some us l) route in
            let n = length-map us (target_of g) in
            let k = length-map ps step_of in
            let h = way.as_many in
            omega arith;
        first = λ us l e.
            let route = subst (IsRoute led g.start (map (target_of g) us)) l.1 (steps_route g.start us l.0) in
            let n = length-map us (target_of g) in
            let k = length-map ps step_of in
            let h = way.as_many in
            steps_first g.start m ws ps us f.route first l.0 (f.first (map (target_of g) us) route (omega arith));
      }
    where
      some : (us : List Step) → LeadsTo g c m us → 0 < length (map (target_of g) us)
      some [] l = absurd (apart l.1)
      some (u ∷ us) l = omega arith
