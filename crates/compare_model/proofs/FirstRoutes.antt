-- To each seen module one route is the first of the shortest.
use Rattle.std.proofs.Common.{◌≡◌, ℕ, zero, suc, ◌<◌, ◌≤◌, Bool, true, false, cond, List, [], ◌∷◌, ◌++◌, length, get_or, refl, sym, ap, ◌∙◌, subst, inl, inr, ⊎_elim, arith, true≢false}
use Rattle.std.proofs.lemmas.Bool.{cases_lt}
use Rattle.wf_model.specs.Lists.{IsIn, IsAt}
use Rattle.wf_model.specs.Grammar.{Grammar, head_of, body_of}
use Rattle.wf_model.specs.View.{View, expands, IsSeenModule, at_start, in_body}
use Rattle.wf_model.specs.Linear.{IsStepOf}
use Rattle.wf_model.specs.Reach.{Step, target_of, module_along}
use Rattle.wf_model.specs.OpenRoutes.{IsOpenStep, IsOpenRoute}
use Rattle.wf_model.proofs.Deciding.{Either, number_either, first_below, first_of_all, some_below}
use Rattle.wf_model.proofs.Lists.{at_in, in_at, is_at, at_is, at_below}
use Rattle.wf_model.proofs.OpenRoutes.{step_seen, open_append}
use Rattle.wf_laws.proofs.Reach.{step_to}
use Rattle.wf_laws.proofs.Address.{module_along_more}
use Rattle.compare_model.specs.Routes.{LeadsTo, IsEarlier, ComesFirst, IsFirstShortestRoute}
use Rattle.compare_model.proofs.StepOrder.{steps_of, both_first, steps_are, steps_have, steps_rise}

-- the steps that leave a module where the view expands it, and else none
abbrev open_steps : Grammar → View → ℕ → List Step
open_steps g c m = cond (expands c m) (steps_of g m) []

module _ (g : Grammar) (c : View) where
  -- what stands among the open steps of a seen module is an open step, and they stand in order
  pub open_are : (k : ℕ) → IsSeenModule g c k → (s : Step) → IsIn s (open_steps g c k) → IsOpenStep g c s × IsStepOf g k s
  open_are k seen s h = go (expands c k) refl h
    where
      go : (b : Bool) → expands c k ≡ b → IsIn s (cond b (steps_of g k) []) → IsOpenStep g c s × IsStepOf g k s
      go true e i =
          let q = steps_are g k s i in
          (record { in_range = q.in_range; seen = subst (IsSeenModule g c) (sym q.head) seen; expanded = ap (expands c) q.head ∙ e; position = q.position }, q)
      go false e i = absurd i

  pub open_have : (k : ℕ) (s : Step) → IsOpenStep g c s → head_of g s.production ≡ k → IsIn s (open_steps g c k)
  open_have k s x e = go (expands c k) refl
    where
      go : (b : Bool) → expands c k ≡ b → IsIn s (cond b (steps_of g k) [])
      go true q = steps_have g k s (record { in_range = x.in_range; head = e; position = x.position })
      go false q = absurd (true≢false (sym x.expanded ∙ (ap (expands c) e ∙ q)))

  pub open_rise : (k : ℕ) (s t : Step) (i j : ℕ) → IsAt s i (open_steps g c k) → IsAt t j (open_steps g c k) → i < j → IsEarlier s t
  open_rise k s t i j p q l = go (expands c k) p q
    where
      go : (b : Bool) → IsAt s i (cond b (steps_of g k) []) → IsAt t j (cond b (steps_of g k) []) → IsEarlier s t
      go true p q = steps_rise g k s t i j p q l
      go false p q = absurd p

  module _ (m : ℕ) where
    -- so many open steps lead from k to m
    abbrev LeadsBy : ℕ → ℕ → Type 0
    LeadsBy zero k = k ≡ m
    LeadsBy (suc n) k = (j : ℕ) × (j < length (open_steps g c k)) × LeadsBy n (target_of g (get_or (open_steps g c k) j (step_to 0 0)))

    leads_either : (n k : ℕ) → Either (LeadsBy n k)
    leads_either zero k = number_either k m
    leads_either (suc n) k = some_below (λ j. LeadsBy n (target_of g (get_or (open_steps g c k) j (step_to 0 0)))) (length (open_steps g c k)) (λ j l. leads_either n (target_of g (get_or (open_steps g c k) j (step_to 0 0))))

    counted : (a : List Step) (k : ℕ) → IsOpenRoute g c k a → module_along g k a ≡ m → LeadsBy (length a) k
    counted [] k x e = e
    counted (s ∷ a) k x e =
        let i = in_at s (open_steps g c k) (open_have k s x.0 x.1) in
        (i.0, at_below s i.0 (open_steps g c k) i.1, subst (λ z. LeadsBy (length a) (target_of g z)) (sym (at_is s i.0 (open_steps g c k) (step_to 0 0) i.1)) (counted a (target_of g s) x.2 e))

    -- steps that come first among all that are as many
    record AreFirst (n k : ℕ) : Type 0 where
      steps : List Step
      open_route : IsOpenRoute g c k steps
      leads : module_along g k steps ≡ m
      many : length steps ≡ n
      first : (others : List Step) → IsOpenRoute g c k others → module_along g k others ≡ m → length others ≡ n → ComesFirst steps others

    abbrev ByStep : ℕ → ℕ → ℕ → Type 0
    ByStep n k j = LeadsBy n (target_of g (get_or (open_steps g c k) j (step_to 0 0)))

    -- the first open step from which steps lead on, and those that come first from there
    module _ (n k j : ℕ) (before : (i : ℕ) → i < j → ByStep n k i → ⊥) (s : Step) (here : IsAt s j (open_steps g c k)) (rest : AreFirst n (target_of g s)) where
      first_by : (others : List Step) → IsOpenRoute g c k others → module_along g k others ≡ m → length others ≡ suc n → ComesFirst (s ∷ rest.steps) others
      first_by [] x e l = absurd (omega arith)
      first_by (t ∷ others) x e l =
          let i = in_at t (open_steps g c k) (open_have k t x.0 x.1) in
          let long : length others ≡ n = omega arith in
          let leads : LeadsBy n (target_of g t) = subst (λ z. LeadsBy z (target_of g t)) long (counted others (target_of g t) x.2 e) in
          let read = at_is t i.0 (open_steps g c k) (step_to 0 0) i.1 in
          ⊎_elim
          (λ less. inl (open_rise k s t j i.0 here i.1 less))
          (λ not. ⊎_elim
          (λ less. absurd (before i.0 less (subst (λ z. LeadsBy n (target_of g z)) (sym read) leads)))
          (λ no. let same : i.0 ≡ j = omega arith in
          let one : s ≡ t = sym (at_is s j (open_steps g c k) (step_to 0 0) here) ∙ (ap (λ z. get_or (open_steps g c k) z (step_to 0 0)) (sym same) ∙ read) in
          inr (one, rest.first others (subst (λ z. IsOpenRoute g c (target_of g z) others) (sym one) x.2) (ap (λ z. module_along g (target_of g z) others) one ∙ e) long))
          (cases_lt i.0 j))
          (cases_lt j i.0)

    some_first : (n k : ℕ) → IsSeenModule g c k → LeadsBy n k → AreFirst n k
    some_first zero k seen h = record { steps = []; open_route = tt; leads = h; many = refl; first = λ others x e l. tt }
    some_first (suc n) k seen h =
        ⊎_elim
        (λ r.
        let s = get_or (open_steps g c k) r.0 (step_to 0 0) in
        let here : IsAt (get_or (open_steps g c k) r.0 (step_to 0 0)) r.0 (open_steps g c k) = is_at r.0 (open_steps g c k) (step_to 0 0) r.1 in
        let o = open_are k seen (get_or (open_steps g c k) r.0 (step_to 0 0)) (at_in (get_or (open_steps g c k) r.0 (step_to 0 0)) r.0 (open_steps g c k) here) in
        let rest = some_first n (target_of g (get_or (open_steps g c k) r.0 (step_to 0 0))) (step_seen g c (get_or (open_steps g c k) r.0 (step_to 0 0)) o.0) r.2.so in
        record {
          steps = get_or (open_steps g c k) r.0 (step_to 0 0) ∷ rest.steps;
          open_route = (o.0, o.1.head, rest.open_route);
          leads = rest.leads;
          many = ap suc rest.many;
          first = first_by n k r.0 r.2.before (get_or (open_steps g c k) r.0 (step_to 0 0)) here rest;
        })
        (λ none. absurd (none h.0 h.1 h.2))
        (first_below (ByStep n k) (length (open_steps g c k)) (λ j l. leads_either n (target_of g (get_or (open_steps g c k) j (step_to 0 0)))))

    -- a route to a module tells one that is the first of the shortest
    pub some_shortest : (a : List Step) → LeadsTo g c m a → (b : List Step) × IsFirstShortestRoute g c m b
    some_shortest a h =
        let r = first_of_all (λ n. LeadsBy n g.start) (λ n. leads_either n g.start) (length a) (counted a g.start h.0 h.1) in
        let f = some_first r.0 g.start (at_start refl) r.2.so in (
          f.steps,
          record {
            leads = (f.open_route, f.leads);
            fewest = λ b q. subst (λ z. z ≤ length b) (sym f.many) (⊎_elim (λ less. absurd (r.2.before (length b) less (counted b g.start q.0 q.1))) (λ not. omega arith) (cases_lt (length b) r.0));
            first = λ b q e. f.first b q.0 q.1 (e ∙ f.many);
          },
        )

  -- each seen module has a route
  pub seen_route : (m : ℕ) → IsSeenModule g c m → (a : List Step) × LeadsTo g c m a
  seen_route m (at_start e) = ([], (tt, sym e))
  seen_route m (in_body p l s ex i) =
      let r = seen_route (head_of g p) s in
      let k = in_at m (body_of g p) i in
      let last : IsOpenStep g c (record { production = p; position = k.0 }) = record { in_range = l; seen = s; expanded = ex; position = at_below m k.0 (body_of g p) k.1 } in (
        r.0 ++ record { production = p; position = k.0 } ∷ [],
        (
          open_append g c g.start r.0 (record { production = p; position = k.0 } ∷ []) r.1.0 (last, sym r.1.1, tt),
          module_along_more g g.start r.0 (record { production = p; position = k.0 }) ∙ at_is m k.0 (body_of g p) 0 k.1,
        ),
      )

  pub one_shortest : (m : ℕ) (a b : List Step) → IsFirstShortestRoute g c m a → IsFirstShortestRoute g c m b → a ≡ b
  one_shortest m a b p q =
      let l : length a ≤ length b = p.fewest b q.leads in
      let h : length b ≤ length a = q.fewest a p.leads in
      both_first a b (omega arith) (p.first b q.leads (omega arith)) (q.first a p.leads (omega arith))

  pub start_shortest : (m : ℕ) → g.start ≡ m → IsFirstShortestRoute g c m []
  start_shortest m e = record { leads = (tt, e); fewest = λ b q. omega arith; first = λ b q l. tt }
