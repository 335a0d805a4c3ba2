-- What is read over the grammar along an open route is read over the package, by place.
use Rattle.std.proofs.Common.{◌≡◌, ◌≢◌, ℕ, ◌<◌, Bool, true, false, cond, List, [], ◌∷◌, ◌++◌, length, get_or, Option, Some, None, option_map, refl, sym, ap, ◌∙◌, subst, ⊎_elim}
use Rattle.std.proofs.lemmas.List.{length-map, map-append}
use Rattle.wf_model.specs.Grammar.{Grammar, Production, production_at, IsProductionOf}
use Rattle.wf_model.specs.WellFormed.{IsWellFormed}
use Rattle.wf_model.specs.View.{View, expands, IsSeenModule, at_start}
use Rattle.wf_model.specs.DefaultView.{default_view}
use Rattle.wf_model.specs.Linear.{IsStepOf}
use Rattle.wf_model.specs.Finishing.{ExpandsComposites}
use Rattle.wf_model.specs.Reach.{Step, target_of, module_along}
use Rattle.wf_model.specs.OpenRoutes.{IsOpenStep, IsOpenRoute}
use Rattle.wf_model.proofs.OpenRoutes.{route_seen, open_split}
use Rattle.label_model.specs.Continuing.{continuing}
use Rattle.label_model.specs.Labels.{PlaceStep, Place}
use Rattle.wf_model.proofs.Going.{same_step}
use Rattle.label_model.proofs.ContinuingSteps.{continuing_is}
use Rattle.label_model.proofs.Finding.{cases_option}
use Rattle.decode_model.proofs.Rounds.{module_along-append}
use Rattle.verdict_model.proofs.Hiding.{AllExpanded}
use Rattle.version_model.specs.Standing.{renumbered}
use Rattle.version_model.proofs.Standing.{along_too}
use Rattle.package_model.specs.Shown.{IsOpenProduction, AreSeen, place_in, placed_step, shown_production, shown_of}
use Rattle.package_model.specs.Packages.{package_production, loop_of}
use Rattle.package_model.specs.Translating.{AreLoopSteps, StandsFor, LeavesBy, LeadBy, IsReadAs}
use Rattle.package_model.specs.Laws.{packaged}
use Rattle.package_model.proofs.PackageParts.{open_placed, same_production, production_of, package_stands, one_place}
use Rattle.package_model.proofs.PackageLoops.{loop_at, loop_is, shown_loop, step_up, target_up, seen_on}
use Rattle.package_model.proofs.PackageAlternatives.{alternative_up}

module _ (g : Grammar) (u : View) (ms ps : List ℕ) (ec : ExpandsComposites g u) (s : AreSeen g u ms ps) (wf : IsWellFormed g) where
  abbrev pub pack : Grammar
  pack = packaged g u ms ps

  abbrev pub loops : ℕ → Option Step
  loops = loop_of (shown_of g u ms ps)

  abbrev pub placed : List Step → List Step
  placed a = renumbered (place_in ps) a

  pub along_up : (m : ℕ) (a : List Step) → IsOpenRoute g u m a → module_along pack (place_in ms m) (placed a) ≡ place_in ms (module_along g m a)
  along_up m a x = along_too g u pack (default_view pack) (place_in ms) (place_in ps) (package_stands g u ms ps ec s) a m (place_in ms m) refl x

  -- a module without a continuing step has no loop step
  none_up : (m : ℕ) → IsSeenModule g u m → continuing g m ≡ None → loops (place_in ms m) ≡ None
  none_up m sm e = loop_at g u ms ps ec s wf m sm ∙ (ap (λ o. cond (expands u m) (option_map (placed_step ps) o) None) e ∙ go (expands u m))
    where
      go : (b : Bool) → cond {A = Option Step} b None None ≡ None
      go true = refl
      go false = refl

  -- one that is expanded and has one has one
  pub some_up : (m : ℕ) → IsSeenModule g u m → expands u m ≡ true → continuing g m ≢ None → loops (place_in ms m) ≢ None
  some_up m sm ex n e = ⊎_elim (λ z. n z) (λ z. let q : Some (placed_step ps z.0) ≡ None = sym (loop_is g u ms ps ec s wf m z.0 sm ex z.1) ∙ e in absurd (cc)) (cases_option (continuing g m))

  -- continuing steps along an open route are loop steps
  pub loops_up : (r : List Step) (m : ℕ) → IsSeenModule g u m → AreLoopSteps g (continuing g) m r → IsOpenRoute g u m r → AreLoopSteps pack loops (place_in ms m) (placed r)
  loops_up [] m sm x o = tt
  loops_up (t ∷ r) m sm x o =
      let ex : expands u m ≡ true = ap (expands u) (sym o.1) ∙ o.0.expanded in
      let st : IsStepOf g m t = record { in_range = o.0.in_range; head = o.1; position = o.0.position } in (
        loop_is g u ms ps ec s wf m t sm ex x.0,
        subst (λ z. AreLoopSteps pack loops z (placed r)) (sym (target_up g u ms ps ec s wf m t sm ex st)) (loops_up r (target_of g t) (seen_on g u ms ps ec s wf m t sm ex st) x.1 o.2),
      )

  -- so a chain number stands for the same
  stands_up : (m : ℕ) (c : Option ℕ) (r : List Step) → IsSeenModule g u m → expands u m ≡ true → StandsFor g (continuing g) m c r → IsOpenRoute g u m r → StandsFor pack loops (place_in ms m) c (placed r)
  stands_up m None r sm ex x o = (none_up m sm x.0, ap placed x.1)
  stands_up m (Some c) r sm ex x o = (some_up m sm ex x.0, x.1, loops_up r m sm x.2 o, length-map r (placed_step ps) ∙ x.3)

  -- the first step of an open route leaves an expanded module
  pub first_expanded : (m : ℕ) (r : List Step) (t : Step) → IsOpenRoute g u m (r ++ t ∷ []) → expands u m ≡ true
  first_expanded m [] t o = ap (expands u) (sym o.1) ∙ o.0.expanded
  first_expanded m (v ∷ r) t o = ap (expands u) (sym o.1) ∙ o.0.expanded

  -- a step that does not continue is no loop step
  leaves_up : (m : ℕ) (t : Step) → IsSeenModule g u m → IsOpenStep g u t → continuing g m ≢ Some t → loops (place_in ms m) ≢ Some (placed_step ps t)
  leaves_up m t sm o n e =
      let x = shown_loop g u ms ps ec s wf m (placed_step ps t) sm (sym (loop_at g u ms ps ec s wf m sm) ∙ e) in
      let c = continuing_is g x.module_no x.step x.continues in
      let same = one_place g u ms ps ec s m x.module_no sm x.seen x.place in
      let po = open_placed g u ms ps ec s t.production (o.in_range, o.seen, o.expanded) in
      let px = open_placed g u ms ps ec s x.step.production (c.0.in_range, subst (IsSeenModule g u) (sym c.0.head) x.seen, ap (expands u) c.0.head ∙ x.expanded) in
      let prod : t.production ≡ x.step.production = sym po.is ∙ (ap (λ (z : Step). get_or ps z.production 0) x.is ∙ px.is) in
      let one : t ≡ x.step = same_step t x.step prod (ap (λ (z : Step). z.position) x.is) in
      n (ap (continuing g) same ∙ (x.continues ∙ ap Some (sym one)))

  -- a step of a place, over the package
  pub leaves_by_up : (m : ℕ) (p : PlaceStep) (b : List Step) → IsSeenModule g u m → LeavesBy g (continuing g) m p b → IsOpenRoute g u m b → LeavesBy pack loops (place_in ms m) p (placed b)
  leaves_by_up m p b sm l o =
      let parts = open_split g u m l.round (l.step ∷ []) (subst (IsOpenRoute g u m) l.is o) in
      let k = module_along g m l.round in
      let sk = route_seen g u m l.round sm parts.0 in
      let ex = first_expanded m l.round l.step (subst (IsOpenRoute g u m) l.is o) in
      let exk : expands u k ≡ true = ap (expands u) (sym parts.1.1) ∙ parts.1.0.expanded in
      let to = along_up m l.round parts.0 in
      record {
        round = placed l.round;
        chain = stands_up m p.chain l.round sm ex l.chain parts.0;
        step = placed_step ps l.step;
        of_it = subst (λ z. IsStepOf pack z (placed_step ps l.step)) (sym to) (step_up g u ms ps ec s wf k l.step sk exk l.of_it);
        alternative = alternative_up g u ms ps ec s l.step.production (parts.1.0.in_range, parts.1.0.seen, parts.1.0.expanded) ∙ l.alternative;
        position = l.position;
        leaves = λ e. leaves_up k l.step sk parts.1.0 l.leaves (ap loops (sym to) ∙ e);
        is = ap placed l.is ∙ map-append (placed_step ps) l.round (l.step ∷ []);
      }

  -- the steps of a place, over the package
  pub lead_up : (qs : List PlaceStep) (m : ℕ) (a : List Step) → IsSeenModule g u m → LeadBy g (continuing g) m qs a → IsOpenRoute g u m a → LeadBy pack loops (place_in ms m) qs (placed a)
  lead_up [] m a sm x o = ap placed x
  lead_up (q ∷ qs) m a sm x o =
      let parts = open_split g u m x.0 x.1 (subst (IsOpenRoute g u m) x.4 o) in
      let sk = route_seen g u m x.0 sm parts.0 in (
        placed x.0,
        placed x.1,
        leaves_by_up m q x.0 sm x.2 parts.0,
        subst (λ z. LeadBy pack loops z qs (placed x.1)) (sym (along_up m x.0 parts.0)) (lead_up qs (module_along g m x.0) x.1 sk x.3 parts.1),
        ap placed x.4 ∙ map-append (placed_step ps) x.0 x.1,
      )

  -- a production of an expanded module is that of its place, with the same edges
  production_up : (m q : ℕ) → IsSeenModule g u m → expands u m ≡ true → IsProductionOf g q m → IsProductionOf pack (place_in ps q) (place_in ms m) × (production_at pack (place_in ps q) ≡ package_production (shown_production g ms q))
  production_up m q sm ex x =
      let o : IsOpenProduction g u q = (x.0, subst (IsSeenModule g u) (sym x.1) sm, ap (expands u) x.1 ∙ ex) in
      let same = same_production g u ms ps ec s q o in
      let pl = open_placed g u ms ps ec s q o in
      ((same.in_range, same.head ∙ ap (place_in ms) x.1), production_of g u ms ps ec s (place_in ps q) pl.below ∙ ap (λ z. package_production (shown_production g ms z)) pl.is)

  -- a place whose way is all expanded is read over the package as it is over the grammar, by place
  pub read_up : (p : Place) (a : List Step) (q : ℕ) → IsReadAs g (continuing g) g.start p a q → AllExpanded g u g.start a → IsReadAs pack loops pack.start p (placed a) (place_in ps q)
  read_up p a q r all =
      let seen : IsSeenModule g u g.start = at_start refl in
      let parts = open_split g u g.start r.led r.round (subst (IsOpenRoute g u g.start) r.is all.0) in
      let k = module_along g g.start r.led in
      let sk = route_seen g u g.start r.led seen parts.0 in
      let along : module_along g k r.round ≡ module_along g g.start a = sym (ap (module_along g g.start) r.is ∙ module_along-append g g.start r.led r.round) in
      let last : expands u (module_along g k r.round) ≡ true = ap (expands u) along ∙ all.1 in
      let to = along_up g.start r.led parts.0 in
      let end = module_along g g.start a in
      let sa = route_seen g u g.start a seen all.0 in
      let prod = production_up end q sa all.1 r.of_it in
      record {
        led = placed r.led;
        lead = lead_up p.steps g.start r.led seen r.lead parts.0;
        round = placed r.round;
        chain = subst (λ z. StandsFor pack loops z p.chain (placed r.round)) (sym to) (stands_up k p.chain r.round sk (begins k r.round parts.1 last) r.chain parts.1);
        is = ap placed r.is ∙ map-append (placed_step ps) r.led r.round;
        of_it = subst (IsProductionOf pack (place_in ps q)) (sym (along_up g.start a all.0)) prod.0;
        alternative = alternative_up g u ms ps ec s q (r.of_it.0, subst (IsSeenModule g u) (sym r.of_it.1) sa, ap (expands u) r.of_it.1 ∙ all.1) ∙ r.alternative;
        edge = subst (λ (z : Production). p.edge < length z.edges) (sym prod.1) r.edge;
      }
    where
      begins : (k : ℕ) (r : List Step) → IsOpenRoute g u k r → expands u (module_along g k r) ≡ true → expands u k ≡ true
      begins k [] o e = e
      begins k (t ∷ r) o e = ap (expands u) (sym o.1) ∙ o.0.expanded
