-- Where a route is not all expanded, the reading over the package comes to an atomic module.
use Rattle.std.proofs.Common.{◌≡◌, ◌⊎◌, ℕ, Bool, true, false, List, [], ◌∷◌, ◌++◌, length, flat_map, Option, Some, None, refl, sym, ap, ◌∙◌, subst, inl, inr, ⊎_elim, arith, append_assoc, length-append, true≢false}
use Rattle.std.proofs.lemmas.Bool.{cases_Bool}
use Rattle.std.proofs.lemmas.List.{length-map}
use Rattle.wf_model.specs.Grammar.{Grammar, IsAtomic}
use Rattle.wf_model.specs.WellFormed.{IsWellFormed}
use Rattle.wf_model.specs.View.{View, expands, IsSeenModule}
use Rattle.wf_model.specs.Finishing.{ExpandsComposites}
use Rattle.wf_model.specs.Reach.{Step, target_of, module_along}
use Rattle.wf_model.specs.OpenRoutes.{IsOpenRoute}
use Rattle.wf_model.proofs.OpenRoutes.{route_seen, open_append}
use Rattle.label_model.specs.Continuing.{continuing}
use Rattle.label_model.specs.Labels.{PlaceStep, chain_bits, step_bits}
use Rattle.label_model.proofs.ContinuingSteps.{continuing_is}
use Rattle.label_model.proofs.LabelBits.{step_spread}
use Rattle.decode_model.proofs.Rounds.{module_along-append}
use Rattle.verdict_model.proofs.Hiding.{AllExpanded}
use Rattle.package_model.specs.Shown.{AreSeen, place_in, placed_step}
use Rattle.package_model.specs.Translating.{AreLoopSteps, StandsFor, LeavesBy, LeadBy, GoesAlong}
use Rattle.package_model.proofs.PackageBack.{shut_atomic}
use Rattle.package_model.proofs.PackageLoops.{open_step, seen_on}
use Rattle.package_model.proofs.ReadInPackage.{pack, loops, placed, along_up, some_up, loops_up, leaves_by_up}
use Rattle.package_model.proofs.LoopSteps.{loops_split}

begins_nothing : {A : Type 0} (b d : List A) → [] ≡ b ++ d → b ≡ []
begins_nothing [] d e = refl
begins_nothing (t ∷ b) d e = absurd (cc)

module _ (g : Grammar) (u : View) (ms ps : List ℕ) (ec : ExpandsComposites g u) (s : AreSeen g u ms ps) (wf : IsWellFormed g) where
  abbrev its_grammar : Grammar
  its_grammar = pack g u ms ps ec s wf

  abbrev its_loops : ℕ → Option Step
  its_loops = loops g u ms ps ec s wf

  abbrev by_place : List Step → List Step
  by_place a = placed g u ms ps ec s wf a

  -- from the place of m on, the bits are read until an atomic module comes
  pub record IsStopped (m : ℕ) (bits : List Bool) : Type 0 where
    pub steps : List PlaceStep
    pub led : List Step
    pub lead : LeadBy its_grammar its_loops (place_in ms m) steps led
    pub chain : Option ℕ
    pub round : List Step
    pub goes : GoesAlong its_grammar its_loops (module_along its_grammar (place_in ms m) led) chain round
    pub atomic : IsAtomic its_grammar (module_along its_grammar (place_in ms m) (led ++ round))
    pub rest : List Bool
    pub is : bits ≡ flat_map step_bits steps ++ (chain_bits chain ++ rest)

  shut_here : (m : ℕ) (bits : List Bool) → IsSeenModule g u m → expands u m ≡ false → IsStopped m bits
  shut_here m bits sm ex = record { steps = []; led = []; lead = refl; chain = None; round = []; goes = refl; atomic = shut_atomic g u ms ps ec s m sm ex; rest = bits; is = refl }

  -- continuing steps are all open and lead to an expanded module, or some of them lead to one that is not
  abbrev OpenOr : ℕ → List Step → Type 0
  OpenOr m r = (IsOpenRoute g u m r × (expands u (module_along g m r) ≡ true)) ⊎ ((b : List Step) × (d : List Step) × (r ≡ b ++ d) × IsOpenRoute g u m b × (expands u (module_along g m b) ≡ false))

  open_or : (r : List Step) (m : ℕ) → IsSeenModule g u m → AreLoopSteps g (continuing g) m r → OpenOr m r
  open_or [] m sm x = ⊎_elim (λ e. inl (tt, e)) (λ e. inr ([], [], refl, tt, e)) (cases_Bool (expands u m))
  open_or (t ∷ r) m sm x = go (λ sk. open_or r (target_of g t) sk x.1) (cases_Bool (expands u m))
    where
      go : (IsSeenModule g u (target_of g t) → OpenOr (target_of g t) r) → (expands u m ≡ true) ⊎ (expands u m ≡ false) → OpenOr m (t ∷ r)
      go ih (inr e) = inr ([], t ∷ r, refl, tt, e)
      go ih (inl e) =
          let st = (continuing_is g m t x.0).0 in
          let o = open_step g u ms ps ec s wf m t sm e st in
          ⊎_elim
          (λ q. inl ((o, st.head, q.0), q.1))
          (λ q. inr (t ∷ q.0, q.1, ap (λ z. t ∷ z) q.2, (o, st.head, q.3), q.4))
          (ih (seen_on g u ms ps ec s wf m t sm e st))

  -- what a chain number stands for are continuing steps
  stands_loops : (m : ℕ) (c : Option ℕ) (r : List Step) → StandsFor g (continuing g) m c r → AreLoopSteps g (continuing g) m r
  stands_loops m None r x = subst (AreLoopSteps g (continuing g) m) (sym x.1) tt
  stands_loops m (Some c) r x = x.2

  -- the reading stops along a chain number
  chain_stopped : (m : ℕ) (c : Option ℕ) (r b d : List Step) (bits : List Bool) → IsSeenModule g u m → expands u m ≡ true → StandsFor g (continuing g) m c r → r ≡ b ++ d → IsOpenRoute g u m b → expands u (module_along g m b) ≡ false →
      IsStopped m (chain_bits c ++ bits)
  chain_stopped m None r b d bits sm ex x e o shut =
      absurd (true≢false (sym ex ∙ (ap (λ z. expands u (module_along g m z)) (sym (begins_nothing b d (sym x.1 ∙ e))) ∙ shut)))
  chain_stopped m (Some c) r b d bits sm ex x e o shut =
      let l = (loops_split g (continuing g) m b d (subst (AreLoopSteps g (continuing g) m) e x.2)).0 in
      record {
        steps = [];
        led = [];
        lead = refl;
        chain = Some c;
        round = by_place b;
        goes = (
          some_up g u ms ps ec s wf m sm ex x.0,
          x.1,
          loops_up g u ms ps ec s wf b m sm l o,
          omega (arith, length-map b (placed_step ps), x.3, ap length e, length-append b d),
        );
        atomic = subst (IsAtomic its_grammar) (sym (along_up g u ms ps ec s wf m b o)) (shut_atomic g u ms ps ec s (module_along g m b) (route_seen g u m b sm o) shut);
        rest = bits;
        is = refl;
      }

  -- a step that is passed comes before
  stopped_later : (m : ℕ) (q : PlaceStep) (b : List Step) (qs : List PlaceStep) (bits : List Bool) → IsSeenModule g u m → LeavesBy g (continuing g) m q b → IsOpenRoute g u m b →
      IsStopped (module_along g m b) (flat_map step_bits qs ++ bits) → IsStopped m (flat_map step_bits (q ∷ qs) ++ bits)
  stopped_later m q b qs bits sm l o st =
      let to : module_along its_grammar (place_in ms m) (by_place b) ≡ place_in ms (module_along g m b) = along_up g u ms ps ec s wf m b o in
      let on : (z : List Step) → module_along its_grammar (place_in ms m) (by_place b ++ z) ≡ module_along its_grammar (place_in ms (module_along g m b)) z =
      λ z. module_along-append its_grammar (place_in ms m) (by_place b) z ∙ ap (λ k. module_along its_grammar k z) to in
      record {
        steps = q ∷ st.steps;
        led = by_place b ++ st.led;
        lead = (by_place b, st.led, leaves_by_up g u ms ps ec s wf m q b sm l o, subst (λ z. LeadBy its_grammar its_loops z st.steps st.led) (sym to) st.lead, refl);
        chain = st.chain;
        round = st.round;
        goes = subst (λ z. GoesAlong its_grammar its_loops z st.chain st.round) (sym (on st.led)) st.goes;
        atomic = subst (IsAtomic its_grammar) (sym (ap (module_along its_grammar (place_in ms m)) (append_assoc (by_place b) st.led st.round) ∙ on (st.led ++ st.round))) st.atomic;
        rest = st.rest;
        is = append_assoc (step_bits q) (flat_map step_bits qs) bits ∙ (ap (λ z. step_bits q ++ z) st.is ∙ sym (append_assoc (step_bits q) (flat_map step_bits st.steps) (chain_bits st.chain ++ st.rest)));
      }

  -- the way of a place is all expanded, or the reading stops on it
  pub all_or_stopped : (qs : List PlaceStep) (m : ℕ) (a r : List Step) (c : Option ℕ) (bits : List Bool) → IsSeenModule g u m → LeadBy g (continuing g) m qs a → StandsFor g (continuing g) (module_along g m a) c r →
      AllExpanded g u m (a ++ r) ⊎ IsStopped m (flat_map step_bits qs ++ (chain_bits c ++ bits))
  all_or_stopped [] m a r c bits sm x h = ⊎_elim
      (λ ex. ⊎_elim
      (λ q. inl (subst (λ z. AllExpanded g u m (z ++ r)) (sym x) q))
      (λ q. inr (chain_stopped m c r q.0 q.1 bits sm ex here q.2 q.3 q.4))
      (open_or r m sm (stands_loops m c r here)))
      (λ ex. inr (shut_here m (chain_bits c ++ bits) sm ex))
      (cases_Bool (expands u m))
    where
      here : StandsFor g (continuing g) m c r
      here = subst (λ z. StandsFor g (continuing g) (module_along g m z) c r) x h
  all_or_stopped (q ∷ qs) m a r c bits sm x h = ⊎_elim
      (λ ex. ⊎_elim
      (λ o. passed (open_b o.0 o.1) (all_or_stopped qs (module_along g m x.0) x.1 r c bits (route_seen g u m x.0 sm (open_b o.0 o.1)) x.3 there))
      (λ o. inr (subst (IsStopped m) (sym (step_spread q (flat_map step_bits qs) (chain_bits c ++ bits)))
      (chain_stopped m q.chain x.2.round o.0 o.1 _ sm ex x.2.chain o.2 o.3 o.4)))
      (open_or x.2.round m sm (stands_loops m q.chain x.2.round x.2.chain)))
      (λ ex. inr (shut_here m _ sm ex))
      (cases_Bool (expands u m))
    where
      there : StandsFor g (continuing g) (module_along g (module_along g m x.0) x.1) c r
      there = subst (λ z. StandsFor g (continuing g) z c r) (ap (module_along g m) x.4 ∙ module_along-append g m x.0 x.1) h

      open_b : IsOpenRoute g u m x.2.round → expands u (module_along g m x.2.round) ≡ true → IsOpenRoute g u m x.0
      open_b o e =
          let l = x.2 in
          let st = open_step g u ms ps ec s wf (module_along g m l.round) l.step (route_seen g u m l.round sm o) e l.of_it in
          subst (IsOpenRoute g u m) (sym l.is) (open_append g u m l.round (l.step ∷ []) o (st, l.of_it.head, tt))

      passed : IsOpenRoute g u m x.0 → AllExpanded g u (module_along g m x.0) (x.1 ++ r) ⊎ IsStopped (module_along g m x.0) (flat_map step_bits qs ++ (chain_bits c ++ bits)) →
          AllExpanded g u m (a ++ r) ⊎ IsStopped m (flat_map step_bits (q ∷ qs) ++ (chain_bits c ++ bits))
      passed o (inl all) =
          let same : a ++ r ≡ x.0 ++ (x.1 ++ r) = ap (λ z. z ++ r) x.4 ∙ append_assoc x.0 x.1 r in
          inl (subst (AllExpanded g u m) (sym same) (open_append g u m x.0 (x.1 ++ r) o all.0, ap (expands u) (module_along-append g m x.0 (x.1 ++ r)) ∙ all.1))
      passed o (inr st) = inr (stopped_later m q x.0 qs (chain_bits c ++ bits) sm x.2 o st)
