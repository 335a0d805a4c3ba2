-- A label is read over its own grammar, continuing steps being the loop steps, as what it tells.
use Rattle.std.proofs.Common.{◌≡◌, ℕ, zero, suc, ◌+◌, ◌^◌, ◌≤◌, Bool, true, false, cond, List, [], ◌∷◌, ◌++◌, length, Option, Some, None, refl, sym, ap, ◌∙◌, subst, arith, append_assoc, append-nil, length-append}
use Rattle.std.proofs.lemmas.List.{nil_from_length}
use Rattle.wf_model.specs.Grammar.{Grammar, alternative_of}
use Rattle.wf_model.specs.WellFormed.{IsWellFormed}
use Rattle.wf_model.specs.Reach.{Step, target_of, module_along}
use Rattle.wf_model.specs.Linear.{IsStepOf}
use Rattle.wf_model.specs.Routes.{IsRoute}
use Rattle.label_model.specs.Continuing.{continuing, continues}
use Rattle.label_model.specs.Labels.{PlaceStep, Place, OfEdge, IsChain, Leads, IsPlace, IsLabel}
use Rattle.label_model.specs.Places.{chain_by, chain_at, steps_from, chain_from, place_of}
use Rattle.label_model.proofs.ContinuingSteps.{continues_gives, continues_not}
use Rattle.label_model.proofs.LabelBits.{leaves_by}
use Rattle.label_model.proofs.ValidPlaces.{IsPassed, passed_none, passed_more, passed_leaves}
use Rattle.decode_model.proofs.Rounds.{module_along-append}
use Rattle.verdict_model.specs.Telling.{Tells}
use Rattle.verdict_model.proofs.LabelsTold.{same_place}
use Rattle.package_model.specs.Translating.{AreLoopSteps, StandsFor, LeavesBy, LeadBy, IsReadAs}
use Rattle.package_model.proofs.LoopSteps.{loops_append}

module _ (g : Grammar) (wf : IsWellFormed g) where
  -- continuing steps have led from m0 to m
  record IsRound (m0 c m : ℕ) (r : List Step) : Type 0 where
    loops : AreLoopSteps g (continuing g) m0 r
    count : length r ≡ c
    leads : module_along g m0 r ≡ m
    passed : IsPassed g m0 c m

  round_none : (m : ℕ) → IsRound m 0 m []
  round_none m = record { loops = tt; count = refl; leads = refl; passed = passed_none g m }

  round_more : (m0 c m : ℕ) (r : List Step) (s : Step) → IsRound m0 c m r → continuing g m ≡ Some s → IsRound m0 (c + 1) (target_of g s) (r ++ s ∷ [])
  round_more m0 c m r s h e = record {
    loops = loops_append g (continuing g) m0 r (s ∷ []) h.loops (ap (continuing g) h.leads ∙ e, tt);
    count = length-append r (s ∷ []) ∙ omega (arith, h.count);
    leads = module_along-append g m0 r (s ∷ []);
    passed = passed_more g wf m0 c m s h.passed e;
  }

  -- the chain number at m stands for them
  round_stands : (m0 c m k : ℕ) (r : List Step) → IsRound m0 c m r → IsChain g m0 (chain_at g m c) k → StandsFor g (continuing g) m0 (chain_at g m c) r
  round_stands m0 c m k r h chain = go (continuing g m) refl chain
    where
      none : (c : ℕ) → IsPassed g m0 c m → continuing g m ≡ None → c ≡ 0
      none zero p e = refl
      none (suc c) p e = absurd (p.goes_on (omega arith) e)

      go : (o : Option Step) → continuing g m ≡ o → IsChain g m0 (chain_by o c) k → StandsFor g (continuing g) m0 (chain_by o c) r
      go None e x = (x.0, nil_from_length r (h.count ∙ none c h.passed e))
      go (Some s) e x = (x.0, x.1, h.loops, h.count)

  -- a chain number that is there is small
  small_chain : (m0 c m k : ℕ) (r : List Step) → IsRound m0 c m r → IsChain g m0 (chain_at g m c) k → c + 1 ≤ 2 ^ 24
  small_chain m0 c m k r h chain = go c h.passed (continuing g m) refl chain
    where
      go : (c : ℕ) → IsPassed g m0 c m → (o : Option Step) → continuing g m ≡ o → IsChain g m0 (chain_by o c) k → c + 1 ≤ 2 ^ 24
      go zero p None e x = omega arith
      go (suc c) p None e x = absurd (p.goes_on (omega arith) e)
      go c p (Some s) e x = x.1

  -- the steps and the last chain number of a route, after a round, are read as the round and the route
  record IsToldBy (m0 c m : ℕ) (r a : List Step) : Type 0 where
    led : List Step
    lead : LeadBy g (continuing g) m0 (steps_from g m c a) led
    round : List Step
    chain : StandsFor g (continuing g) (module_along g m0 led) (chain_from g m c a) round
    is : r ++ a ≡ led ++ round

  told_by : (a : List Step) (m0 c m k j : ℕ) (r : List Step) → IsRound m0 c m r → IsRoute g m a → Leads g m0 (steps_from g m c a) k → IsChain g k (chain_from g m c a) j → IsToldBy m0 c m r a
  told_by [] m0 c m k j r h route leads chain = record {
    led = [];
    lead = refl;
    round = r;
    chain = round_stands m0 c m j r h (subst (λ z. IsChain g z (chain_at g m c) j) (sym leads) chain);
    is = append-nil r;
  }
  told_by (s ∷ a) m0 c m k j r h route leads chain =
      go (continues g m s) refl leads chain (λ m0 c r h l x. told_by a m0 c (target_of g s) k j r h route.3 l x)
    where
      step : IsStepOf g m s
      step = record { in_range = route.0; head = route.1; position = route.2 }

      told : PlaceStep
      told = record { chain = chain_at g m c; alternative = alternative_of g s.production; position = s.position }

      go : (t : Bool) → continues g m s ≡ t →
          Leads g m0 (cond t [] (told ∷ []) ++ steps_from g (target_of g s) (cond t (c + 1) 0) a) k → IsChain g k (chain_from g (target_of g s) (cond t (c + 1) 0) a) j →
          ((m0 c : ℕ) (r : List Step) → IsRound m0 c (target_of g s) r → Leads g m0 (steps_from g (target_of g s) c a) k → IsChain g k (chain_from g (target_of g s) c a) j → IsToldBy m0 c (target_of g s) r a) →
          IsToldBy m0 c m r (s ∷ a)
      go true t l x ih =
          let q = ih m0 (c + 1) (r ++ s ∷ []) (round_more m0 c m r s h (continues_gives g m s t)) l x in
          record {
            led = q.led;
            lead = subst (λ b. LeadBy g (continuing g) m0 (cond b [] (told ∷ []) ++ steps_from g (target_of g s) (cond b (c + 1) 0) a) q.led) (sym t) q.lead;
            round = q.round;
            chain = subst (λ b. StandsFor g (continuing g) (module_along g m0 q.led) (chain_from g (target_of g s) (cond b (c + 1) 0) a) q.round) (sym t) q.chain;
            is = sym (append_assoc r (s ∷ []) a) ∙ q.is;
          }
      go false t l x ih =
          let own = passed_leaves g wf m0 c m s h.passed (small_chain m0 c m l.1.from r h l.1.chain) step t in
          let one : l.0 ≡ s = leaves_by g m0 told l.0 s l.1 own in
          let q = ih (target_of g s) 0 [] (round_none (target_of g s)) (subst (λ z. Leads g (target_of g z) (steps_from g (target_of g s) 0 a) k) one l.2) x in
          let to : module_along g m0 (r ++ s ∷ []) ≡ target_of g s = module_along-append g m0 r (s ∷ []) in
          let left : LeavesBy g (continuing g) m0 told (r ++ s ∷ []) = record {
            round = r;
            chain = round_stands m0 c m l.1.from r h l.1.chain;
            step = s;
            of_it = subst (λ z. IsStepOf g z s) (sym h.leads) step;
            alternative = refl;
            position = refl;
            leaves = λ e. continues_not g m s t (ap (continuing g) (sym h.leads) ∙ e);
            is = refl;
          } in
          record {
            led = (r ++ s ∷ []) ++ q.led;
            lead = subst (λ b. LeadBy g (continuing g) m0 (cond b [] (told ∷ []) ++ steps_from g (target_of g s) (cond b (c + 1) 0) a) ((r ++ s ∷ []) ++ q.led)) (sym t)
                (r ++ s ∷ [], q.led, left, subst (λ z. LeadBy g (continuing g) z (steps_from g (target_of g s) 0 a) q.led) (sym to) q.lead, refl);
            round = q.round;
            chain = subst (λ b. StandsFor g (continuing g) (module_along g m0 ((r ++ s ∷ []) ++ q.led)) (chain_from g (target_of g s) (cond b (c + 1) 0) a) q.round) (sym t)
                (subst (λ z. StandsFor g (continuing g) z (chain_from g (target_of g s) 0 a) q.round) (sym (module_along-append g m0 (r ++ s ∷ []) q.led ∙ ap (λ z. module_along g z q.led) to)) q.chain);
            is = sym (append_assoc r (s ∷ []) a) ∙ (ap (λ z. (r ++ s ∷ []) ++ z) q.is ∙ sym (append_assoc (r ++ s ∷ []) q.led q.round));
          }

  -- the place of a label is read as the address and the production that it tells
  pub read_in_grammar : (p : Place) (a : List Step) (q e : ℕ) → IsLabel g (OfEdge p) → Tells g (OfEdge p) a q e → IsReadAs g (continuing g) g.start p a q
  read_in_grammar p a q e label tells =
      let is : p ≡ place_of g g.start a q e = same_place p (place_of g g.start a q e) tells.is in
      let place : IsPlace g g.start (place_of g g.start a q e) = subst (IsPlace g g.start) is label in
      let r = told_by a g.start 0 g.start place.entered place.from [] (round_none g.start) tells.ending.route place.leads place.chain in
      subst (λ z. IsReadAs g (continuing g) g.start z a q) (sym is) (record {
        led = r.led;
        lead = r.lead;
        round = r.round;
        chain = r.chain;
        is = r.is;
        of_it = tells.ending.of_it;
        alternative = refl;
        edge = tells.ending.edge;
      })
