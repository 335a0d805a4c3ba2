-- What is told of steps, one after another.
use Rattle.std.proofs.Common.{◌≡◌, ◌≢◌, ℕ, zero, suc, ◌+◌, Bool, true, false, cond, List, [], ◌∷◌, ◌++◌, length, Some, None, refl, sym, ap, ◌∙◌, subst, arith, add-zero, append_assoc, append-nil}
use Rattle.wf_model.specs.Grammar.{Grammar, alternative_of}
use Rattle.wf_model.specs.WellFormed.{IsWellFormed}
use Rattle.wf_model.specs.Reach.{Step, target_of, module_along}
use Rattle.label_model.specs.Continuing.{continuing, continues, next_by, after}
use Rattle.label_model.specs.Labels.{PlaceStep, Place}
use Rattle.label_model.specs.Places.{chain_at, steps_from, chain_from, place_of}
use Rattle.label_model.proofs.ContinuingSteps.{target_continues, continues_gives, continues_from}
use Rattle.label_model.proofs.StepsTold.{chain_none}
use Rattle.package_model.specs.Translating.{Loops, AreLoopSteps}
use Rattle.wf_translate.specs.Chains.{IsToldAlong}

module _ (g : Grammar) where
  pub told_none : (m c : ℕ) → IsToldAlong g m c [] m c []
  told_none m c = record { steps = λ b. refl; chain = λ b. refl }

  pub told_join : (m c : ℕ) (a : List Step) (k n : ℕ) (x : List PlaceStep) (b : List Step) (j o : ℕ) (y : List PlaceStep) →
      IsToldAlong g m c a k n x → IsToldAlong g k n b j o y → IsToldAlong g m c (a ++ b) j o (x ++ y)
  told_join m c a k n x b j o y h i = record {
    steps = λ d. ap (steps_from g m c) (append_assoc a b d) ∙ (h.steps (b ++ d) ∙ (ap (λ z. x ++ z) (i.steps d) ∙ sym (append_assoc x y (steps_from g j o d))));
    chain = λ d. ap (chain_from g m c) (append_assoc a b d) ∙ (h.chain (b ++ d) ∙ i.chain d);
  }

  -- a step, as it is told after c continuing steps
  abbrev pub told_step : ℕ → ℕ → Step → PlaceStep
  told_step m c s = record { chain = chain_at g m c; alternative = alternative_of g s.production; position = s.position }

  -- the continuing step is counted
  pub told_continuing : (m c : ℕ) (s : Step) → continuing g m ≡ Some s → IsToldAlong g m c (s ∷ []) (target_of g s) (c + 1) []
  told_continuing m c s e =
      let t = continues_from g m s e in
      record {
        steps = λ b. ap (λ z. cond z [] (told_step m c s ∷ []) ++ steps_from g (target_of g s) (cond z (c + 1) 0) b) t;
        chain = λ b. ap (λ z. chain_from g (target_of g s) (cond z (c + 1) 0) b) t;
      }

  -- any other step is told
  pub told_leaving : (m c : ℕ) (s : Step) → continuing g m ≢ Some s → IsToldAlong g m c (s ∷ []) (target_of g s) 0 (told_step m c s ∷ [])
  told_leaving m c s n = go (continues g m s) refl
    where
      go : (t : Bool) → continues g m s ≡ t → IsToldAlong g m c (s ∷ []) (target_of g s) 0 (told_step m c s ∷ [])
      go true t = absurd (n (continues_gives g m s t))
      go false t = record {
        steps = λ b. ap (λ z. cond z [] (told_step m c s ∷ []) ++ steps_from g (target_of g s) (cond z (c + 1) 0) b) t;
        chain = λ b. ap (λ z. chain_from g (target_of g s) (cond z (c + 1) 0) b) t;
      }

  -- a step of a module on no cycle is told without a chain number
  pub told_off : (m c : ℕ) (s : Step) → continuing g m ≡ None →
      IsToldAlong g m c (s ∷ []) (target_of g s) 0 (record { chain = None; alternative = alternative_of g s.production; position = s.position } ∷ [])
  told_off m c s e =
      subst (λ z. IsToldAlong g m c (s ∷ []) (target_of g s) 0 (record { chain = z; alternative = alternative_of g s.production; position = s.position } ∷ [])) (chain_none g m c e)
      (told_leaving m c s (λ h. let q = sym e ∙ h in absurd (cc)))

  -- the place of steps is what is told of them
  pub told_place : (m : ℕ) (a : List Step) (k n : ℕ) (x : List PlaceStep) (p e : ℕ) → IsToldAlong g m 0 a k n x →
      ◌≡◌ {A = Place} (record { steps = x; chain = chain_at g k n; alternative = alternative_of g p; edge = e }) (place_of g m a p e)
  told_place m a k n x p e h =
      let steps : steps_from g m 0 a ≡ x = ap (steps_from g m 0) (sym (append-nil a)) ∙ (h.steps [] ∙ append-nil x) in
      let chain : chain_from g m 0 a ≡ chain_at g k n = ap (chain_from g m 0) (sym (append-nil a)) ∙ h.chain [] in
      λ i. record { steps = sym steps i; chain = sym chain i; alternative = alternative_of g p; edge = e }

  -- loop steps round a cycle, counted and not told
  pub record OnRound (loop : Loops) (m i c : ℕ) : Type 0 where
    pub round : List Step
    pub loops : AreLoopSteps g loop m round
    pub count : length round ≡ c
    pub to : module_along g m round ≡ after g c m
    pub told : IsToldAlong g m i round (after g c m) (i + c) []

  pub on_round : IsWellFormed g → (loop : Loops) → ((m : ℕ) (s : Step) → continuing g m ≡ Some s → loop m ≡ Some s) → (c m i : ℕ) (s : Step) → continuing g m ≡ Some s → OnRound loop m i c
  on_round wf loop own zero m i s e = record {
    round = [];
    loops = tt;
    count = refl;
    to = refl;
    told = subst (λ z. IsToldAlong g m i [] m z []) (sym (add-zero i)) (told_none m i);
  }
  on_round wf loop own (suc c) m i s e =
      let w = target_continues g wf m s e in
      let r = on_round wf loop own c (target_of g s) (i + 1) w.0 w.1 in
      let k : after g c (target_of g s) ≡ after g (suc c) m = ap (λ o. after g c (next_by g m o)) (sym e) in
      let n : (i + 1) + c ≡ i + suc c = omega arith in
      record {
        round = s ∷ r.round;
        loops = (own m s e, r.loops);
        count = ap suc r.count;
        to = r.to ∙ k;
        told = subst (λ z. IsToldAlong g m i (s ∷ r.round) z (i + suc c) []) k
            (subst (λ z. IsToldAlong g m i (s ∷ r.round) (after g c (target_of g s)) z []) n
            (told_join m i (s ∷ []) (target_of g s) (i + 1) [] r.round (after g c (target_of g s)) ((i + 1) + c) [] (told_continuing m i s e) r.told));
      }
