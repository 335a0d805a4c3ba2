-- The steps of an address lead where it leads, and the place of an address and an ending is a place.
use Rattle.std.proofs.Common.{◌≡◌, ◌≢◌, ℕ, zero, suc, ◌+◌, ◌^◌, ◌<◌, ◌≤◌, Bool, true, false, cond, List, [], ◌∷◌, ◌++◌, length, Option, Some, None, refl, sym, ap, ◌∙◌, arith, add-one}
use Rattle.wf_model.specs.Grammar.{Grammar, alternative_of}
use Rattle.wf_model.specs.WellFormed.{IsWellFormed}
use Rattle.wf_model.specs.Reach.{Step, target_of, module_along}
use Rattle.wf_model.specs.Routes.{IsRoute}
use Rattle.wf_model.specs.Linear.{IsStepOf}
use Rattle.label_model.specs.Continuing.{continuing, continues, next_by, after}
use Rattle.label_model.specs.Labels.{PlaceStep, IsChain, Leaves, Leads, IsPlace}
use Rattle.label_model.specs.Places.{chain_by, chain_at, count_after, steps_from, chain_from, IsEnding}
use Rattle.label_model.proofs.ContinuingSteps.{target_continues, continues_gives, continues_not, after_more}

-- c continuing steps have led from m0 to m
pub record IsPassed (g : Grammar) (m0 c m : ℕ) : Type 0 where
  pub is : after g c m0 ≡ m
  pub began : 0 < c → continuing g m0 ≢ None
  pub goes_on : 0 < c → continuing g m ≢ None

-- none have led from a module to itself
pub passed_none : (g : Grammar) (m : ℕ) → IsPassed g m 0 m
passed_none g m = record { is = refl; began = λ z. absurd (omega arith); goes_on = λ z. absurd (omega arith) }

-- the steps lead from m to some module, and the chain number from there to k
pub record IsLed (g : Grammar) (m : ℕ) (steps : List PlaceStep) (c : Option ℕ) (k : ℕ) : Type 0 where
  pub entered : ℕ
  pub leads : Leads g m steps entered
  pub chain : IsChain g entered c k

-- after c continuing steps to m and along the steps, each number of continuing steps one after another is below 2^24
abbrev pub AreSmall : Grammar → ℕ → ℕ → List Step → Type 0
AreSmall g m c [] = c + 1 ≤ 2 ^ 24
AreSmall g m c (s ∷ a) = (c + 1 ≤ 2 ^ 24) × AreSmall g (target_of g s) (count_after g m c s) a

-- so it is where there are few steps
few_small : (g : Grammar) (a : List Step) (m c : ℕ) → c + length a < 2 ^ 24 → AreSmall g m c a
few_small g [] m c h = omega arith
few_small g (s ∷ a) m c h = (omega arith, few_small g a (target_of g s) (count_after g m c s) (few (continues g m s)))
  where
    few : (t : Bool) → cond t (c + 1) 0 + length a < 2 ^ 24
    few true = omega arith
    few false = omega arith

some_not_none : (g : Grammar) (m : ℕ) (s : Step) → continuing g m ≡ Some s → continuing g m ≢ None
some_not_none g m s e f = let z = sym e ∙ f in absurd (cc)

module _ (g : Grammar) (wf : IsWellFormed g) where
  pub passed_more : (m0 c m : ℕ) (s : Step) → IsPassed g m0 c m → continuing g m ≡ Some s → IsPassed g m0 (c + 1) (target_of g s)
  passed_more m0 c m s h e =
      let w = target_continues g wf m s e in
      record {
        is = ap (λ z. after g z m0) (add-one c) ∙ (after_more g c m0 ∙ (ap (λ z. next_by g z (continuing g z)) h.is ∙ ap (next_by g m) e));
        began = λ _. begins c h;
        goes_on = λ _. some_not_none g (target_of g s) w.0 w.1;
      }
    where
      begins : (c : ℕ) → IsPassed g m0 c m → continuing g m0 ≢ None
      begins zero h = some_not_none g m0 s (ap (λ z. continuing g z) h.is ∙ e)
      begins (suc c) h = h.began (omega arith)

  pub passed_chain : (m0 c m : ℕ) → IsPassed g m0 c m → c + 1 ≤ 2 ^ 24 → IsChain g m0 (chain_at g m c) m
  passed_chain m0 c m h small = go c h small (continuing g m) refl
    where
      go : (c : ℕ) → IsPassed g m0 c m → c + 1 ≤ 2 ^ 24 → (o : Option Step) → continuing g m ≡ o → IsChain g m0 (chain_by o c) m
      go zero h small None e = (ap (λ z. continuing g z) h.is ∙ e, h.is)
      go (suc c) h small None e = absurd (h.goes_on (omega arith) e)
      go zero h small (Some s) e = (some_not_none g m0 s (ap (λ z. continuing g z) h.is ∙ e), small, h.is)
      go (suc c) h small (Some s) e = (h.began (omega arith), small, h.is)

  -- after c continuing steps from m0, a step of m that is not the continuing one leaves m0 as it is told
  pub passed_leaves : (m0 c m : ℕ) (s : Step) → IsPassed g m0 c m → c + 1 ≤ 2 ^ 24 → IsStepOf g m s → continues g m s ≡ false →
      Leaves g m0 (record { chain = chain_at g m c; alternative = alternative_of g s.production; position = s.position }) s
  passed_leaves m0 c m s h small x t = record {
    from = m;
    chain = passed_chain m0 c m h small;
    step = x;
    alternative = refl;
    position = refl;
    leaves = continues_not g m s t;
  }

  -- the steps and the chain number of a route lead where it leads, if the chain numbers are small
  pub led_small : (a : List Step) (m0 c m : ℕ) → IsPassed g m0 c m → IsRoute g m a → AreSmall g m c a → IsLed g m0 (steps_from g m c a) (chain_from g m c a) (module_along g m a)
  led_small [] m0 c m h route small = record { entered = m0; leads = refl; chain = passed_chain m0 c m h small }
  led_small (s ∷ a) m0 c m h route small = go (continues g m s) refl small.1 (λ k0 d w q. led_small a k0 d (target_of g s) w route.3 q)
    where
      go : (t : Bool) → continues g m s ≡ t → AreSmall g (target_of g s) (cond t (c + 1) 0) a →
          ((k0 d : ℕ) → IsPassed g k0 d (target_of g s) → AreSmall g (target_of g s) d a → IsLed g k0 (steps_from g (target_of g s) d a) (chain_from g (target_of g s) d a) (module_along g (target_of g s) a)) →
          IsLed g m0 (cond t [] (record { chain = chain_at g m c; alternative = alternative_of g s.production; position = s.position } ∷ []) ++ steps_from g (target_of g s) (cond t (c + 1) 0) a) (chain_from g (target_of g s) (cond t (c + 1) 0) a) (module_along g (target_of g s) a)
      go true t few ih = ih m0 (c + 1) (passed_more m0 c m s h (continues_gives g m s t)) few
      go false t few ih =
          let r = ih (target_of g s) 0 (passed_none g (target_of g s)) few in
          let l = passed_leaves m0 c m s h small.0 (record { in_range = route.0; head = route.1; position = route.2 }) t in
          record { entered = r.entered; leads = (s, l, r.leads); chain = r.chain }

  -- so they are in a route that is short
  pub led_from : (a : List Step) (m0 c m : ℕ) → IsPassed g m0 c m → IsRoute g m a → c + length a < 2 ^ 24 → IsLed g m0 (steps_from g m c a) (chain_from g m c a) (module_along g m a)
  led_from a m0 c m h route few = led_small a m0 c m h route (few_small g a m c few)

  pub valid_small : (a : List Step) (m0 c m p e : ℕ) → IsPassed g m0 c m → IsEnding g m a p e → AreSmall g m c a → IsPlace g m0 (record { steps = steps_from g m c a; chain = chain_from g m c a; alternative = alternative_of g p; edge = e })
  valid_small a m0 c m p e h end small =
      let r = led_small a m0 c m h end.route small in
      record { entered = r.entered; leads = r.leads; from = module_along g m a; chain = r.chain; production = p; of_it = end.of_it; alternative = refl; edge = end.edge }

  pub valid_from : (a : List Step) (m0 c m p e : ℕ) → IsPassed g m0 c m → IsEnding g m a p e → c + length a < 2 ^ 24 → IsPlace g m0 (record { steps = steps_from g m c a; chain = chain_from g m c a; alternative = alternative_of g p; edge = e })
  valid_from a m0 c m p e h end few = valid_small a m0 c m p e h end (few_small g a m c few)
