-- A place enters each strong component once.
use Rattle.std.proofs.Common.{◌≡◌, ℕ, zero, suc, ◌+◌, ◌<◌, ◌≤◌, ◌&&◌, Bool, true, false, cond, List, [], ◌∷◌, ◌++◌, length, map, count_by, Option, Some, None, is_some, refl, sym, ap, ◌∙◌, subst, inl, inr, ⊎_elim, arith, true≢false, length-append}
use Rattle.std.specs.Prelude.{filter}
use Rattle.std.proofs.lemmas.List.{length-map}
use Rattle.std.proofs.lemmas.List.Sums.{length-filter}
use Rattle.std.proofs.lemmas.Bool.{and_from}
use Rattle.wf_model.specs.Lists.{IsIn, AllDiffer, numbers_from, here}
use Rattle.wf_model.specs.Grammar.{Grammar}
use Rattle.wf_model.specs.WellFormed.{IsWellFormed}
use Rattle.wf_model.specs.Proper.{Derives}
use Rattle.wf_model.specs.Reach.{Step, target_of}
use Rattle.wf_model.specs.Linear.{IsStepOf, IsLinear}
use Rattle.wf_model.proofs.Lists.{in_map_from, in_append_cases}
use Rattle.wf_model.proofs.Walks.{walk-append, walk_one}
use Rattle.label_model.specs.Continuing.{continuing, is_least, next_by, after}
use Rattle.label_model.specs.Labels.{PlaceStep, Place, IsChain, Leaves, Leads, IsPlace}
use Rattle.label_model.specs.Bound.{components, cycles, chains}
use Rattle.label_model.specs.PlaceLaws.{OneVisitLaw}
use Rattle.wf_model.proofs.Composites.{composite_is}
use Rattle.wf_model.proofs.Going.{step_makes}
use Rattle.label_model.proofs.Differing.{no_more_below}
use Rattle.label_model.proofs.Finding.{cases_option}
use Rattle.label_model.proofs.ContinuingSteps.{continuing_is, continuing_law}
use Rattle.label_model.proofs.LeastModules.{least, least_is, apart, composite_from, composite_up, cycle_up}
use Rattle.wf_model.specs.Composite.{is_composite}

-- one element more to count
pub count_cons : (s : PlaceStep) (ss : List PlaceStep) → count_by (λ (s : PlaceStep). is_some s.chain) (s ∷ ss) ≡ cond (is_some s.chain) 1 0 + count_by (λ (s : PlaceStep). is_some s.chain) ss
count_cons s ss = sym (length-filter (λ (s : PlaceStep). is_some s.chain) (s ∷ ss)) ∙ (go (is_some s.chain) ∙ ap (λ z. cond (is_some s.chain) 1 0 + z) (length-filter (λ (s : PlaceStep). is_some s.chain) ss))
  where
    go : (t : Bool) → length (cond t (s ∷ filter (λ (s : PlaceStep). is_some s.chain) ss) (filter (λ (s : PlaceStep). is_some s.chain) ss)) ≡ cond t 1 0 + length (filter (λ (s : PlaceStep). is_some s.chain) ss)
    go true = omega arith
    go false = omega arith

module _ (g : Grammar) (wf : IsWellFormed g) where
  step_leads : (m : ℕ) (s : Step) → IsStepOf g m s → Derives g m (target_of g s)
  step_leads m s h = walk_one (step_makes g m s h)

  after_leads : (c m : ℕ) → Derives g m (after g c m)
  after_leads zero m = here
  after_leads (suc c) m = go (continuing g m) refl (λ k. after_leads c k)
    where
      go : (o : Option Step) → continuing g m ≡ o → ((k : ℕ) → Derives g k (after g c k)) → Derives g m (after g c (next_by g m o))
      go None e ih = ih m
      go (Some s) e ih = walk-append (step_leads m s (continuing_is g m s e).0) (ih (target_of g s))

  chain_goes : (m : ℕ) (c : Option ℕ) (k : ℕ) → IsChain g m c k → Derives g m k
  chain_goes m None k h = subst (λ z. Derives g m z) h.1 here
  chain_goes m (Some c) k h = subst (λ z. Derives g m z) h.2 (after_leads c m)

  -- the chain's first module has a production if the last one has
  chain_composite : (m : ℕ) (c : Option ℕ) (k : ℕ) → IsChain g m c k → is_composite g k ≡ true → is_composite g m ≡ true
  chain_composite m c k h p = composite_up g wf (chain_goes m c k h) p

  on_chain : (m : ℕ) (c : Option ℕ) (k : ℕ) → IsChain g m c k → is_some c ≡ true → is_some (continuing g m) ≡ true
  on_chain m None k h e = absurd (true≢false (sym e))
  on_chain m (Some c) k h e = ⊎_elim (λ q. absurd (h.0 q)) (λ q. ap is_some q.1) (cases_option (continuing g m))

  module _ (lin : IsLinear g) where
    -- where a place has left a module it does not come back
    left : (m : ℕ) (s : PlaceStep) (t : Step) → Leaves g m s t → Derives g (target_of g t) m → ⊥
    left m s t l w = l.leaves ((continuing_law g wf lin l.from t).1 (l.step, walk-append w (chain_goes m s.chain l.from l.chain)))

    keep : Bool → ℕ → List ℕ
    keep t m = cond t (m ∷ []) []

    -- the modules that a place enters, of those whose chain number passes a test
    entered : (Option ℕ → Bool) → (m : ℕ) (ss : List PlaceStep) (c : Option ℕ) (k : ℕ) → Leads g m ss k → List ℕ
    entered p m [] c k h = keep (p c) m
    entered p m (s ∷ ss) c k h = keep (p s.chain) m ++ entered p (target_of g h.0) ss c k h.2

    in_keep : (t : Bool) (m x : ℕ) → IsIn x (keep t m) → (x ≡ m) × (t ≡ true)
    unfolding keep
    in_keep true m x (inl e) = (e, refl)
    in_keep true m x (inr e) = absurd e
    in_keep false m x h = absurd h

    goes_down : (m : ℕ) (s : PlaceStep) (t : Step) → Leaves g m s t → Derives g m (target_of g t)
    goes_down m s t l = walk-append (chain_goes m s.chain l.from l.chain) (step_leads l.from t l.step)

    record IsEntered (p : Option ℕ → Bool) (m x : ℕ) : Type 0 where
      small : x < length g.modules
      below : Derives g m x
      composite : is_composite g x ≡ true
      on : ((c : Option ℕ) → p c ≡ true → is_some c ≡ true) → is_some (continuing g x) ≡ true

    target_small : (m : ℕ) (t : Step) → IsStepOf g m t → target_of g t < length g.modules
    target_small m t h = let q = step_makes g m t h in (wf.bodies q.0 q.1.0).modules (target_of g t) q.2

    entered_is : (p : Option ℕ → Bool) (m : ℕ) (ss : List PlaceStep) (c : Option ℕ) (k : ℕ) (h : Leads g m ss k) (j : ℕ) → m < length g.modules → IsChain g k c j → is_composite g j ≡ true → (x : ℕ) → IsIn x (entered p m ss c k h) → IsEntered p m x
    unfolding entered
    entered_is p m [] c k h j small hc comp x i =
        let q = in_keep (p c) m x i in
        let hc' : IsChain g m c j = subst (λ z. IsChain g z c j) (sym h) hc in
        let me : IsEntered p m m = record { small = small; below = here; composite = chain_composite m c j hc' comp; on = λ f. on_chain m c j hc' (f c q.1) } in
        subst (λ z. IsEntered p m z) (sym q.0) me
    entered_is p m (s ∷ ss) c k h j small hc comp x i =
        let l = h.1 in
        ⊎_elim
        (λ a. let q = in_keep (p s.chain) m x a in
        let me : IsEntered p m m = record { small = small; below = here; composite = chain_composite m s.chain l.from l.chain (composite_from g wf l.from (target_of g h.0) (step_makes g l.from h.0 l.step)); on = λ f. on_chain m s.chain l.from l.chain (f s.chain q.1) } in
        subst (λ z. IsEntered p m z) (sym q.0) me)
        (λ a. let r = entered_is p (target_of g h.0) ss c k h.2 j (target_small l.from h.0 l.step) hc comp x a in
        record { small = r.small; below = walk-append (goes_down m s h.0 l) r.below; composite = r.composite; on = r.on })
        (in_append_cases x (keep (p s.chain) m) (entered p (target_of g h.0) ss c k h.2) i)

    differ_keep : (t : Bool) (m : ℕ) (xs : List ℕ) → AllDiffer (map (least g) xs) → ((x : ℕ) → IsIn x xs → least g m ≡ least g x → ⊥) → AllDiffer (map (least g) (keep t m ++ xs))
    unfolding keep
    differ_keep false m xs d h = d
    differ_keep true m xs d h = ((λ i. let r = in_map_from (least g) (least g m) xs i in h r.0 r.1 r.2), d)

    alone : (t : Bool) (m : ℕ) → AllDiffer (map (least g) (keep t m))
    unfolding keep
    alone true m = ((λ i. i), tt)
    alone false m = tt

    entered_differ : (p : Option ℕ → Bool) (m : ℕ) (ss : List PlaceStep) (c : Option ℕ) (k : ℕ) (h : Leads g m ss k) (j : ℕ) → m < length g.modules → IsChain g k c j → is_composite g j ≡ true → AllDiffer (map (least g) (entered p m ss c k h))
    unfolding entered
    entered_differ p m [] c k h j small hc comp = alone (p c) m
    entered_differ p m (s ∷ ss) c k h j small hc comp =
        let l = h.1 in
        let t = target_of g h.0 in
        differ_keep (p s.chain) m (entered p t ss c k h.2) (entered_differ p t ss c k h.2 j (target_small l.from h.0 l.step) hc comp)
        (λ x i e. let r = entered_is p t ss c k h.2 j (target_small l.from h.0 l.step) hc comp x i in apart g wf m x (λ w. left m s h.0 l (walk-append r.below w)) e)

    -- so they are no more than the components whose least module passes
    entered_few : (p : Option ℕ → Bool) (pass : ℕ → Bool) (m : ℕ) (ss : List PlaceStep) (c : Option ℕ) (k : ℕ) (h : Leads g m ss k) (j : ℕ) → m < length g.modules → IsChain g k c j → is_composite g j ≡ true →
        ((x : ℕ) → IsEntered p m x → pass (least g x) ≡ true) → length (entered p m ss c k h) ≤ count_by pass (numbers_from 0 (length g.modules))
    entered_few p pass m ss c k h j small hc comp good =
        let xs = entered p m ss c k h in
        let r = no_more_below pass (length g.modules) (map (least g) xs) (entered_differ p m ss c k h j small hc comp)
        (λ y i. let q = in_map_from (least g) y xs i in
        let e = entered_is p m ss c k h j small hc comp q.0 q.1 in
        let low = (least_is g wf q.0).low in
        let lo : least g q.0 < length g.modules = omega (arith, e.small, low) in
        (subst (λ z. z < length g.modules) (sym q.2) lo, ap pass q.2 ∙ good q.0 e)) in
        omega (arith, r, length-map xs (least g))

    entered_all : (m : ℕ) (ss : List PlaceStep) (c : Option ℕ) (k : ℕ) (h : Leads g m ss k) → length (entered (λ _. true) m ss c k h) ≡ suc (length ss)
    unfolding entered keep
    entered_all m [] c k h = refl
    entered_all m (s ∷ ss) c k h = ap suc (entered_all (target_of g h.0) ss c k h.2)

    length-keep : (t : Bool) (m : ℕ) → length (keep t m) ≡ cond t 1 0
    unfolding keep
    length-keep true m = refl
    length-keep false m = refl

    entered_chains : (m : ℕ) (ss : List PlaceStep) (c : Option ℕ) (k : ℕ) (h : Leads g m ss k) → length (entered is_some m ss c k h) ≡ count_by (λ (s : PlaceStep). is_some s.chain) ss + cond (is_some c) 1 0
    unfolding entered
    entered_chains m [] c k h = length-keep (is_some c) m ∙ omega arith
    entered_chains m (s ∷ ss) c k h =
        omega (arith, length-append (keep (is_some s.chain) m) (entered is_some (target_of g h.0) ss c k h.2), length-keep (is_some s.chain) m, entered_chains (target_of g h.0) ss c k h.2, count_cons s ss)

    pub visits_once : (m : ℕ) (ss : List PlaceStep) (c : Option ℕ) (k j : ℕ) → m < length g.modules → Leads g m ss k → IsChain g k c j → is_composite g j ≡ true →
        (length ss < components g) × (count_by (λ (s : PlaceStep). is_some s.chain) ss + cond (is_some c) 1 0 ≤ cycles g)
    visits_once m ss c k j small h hc comp =
        let a = entered_few (λ _. true) (λ m. is_composite g m && is_least g m) m ss c k h j small hc comp
        (λ x e. and_from (is_composite g (least g x)) (is_least g (least g x)) (composite_up g wf (least_is g wf x).up e.composite) (least_is g wf x).first) in
        let b = entered_few is_some (λ m. is_some (continuing g m) && is_least g m) m ss c k h j small hc comp
        (λ x e. and_from (is_some (continuing g (least g x))) (is_least g (least g x)) (cycle_up g wf (least_is g wf x).up (least_is g wf x).down (e.on (λ c q. q))) (least_is g wf x).first) in
        (omega (arith, a, entered_all m ss c k h), omega (arith, b, entered_chains m ss c k h))

    one_visit : (m : ℕ) (p : Place) → m < length g.modules → IsPlace g m p → (length p.steps < components g) × (chains p ≤ cycles g)
    one_visit m p small h = visits_once m p.steps p.chain h.entered h.from small h.leads h.chain (composite_is g h.from (h.production, h.of_it))

pub one_visit_law : OneVisitLaw
one_visit_law g wf lin m p small h = one_visit g wf lin m p small h
