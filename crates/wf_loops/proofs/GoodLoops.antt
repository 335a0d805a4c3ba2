-- Loops are good exactly if their entries are of modules and their steps are good at each module.
use Rattle.std.proofs.Common.{◌≡◌, ℕ, zero, suc, ◌+◌, ◌<◌, ◌≤◌, List, [], ◌∷◌, length, Some, refl, sym, ap, ◌∙◌, subst, inl, inr, ⊎_elim, arith}
use Rattle.std.proofs.lemmas.Option.{same_Some}
use Rattle.wf_model.specs.Lists.{IsIn, AllDiffer, Walk, here, onward}
use Rattle.wf_model.specs.Grammar.{Grammar, IsAtomic, IsComposite}
use Rattle.wf_model.specs.WellFormed.{IsWellFormed}
use Rattle.wf_model.specs.Proper.{Makes, Derives}
use Rattle.wf_model.specs.Reach.{Step, target_of}
use Rattle.wf_model.specs.Linear.{IsStepOf, Continues, IsOnCycle, GoesOn}
use Rattle.wf_model.proofs.Deciding.{Either}
use Rattle.wf_model.proofs.Going.{step_makes, makes_goes}
use Rattle.wf_model.proofs.NumberLists.{differ_few}
use Rattle.wf_model.proofs.Walks.{walk-append, walk_one}
use Rattle.package_model.specs.Packages.{LoopEntry}
use Rattle.package_model.specs.Loops.{NamesModule, HasLoop, AreLoopsOf, LoopsTo, AreGoodLoops}
use Rattle.package_model.specs.Translating.{Loops}
use Rattle.wf_check.proofs.Derived.{composite_either}
use Rattle.wf_recur.proofs.Going.{walks_back, walk_on_cycle}
use Rattle.wf_recur.proofs.SomeCycles.{cycle_either}
use Rattle.wf_recur.proofs.Stepping.{target_below}
use Rattle.wf_recur.proofs.Telling.{continues_below}
use Rattle.wf_loops.specs.Entries.{AreEntriesOf}
use Rattle.wf_loops.specs.Good.{AreGoodSteps}
use Rattle.wf_loops.proofs.NamedModules.{one_named}

-- a module to which a module on a cycle goes on is on a cycle
goes_on_cycle : (g : Grammar) (a b : ℕ) → GoesOn g a b → IsOnCycle g b
goes_on_cycle g a b h = walk_on_cycle g (walks_back g (walk_one h)) (h.0, h.1)

-- a module with a step is not atomic
not_atomic : (g : Grammar) (m : ℕ) (s : Step) → IsStepOf g m s → IsAtomic g m → ⊥
not_atomic g m s of atomic = atomic s.production of.in_range of.head

-- steps, at least one, lead from a to b
abbrev LeadsTo : Grammar → ℕ → ℕ → Type 0
LeadsTo g a b = (c : ℕ) × Makes g a c × Derives g c b

-- the entries of good loops are entries of modules
pub good_entries : (g : Grammar) (entries : List LoopEntry) → AreGoodLoops g entries → AreEntriesOf g entries
good_entries g entries good = record { each = λ e i. let r = good.composite e i in (r.0, (r.1, good.steps e r.0 i r.1)); once = good.once }

module _ (g : Grammar) (formed : IsWellFormed g) (entries : List LoopEntry) (loop : Loops) (are : AreLoopsOf g entries loop) where
  module _ (good : AreGoodLoops g entries) where
    one_step : (m : ℕ) (s t : Step) → HasLoop g entries m s → HasLoop g entries m t → s ≡ t
    one_step m s t h i = same_Some s t (sym ((are m s).1 h) ∙ (are m t).1 i)

    -- from a module on a cycle loop steps lead to modules on cycles
    stays : {a b : ℕ} → Walk (LoopsTo g entries) a b → IsOnCycle g a → IsOnCycle g b
    stays here on = on
    stays (onward {x = x} {y = y} h w) on =
        let c = good.cycles x on in
        let same : h.0 ≡ c.0 = one_step x h.0 c.0 h.1 c.1 in
        stays w (goes_on_cycle g x y (c.0, c.2, ap (target_of g) (sym same) ∙ h.2))

    -- so they lead to no atomic module from one whose loop step leads to a cycle
    no_end : {a k : ℕ} → Walk (LoopsTo g entries) a k → IsAtomic g k → (s : Step) → HasLoop g entries a s → IsOnCycle g (target_of g s) → ⊥
    no_end (here {x = x}) atomic s h on = not_atomic g x s (subst (IsStepOf g x) h.3 (good.steps h.0 x h.1 h.2)) atomic
    no_end (onward {x = x} {y = y} {z = z} h w) atomic s i on =
        let same : s ≡ h.0 = one_step x s h.0 i h.1 in
        let last = stays w (subst (IsOnCycle g) (ap (target_of g) same ∙ h.2) on) in
        not_atomic g z last.0 last.1.0 atomic

    -- good loops are good at each module
    pub good_at : AreGoodSteps g loop
    good_at m below = record {
      continues = λ on. let c = good.cycles m on in (c.0, (are m c.0).1 c.1, c.2);
      leads = λ off s q composite.
          let h = (are m s).0 q in
          let t = good.targets m s h composite in
          let e = good.ends m s h off in
          ((t.0, (are (target_of g s) t.0).1 t.1), λ on. no_end e.1 e.2 s h on);
    }

  module _ (of : AreEntriesOf g entries) where
    steps : (e : LoopEntry) (m : ℕ) → IsIn e entries → NamesModule g e m → IsStepOf g m e.step
    steps e m i h = let r = of.each e i in subst (λ k. IsStepOf g k e.step) (one_named g formed e r.0 m r.1.0 h) r.1.1

    -- a loop step is one of its module
    pub its_step : (m : ℕ) (s : Step) → HasLoop g entries m s → IsStepOf g m s
    its_step m s h = subst (IsStepOf g m) h.3 (steps h.0 m h.1 h.2)

  module _ (of : AreEntriesOf g entries) (at : AreGoodSteps g loop) where
    targets : (m : ℕ) (s : Step) → HasLoop g entries m s → IsComposite g (target_of g s) → (t : Step) × HasLoop g entries (target_of g s) t
    targets m s h composite = by (cycle_either g formed m)
      where
        q : loop m ≡ Some s
        q = (are m s).1 h

        of_cycle : IsOnCycle g (target_of g s) → (t : Step) × HasLoop g entries (target_of g s) t
        of_cycle on =
            let st = its_step of m s h in
            let c = (at (target_of g s) (target_below g formed s st.in_range st.position)).continues on in
            (c.0, (are (target_of g s) c.0).0 c.1)

        by : Either (IsOnCycle g m) → (t : Step) × HasLoop g entries (target_of g s) t
        by (inl on) =
            let c = (at m h.2.0).continues on in
            let same : c.0 ≡ s = same_Some c.0 s (sym c.1 ∙ q) in
            of_cycle (goes_on_cycle g m (target_of g s) (c.0, c.2, ap (target_of g) same))
        by (inr off) = let t = ((at m h.2.0).leads off s q composite).0 in (t.0, (are (target_of g s) t.0).0 t.1)

    cycles : (m : ℕ) → IsOnCycle g m → (s : Step) × HasLoop g entries m s × Continues g m s
    cycles m on = let c = (at m (continues_below g formed m on.0 on.1)).continues on in (c.0, (are m c.0).0 c.1, c.2)

    -- modules that were passed on the way to m, all different, and each step leads on
    record ArePassed (passed : List ℕ) (m : ℕ) : Type 0 where
      differ : AllDiffer passed
      below : (k : ℕ) → IsIn k passed → k < length g.modules
      lead : (k : ℕ) → IsIn k passed → LeadsTo g k m

    -- with a module on no cycle
    passed_more : (passed : List ℕ) (m : ℕ) (s : Step) → ArePassed passed m → (IsOnCycle g m → ⊥) → HasLoop g entries m s → ArePassed (m ∷ passed) (target_of g s)
    passed_more passed m s p off h = record {
      differ = ((λ i. let l = p.lead m i in let r = makes_goes g m l.0 l.1 l.2 in off (r.0, r.1)), p.differ);
      below = λ k i. ⊎_elim (λ (q : k ≡ m). subst (λ z. z < length g.modules) (sym q) h.2.0) (λ j. p.below k j) i;
      lead = λ k i. ⊎_elim
          (λ (q : k ≡ m). (target_of g s, subst (λ z. Makes g z (target_of g s)) (sym q) makes, here))
          (λ j. let l = p.lead k j in (l.0, l.1, walk-append l.2 (walk_one makes)))
          i;
    }
      where
        makes : Makes g m (target_of g s)
        makes = step_makes g m s (its_step of m s h)

    abbrev Ends : ℕ → Type 0
    Ends m = (k : ℕ) × Walk (LoopsTo g entries) m k × IsAtomic g k

    ends_from : (fuel m : ℕ) (s : Step) (passed : List ℕ) → ArePassed passed m → length g.modules ≤ length passed + fuel → HasLoop g entries m s → (IsOnCycle g m → ⊥) → Ends m
    ends_from zero m s passed p many h off =
        let more = passed_more passed m s p off h in
        let few : length (m ∷ passed) ≤ length g.modules = differ_few (length g.modules) (m ∷ passed) more.differ more.below in
        absurd (omega arith)
    ends_from (suc fuel) m s passed p many h off =
        by (λ t i free. ends_from fuel (target_of g s) t (m ∷ passed) (passed_more passed m s p off h) (omega arith) i free) (composite_either g (target_of g s))
      where
        by : ((t : Step) → HasLoop g entries (target_of g s) t → (IsOnCycle g (target_of g s) → ⊥) → Ends (target_of g s)) → Either (IsComposite g (target_of g s)) → Ends m
        by next (inr none) = (target_of g s, walk_one (s, h, refl), λ p l e. none (p, (l, e)))
        by next (inl composite) =
            let r = (at m h.2.0).leads off s ((are m s).1 h) composite in
            let e = next r.0.0 ((are (target_of g s) r.0.0).0 r.0.1) r.1 in
            (e.0, onward (s, h, refl) e.1, e.2)

    -- steps of entries that are good at each module are good loops
    pub good_from : AreGoodLoops g entries
    good_from = record {
      composite = λ e i. let r = of.each e i in (r.0, r.1.0, (e.step.production, (r.1.1.in_range, r.1.1.head)));
      once = of.once;
      steps = steps of;
      targets = targets;
      cycles = cycles;
      ends = λ m s h off. ends_from (length g.modules) m s [] (record { differ = tt; below = λ k i. absurd i; lead = λ k i. absurd i }) (omega arith) h off;
    }
