-- Loop steps, one after another from a module.
use Rattle.std.proofs.Common.{◌≡◌, ℕ, ◌≤◌, List, [], ◌∷◌, ◌++◌, length, Some, refl, sym, ap, ◌∙◌, subst, arith}
use Rattle.wf_model.specs.Grammar.{Grammar, IsAtomic}
use Rattle.wf_model.specs.Reach.{Step, target_of, module_along}
use Rattle.wf_model.specs.Linear.{IsStepOf}
use Rattle.package_model.specs.Packages.{LoopEntry}
use Rattle.package_model.specs.Loops.{AreLoopsOf, AreGoodLoops}
use Rattle.package_model.specs.Translating.{Loops, AreLoopSteps}

-- loop steps are steps of their modules
abbrev pub AreSteps : Grammar → Loops → Type 0
AreSteps g loop = (m : ℕ) (s : Step) → loop m ≡ Some s → IsStepOf g m s

pub good_steps : (g : Grammar) (entries : List LoopEntry) (loop : Loops) → AreGoodLoops g entries → AreLoopsOf g entries loop → AreSteps g loop
good_steps g entries loop good are m s q = let h = (are m s).0 q in subst (IsStepOf g m) h.3 (good.steps h.0 m h.1 h.2)

module _ (g : Grammar) (loop : Loops) where
  pub loops_append : (m : ℕ) (a b : List Step) → AreLoopSteps g loop m a → AreLoopSteps g loop (module_along g m a) b → AreLoopSteps g loop m (a ++ b)
  loops_append m [] b x y = y
  loops_append m (s ∷ a) b x y = (x.0, loops_append (target_of g s) a b x.1 y)

  pub loops_split : (m : ℕ) (a b : List Step) → AreLoopSteps g loop m (a ++ b) → AreLoopSteps g loop m a × AreLoopSteps g loop (module_along g m a) b
  loops_split m [] b x = (tt, x)
  loops_split m (s ∷ a) b x = let r = loops_split (target_of g s) a b x.1 in ((x.0, r.0), r.1)

  -- of two lists of loop steps from one module the shorter begins the longer
  pub loops_begin : (m : ℕ) (a b : List Step) → AreLoopSteps g loop m a → AreLoopSteps g loop m b → length a ≤ length b → (c : List Step) × (b ≡ a ++ c)
  loops_begin m [] b x y h = (b, refl)
  loops_begin m (s ∷ a) [] x y h = absurd (omega arith)
  loops_begin m (s ∷ a) (t ∷ b) x y h =
      let q : Some s ≡ Some t = sym x.0 ∙ y.0 in
      let e : s ≡ t = cc in
      let r = loops_begin (target_of g s) a b x.1 (subst (λ z. AreLoopSteps g loop (target_of g z) b) (sym e) y.1) (let z : length a ≤ length b = omega arith in z) in
      (r.0, ap (λ z. z ∷ b) (sym e) ∙ ap (λ l. s ∷ l) r.1)

  no_more_left : (a c : List Step) → length (a ++ c) ≡ length a → c ≡ []
  no_more_left [] [] h = refl
  no_more_left [] (s ∷ c) h = absurd (omega arith)
  no_more_left (s ∷ a) c h = no_more_left a c (omega arith)

  -- as many loop steps from one module are the same
  pub loops_once : (m : ℕ) (a b : List Step) → AreLoopSteps g loop m a → AreLoopSteps g loop m b → length a ≡ length b → a ≡ b
  loops_once m [] [] x y h = refl
  loops_once m [] (t ∷ b) x y h = absurd (omega arith)
  loops_once m (s ∷ a) [] x y h = absurd (omega arith)
  loops_once m (s ∷ a) (t ∷ b) x y h =
      let q : Some s ≡ Some t = sym x.0 ∙ y.0 in
      let e : s ≡ t = cc in
      ap (λ z. z ∷ a) e ∙ ap (λ l. t ∷ l) (loops_once (target_of g t) a b (subst (λ z. AreLoopSteps g loop (target_of g z) a) e x.1) y.1 (omega arith))

  -- none lead on from an atomic module
  pub atomic_none : AreSteps g loop → (m : ℕ) (a : List Step) → IsAtomic g m → AreLoopSteps g loop m a → a ≡ []
  atomic_none are m [] atomic x = refl
  atomic_none are m (s ∷ a) atomic x = let st = are m s x.0 in absurd (atomic s.production st.in_range st.head)
