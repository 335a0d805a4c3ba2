-- The loop steps of a package with good loops.
use Rattle.std.proofs.Common.{◌≡◌, ◌≢◌, ℕ, Some, None, sym, ◌∙◌}
use Rattle.wf_model.specs.Grammar.{Grammar, IsComposite}
use Rattle.wf_model.specs.Reach.{Step, target_of}
use Rattle.label_model.specs.Continuing.{continuing}
use Rattle.package_model.specs.Translating.{Loops}
use Rattle.package_model.proofs.LoopSteps.{AreSteps, good_steps}
use Rattle.package_model.proofs.InsideLabels.{continues_loop}
use Rattle.wf_loops.specs.Looped.{LoopedValue, IsLooped, loop_in}

module _ (l : LoopedValue) (h : IsLooped l) where
  abbrev g : Grammar
  g = l.accepted.grammar.core

  abbrev loop : Loops
  loop = loop_in l.steps

  -- they are steps of their modules
  pub are_steps : AreSteps g loop
  are_steps = good_steps g h.entries loop h.good h.loops

  -- a continuing step is one
  pub own_loop : (m : ℕ) (s : Step) → continuing g m ≡ Some s → loop m ≡ Some s
  own_loop m s e = continues_loop g h.entries loop h.accepted.linear h.good h.loops m s e

  -- a composite module to which one leads has one
  pub target_loops : (m : ℕ) (s : Step) → loop m ≡ Some s → IsComposite g (target_of g s) → loop (target_of g s) ≢ None
  target_loops m s e composite none =
      let t = h.good.targets m s ((h.loops m s).0 e) composite in
      let q = sym ((h.loops (target_of g s) t.0).1 t.1) ∙ none in
      absurd (cc)
