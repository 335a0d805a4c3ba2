-- The two loops of a grammar are told in one text.
use Rattle.std.proofs.Common.{◌≡◌, ℕ, ◌++◌, ap, ◌∙◌}
use Rattle.std.specs.Prelude.{List, codes}
use Rattle.wf_model.specs.Grammar.{Grammar, module_at}
use Rattle.wf_model.specs.Reach.{Step}
use Rattle.wf_recur.specs.declared.fault.RecurFault.{RecurFault}
use Rattle.wf_recur.specs.declared.fault.RecurFault.TheVariants.{TwoLoops, NoMemory}
use Rattle.wf_recur.specs.Cycles.{step_of}
use Rattle.wf_recur.specs.Loops.{IsTwoLoops, IsFaultOf}
use Rattle.wf_recur.proofs.OneLoops.{one_way}
use Rattle.grammar_text.specs.Texts.{step_text}
use Rattle.wf_recur.specs.FaultText.{recur_text}

module _ (g : Grammar) where
  abbrev loops_text : ℕ → Step → Step → List ℕ
  loops_text m s t = (codes "TwoLoops " ++ (module_at g m).name) ++ (step_text (codes " first ") g s ++ step_text (codes " second ") g t)

  same_loops : (m n : ℕ) (s t u v : Step) → IsTwoLoops g m s t → IsTwoLoops g n u v → loops_text m s t ≡ loops_text n u v
  same_loops m n s t u v p q =
      let same = one_way g m n s t u v p q in
      ap (λ k. loops_text k s t) same.0 ∙ (ap (λ x. loops_text n x t) same.1 ∙ ap (λ x. loops_text n u x) same.2)

  -- a grammar has two loops of one text
  pub one_of_loops : (f h : RecurFault) → IsFaultOf g f → IsFaultOf g h → recur_text g f ≡ recur_text g h
  one_of_loops (TwoLoops m s t) (TwoLoops n u v) p q = same_loops m.0 n.0 (step_of s) (step_of t) (step_of u) (step_of v) p q
  one_of_loops (TwoLoops m s t) NoMemory p q = absurd q
  one_of_loops NoMemory h p q = absurd p
