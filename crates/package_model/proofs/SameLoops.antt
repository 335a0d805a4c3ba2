-- The loop steps of a package are one function.
use Rattle.std.proofs.Common.{◌≡◌, ◌⊎◌, ℕ, List, Option, Some, None, sym, ◌∙◌, inl, inr}
use Rattle.wf_model.specs.Grammar.{Grammar}
use Rattle.wf_model.specs.Reach.{Step}
use Rattle.label_model.proofs.Finding.{cases_option}
use Rattle.package_model.specs.Packages.{LoopEntry}
use Rattle.package_model.specs.Loops.{AreLoopsOf}
use Rattle.package_model.specs.Translating.{Loops}

module _ (g : Grammar) (entries : List LoopEntry) (loop other : Loops) (p : AreLoopsOf g entries loop) (q : AreLoopsOf g entries other) where
  -- a module has one loop step by its entries
  one_loop : (m : ℕ) → loop m ≡ other m
  one_loop m = by (cases_option (loop m)) (cases_option (other m))
    where
      by : (loop m ≡ None) ⊎ ((s : Step) × (loop m ≡ Some s)) → (other m ≡ None) ⊎ ((s : Step) × (other m ≡ Some s)) → loop m ≡ other m
      by (inl a) (inl b) = a ∙ sym b
      by (inr s) b = s.1 ∙ sym ((q m s.0).1 ((p m s.0).0 s.1))
      by (inl a) (inr s) = (p m s.0).1 ((q m s.0).0 s.1) ∙ sym s.1

  pub one_loops : loop ≡ other
  one_loops n m = one_loop m n
