-- The chosen production of a composite module has modules of lower ranks.
use Rattle.std.proofs.Common.{ℕ, suc, ◌<◌, ◌≤◌, length, subst, arith}
use Rattle.wf_model.specs.Lists.{IsIn}
use Rattle.wf_model.specs.Grammar.{Grammar, body_of, IsComposite, IsProductionOf}
use Rattle.wf_model.specs.WellFormed.{IsWellFormed}
use Rattle.wf_check.specs.Proper.{Ranking, IsRankingOf}
use Rattle.wf_safe.specs.Inducing.{rank_of, choice_of}

-- what is known of the choice of a composite module
pub record Falls (g : Grammar) (r : Ranking) (m : ℕ) : Type 0 where
  pub of_module : IsProductionOf g (choice_of r m) m
  pub positive : 0 < rank_of r m
  pub lower : (k : ℕ) → IsIn k (body_of g (choice_of r m)) → rank_of r k < rank_of r m

pub falls : (g : Grammar) (r : Ranking) (m : ℕ) → IsWellFormed g → IsRankingOf g r → IsComposite g m → Falls g r m
falls g r m wf h c =
    let a = (h.choices m c).0 in
    let within : m < length g.modules = subst (λ k. k < length g.modules) c.1.1 (wf.heads c.0 c.1.0) in
    let least : suc a.below ≤ rank_of r m = a.rank.1 (rank_of r m) (h.ranks m within).0 in
    record {
      of_module = a.of_module;
      positive = omega arith;
      lower = λ k i. let b = (h.ranks k ((wf.bodies (choice_of r m) a.of_module.0).modules k i)).1 a.below (a.body k i) in omega arith;
    }
