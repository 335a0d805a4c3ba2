-- Whether numbers of modules and productions are an earlier version of a grammar can be decided.
use Rattle.std.proofs.Common.{◌≡◌, ℕ, ◌<◌, ◌≤◌, true, length, take, inl, inr}
use Rattle.std.specs.List.{list_all}
use Rattle.wf_model.specs.Grammar.{Grammar}
use Rattle.wf_model.specs.Versions.{IsVersion}
use Rattle.wf_model.proofs.Deciding.{Either, either_same, below_either, within_either, test_either}
use Rattle.wf_spec.proofs.Versions.{has_first, passes_gives, version_passes}

-- numbers of modules and productions are a version of a grammar, or not
pub version_either : (g : Grammar) (m p : ℕ) → Either (IsVersion g m p)
version_either g m p = go (within_either m (length g.modules)) (within_either p (length g.productions)) (below_either g.start m) (test_either (list_all (has_first m) (take p g.productions)))
  where
    go : Either (m ≤ length g.modules) → Either (p ≤ length g.productions) → Either (g.start < m) → Either (list_all (has_first m) (take p g.productions) ≡ true) → Either (IsVersion g m p)
    go (inr none) within start pass = inr (λ is. none is.modules)
    go (inl few) (inr none) start pass = inr (λ is. none is.productions)
    go (inl few) (inl within) (inr none) pass = inr (λ is. none is.start)
    go (inl few) (inl within) (inl start) pass = either_same (passes_gives g m p within few start) (version_passes g m p within) pass
