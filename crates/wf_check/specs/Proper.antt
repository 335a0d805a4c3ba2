-- Ranks and choices of the modules of a grammar.
use Rattle.std.specs.Prelude.{◌≡◌, ℕ, suc, ◌<◌, ◌≤◌, List, length, get_or}
use Rattle.wf_model.specs.Lists.{IsIn}
use Rattle.wf_model.specs.Grammar.{Grammar, body_of, IsComposite, IsProductionOf}
use Rattle.wf_model.specs.Proper.{RankWithin, IsRank}

-- a number and a production for each module; the production says nothing of an atomic module
pub record Ranking : Type 0 where
  pub ranks : List ℕ
  pub choices : List ℕ

-- a production attains the rank of its head: all modules of the body have lower ranks
pub record Attains (g : Grammar) (m p : ℕ) : Type 0 where
  pub of_module : IsProductionOf g p m
  pub below : ℕ
  pub rank : IsRank g m (suc below)
  pub body : (k : ℕ) → IsIn k (body_of g p) → RankWithin g below k

-- the choice of a module is the least production that attains its rank
abbrev pub IsChoice : Grammar → ℕ → ℕ → Type 0
IsChoice g m p = Attains g m p × ((q : ℕ) → Attains g m q → p ≤ q)

-- each module has its rank, and each composite one its choice
pub record IsRankingOf (g : Grammar) (r : Ranking) : Type 0 where
  pub one_rank_each : length r.ranks ≡ length g.modules
  pub one_choice_each : length r.choices ≡ length g.modules
  pub ranks : (m : ℕ) → m < length g.modules → IsRank g m (get_or r.ranks m 0)
  pub choices : (m : ℕ) → IsComposite g m → IsChoice g m (get_or r.choices m 0)
