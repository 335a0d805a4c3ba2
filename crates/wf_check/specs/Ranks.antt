-- Ranks that are found in rounds.
use Rattle.std.specs.Prelude.{◌≡◌, ℕ, ◌+◌, ◌<◌, ◌≤◌, List, length, get_or, Bool, true, false, nat_lt, Option, None, Some, is_none, count_by}
use Rattle.wf_model.specs.Lists.{IsIn}
use Rattle.wf_model.specs.Grammar.{Grammar, body_of, IsProductionOf}
use Rattle.wf_model.specs.Proper.{RankWithin, IsRank}

-- what is told of a module is its rank, or that it has none
abbrev pub TellsRank : Grammar → ℕ → Option ℕ → Type 0
TellsRank g m None = (n : ℕ) → RankWithin g n m → ⊥
TellsRank g m (Some n) = IsRank g m n

-- the rank of each module is told
pub record AreRanks (g : Grammar) (ranks : List (Option ℕ)) : Type 0 where
  pub one_each : length ranks ≡ length g.modules
  pub told : (m : ℕ) → m < length g.modules → TellsRank g m (get_or ranks m None)

-- what is told of a module is its rank, if that is below n
abbrev pub TellsRankBelow : Grammar → ℕ → ℕ → Option ℕ → Type 0
TellsRankBelow g n m None = (k : ℕ) → k < n → RankWithin g k m → ⊥
TellsRankBelow g n m (Some k) = (k < n) × IsRank g m k

-- the ranks below n are told, and no others
pub record AreRanksBelow (g : Grammar) (n : ℕ) (ranks : List (Option ℕ)) : Type 0 where
  pub one_each : length ranks ≡ length g.modules
  pub told : (m : ℕ) → m < length g.modules → TellsRankBelow g n m (get_or ranks m None)

-- in a round the rank n is told too, of the modules that it has tried
pub record IsRound (g : Grammar) (n tried : ℕ) (ranks : List (Option ℕ)) : Type 0 where
  pub one_each : length ranks ≡ length g.modules
  pub told : (m : ℕ) → m < tried → m < length g.modules → TellsRankBelow g (n + 1) m (get_or ranks m None)
  pub left : (m : ℕ) → tried ≤ m → m < length g.modules → TellsRankBelow g n m (get_or ranks m None)

-- a rank is told, and it is below n
abbrev pub is_below : ℕ → Option ℕ → Bool
is_below n None = false
is_below n (Some k) = nat_lt k n

-- a production of the module has in its body modules of told ranks below n alone
pub record IsLower (g : Grammar) (ranks : List (Option ℕ)) (n m p : ℕ) : Type 0 where
  pub of_module : IsProductionOf g p m
  pub body : (k : ℕ) → IsIn k (body_of g p) → is_below n (get_or ranks k None) ≡ true

-- how many modules have no rank yet
abbrev pub unranked : List (Option ℕ) → ℕ
unranked = count_by is_none

-- ranks were told of modules that had none: of some, or of none
pub record IsMoreRanked (before : List (Option ℕ)) (some : Bool) (after : List (Option ℕ)) : Type 0 where
  pub fewer : some ≡ true → unranked after < unranked before
  pub same : some ≡ false → after ≡ before
