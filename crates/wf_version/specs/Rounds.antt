-- The cycles of a grammar of which all steps are by productions of a version.
use Rattle.std.specs.Prelude.{◌≡◌, ◌↔◌, ℕ, ◌<◌, Bool, true, false, List, length, get_or, Some}
use Rattle.wf_model.specs.Grammar.{Grammar}
use Rattle.wf_model.specs.Reach.{Step}
use Rattle.label_model.specs.Continuing.{continuing}
use Rattle.wf_recur.specs.Cycles.{CyclesSeen, round_at}

-- the continuing step of the module m is by one of the first p productions
abbrev pub ContinuesWithin : Grammar → ℕ → ℕ → Type 0
ContinuesWithin g p m = (s : Step) → continuing g m ≡ Some s → s.production < p

-- so are those of all modules of a round
abbrev pub RoundWithin : Grammar → ℕ → List ℕ → Type 0
RoundWithin g p round = (j : ℕ) → j < length round → ContinuesWithin g p (get_or round j 0)

-- a mark for each cycle, set exactly if all steps of the cycle are by the first p productions
pub record AreMarksOf (g : Grammar) (p : ℕ) (c : CyclesSeen) (marks : List Bool) : Type 0 where
  pub one_each : length marks ≡ length c.rounds
  pub told : (k : ℕ) → k < length c.rounds → (get_or marks k false ≡ true) ↔ RoundWithin g p (round_at c k)
