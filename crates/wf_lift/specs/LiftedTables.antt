-- What is known of a grammar with its ranks and its cycles is known of the lifted grammar.
use Rattle.std.specs.Prelude.{ℕ, ◌↔◌}
use Rattle.wf_model.specs.Grammar.{Grammar}
use Rattle.wf_check.specs.Proper.{Ranking, IsRankingOf}
use Rattle.wf_recur.specs.Cycles.{CyclesSeen, AreCyclesOf}
use Rattle.words_model.specs.Lifting.{lift}

-- the tables of ranks and choices of a grammar are those of the lifted grammar, and so are its tables of cycles
abbrev pub LiftedTablesLaw : Type 0
LiftedTablesLaw =
    (g : Grammar) (k : ℕ) → record {
      ranking : (r : Ranking) → IsRankingOf g r ↔ IsRankingOf (lift g k) r;
      cycles : (c : CyclesSeen) → AreCyclesOf g c ↔ AreCyclesOf (lift g k) c;
    }
