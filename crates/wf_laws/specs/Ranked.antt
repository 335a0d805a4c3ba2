-- The law of ranks: where they fall along chosen productions, an expansion by these ends.
use Rattle.std.specs.Prelude.{◌<◌, ℕ, IsTrue, List}
use Rattle.wf_model.specs.Lists.{IsIn}
use Rattle.wf_model.specs.Grammar.{Grammar, body_of, IsProductionOf}
use Rattle.wf_model.specs.View.{View, expands, IsSeenModule}
use Rattle.wf_model.specs.Safe.{IsChosen, Ends}

-- for each seen, expanded module a production is chosen, and the modules of its body have lower ranks
abbrev pub RanksFall : Grammar → View → List (ℕ × ℕ) → (ℕ → ℕ) → Type 0
RanksFall g u choice rank =
    (m : ℕ) → IsSeenModule g u m → IsTrue (expands u m) → (p : ℕ) × IsChosen choice m p × IsProductionOf g p m × ((k : ℕ) → IsIn k (body_of g p) → rank k < rank m)

-- then each seen module is expanded whole by chosen productions
abbrev pub EndsLaw : Type 0
EndsLaw =
    (g : Grammar) (u : View) (choice : List (ℕ × ℕ)) (rank : ℕ → ℕ) → RanksFall g u choice rank → (m : ℕ) → IsSeenModule g u m → (n : ℕ) × Ends g u (IsChosen choice) n m
