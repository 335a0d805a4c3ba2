-- Laws of continuing steps: what is computed is what the definitions name, and chains come back after a whole round.
use Rattle.std.specs.Prelude.{◌≡◌, ◌↔◌, ℕ, ◌+◌, ◌%◌, true, List, length, Some}
use Rattle.wf_model.specs.Grammar.{Grammar}
use Rattle.wf_model.specs.WellFormed.{IsWellFormed}
use Rattle.wf_model.specs.Proper.{Derives}
use Rattle.wf_model.specs.Reach.{Step}
use Rattle.wf_model.specs.Linear.{IsLinear, Continues, GoesOnBy, IsCycleLength, AreCycles}
use Rattle.label_model.specs.Continuing.{derives, continuing, after}
use Rattle.label_model.specs.Bound.{cycles}

-- in a well-formed grammar the computed test tells what derives what
abbrev pub DerivesLaw : Type 0
DerivesLaw = (g : Grammar) → IsWellFormed g → (a b : ℕ) → (derives g a b ≡ true) ↔ Derives g a b

-- in a well-formed, strictly linear grammar the computed step is the continuing step
abbrev pub ContinuingLaw : Type 0
ContinuingLaw = (g : Grammar) → IsWellFormed g → IsLinear g → (m : ℕ) (s : Step) → (continuing g m ≡ Some s) ↔ Continues g m s

-- Continuing steps lead along a cycle. Let the cycle of some module have l modules, and let m stand at a place of it, counted in continuing steps from there.
-- After l continuing steps m is met again, so of a chain number only the rest of its division by l tells where it leads
abbrev pub PeriodLaw : Type 0
PeriodLaw =
    (g : Grammar) → IsWellFormed g → IsLinear g →
    record {
      leads : (n a b : ℕ) → GoesOnBy g n a b → after g n a ≡ b;
      period : (first l place m c : ℕ) → IsCycleLength g first l → GoesOnBy g place first m → after g (c + l) m ≡ after g c m;
      rest : (first l place m c : ℕ) → IsCycleLength g first l → GoesOnBy g place first m → after g c m ≡ after g ((place + c) % l) first;
    }

-- the cycles that are counted are those that are numbered
abbrev pub CyclesLaw : Type 0
CyclesLaw = (g : Grammar) → IsWellFormed g → IsLinear g → (leasts : List ℕ) → AreCycles g leasts → length leasts ≡ cycles g
