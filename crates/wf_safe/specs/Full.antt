-- The full assignment of a view as rows of bits.
use Rattle.std.specs.Prelude.{◌≡◌, ◌⊎◌, ℕ, List, Option, None, length, get_or}
use Rattle.wf_model.specs.Grammar.{Grammar}
use Rattle.wf_model.specs.View.{View, IsSeenModule}
use Rattle.wf_model.specs.Safe.{IsFull, IsInduced}
use Rattle.wf_model.specs.Meaning.{pairs_of}
use Rattle.wf_body.specs.Matrices.{HasRows}

-- rows that are set are one for each input of their module, with no bit past its outputs
abbrev pub AreFit : Grammar → List (Option (List ℕ)) → Type 0
AreFit g rows = (m : ℕ) → HasRows g rows m ⊎ (get_or rows m None ≡ None)

-- Rows for each seen module, with exactly the pairs that every expansion of it joins; each production of a seen, expanded module induces those of its head. There is a place for each module, and what is set there has a row for each input
pub record AreFullRows (g : Grammar) (u : View) (rows : List (Option (List ℕ))) : Type 0 where
  pub places : length rows ≡ length g.modules
  pub fit : AreFit g rows
  pub each : (m : ℕ) → IsSeenModule g u m → HasRows g rows m
  pub full : IsFull g u (pairs_of rows)
  pub induced : IsInduced g u (pairs_of rows)
