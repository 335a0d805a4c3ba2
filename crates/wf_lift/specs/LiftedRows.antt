-- The rows of a module in each state.
use Rattle.std.specs.Prelude.{◌≡◌, ℕ, ◌*◌, ◌^◌, ◌<◌, ◌==◌, true, false, List, [], length}
use Rattle.std.specs.List.{All}
use Rattle.wf_model.specs.Grammar.{Grammar, inputs_of, outputs_of}
use Rattle.wf_model.specs.View.{View, expands, shows}
use Rattle.wf_spec.specs.Rows.{bit_in}
use Rattle.words_model.specs.Automata.{Automaton}
use Rattle.words_model.specs.Lifting.{lift_view}

-- no rows where the view expands the module; otherwise a row for each input in each state, in which the bits of those outputs are set that the lifted view shows, and no further bits
pub record AreLiftedRows (g : Grammar) (u : View) (a : Automaton) (m : ℕ) (rows : List ℕ) : Type 0 where
  pub none : expands u m ≡ true → rows ≡ []
  pub one_each : expands u m ≡ false → length rows ≡ inputs_of g m * a.states
  pub no_more : expands u m ≡ false → All (λ r. r < 2 ^ (outputs_of g m * a.states)) rows
  pub bits : expands u m ≡ false → (i o : ℕ) → (bit_in rows i o == 1) ≡ shows (lift_view a u) m i o
