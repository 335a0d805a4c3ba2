-- Rows of which a view of a grammar can be made, and what this view expands and shows.
use Rattle.std.specs.Prelude.{◌≡◌, ◌<◌, ◌^◌, ◌==◌, ℕ, Bool, false, IsTrue, List, [], length, get_or}
use Rattle.std.specs.List.{All}
use Rattle.std.specs.Int.{bit_at}
use Rattle.wf_model.specs.Grammar.{Grammar, IsComposite, inputs_of, outputs_of}
use Rattle.wf_model.specs.View.{View, expands, shows}

-- a flag and rows fit a module
pub record FitModule (g : Grammar) (m : ℕ) (flag : Bool) (rows : List ℕ) : Type 0 where
  -- a flagged module is composite
  pub composite : IsTrue flag → IsComposite g m
  -- and has no rows
  pub none : IsTrue flag → rows ≡ []
  -- a module that is not flagged has one row for each input
  pub one_row_each : flag ≡ false → length rows ≡ inputs_of g m
  -- and in its rows no bit is set past its last output
  pub no_more : flag ≡ false → All (λ r. r < 2 ^ outputs_of g m) rows

-- flags of the modules to be expanded, and the rows of the pairs to be shown of each module, fit a grammar
pub record FitGrammar (g : Grammar) (flags : List Bool) (rows : List (List ℕ)) : Type 0 where
  -- each module has one flag
  pub one_flag_each : length flags ≡ length g.modules
  -- and one list of rows
  pub one_list_each : length rows ≡ length g.modules
  -- and they fit it
  pub each : (m : ℕ) → m < length g.modules → FitModule g m (get_or flags m false) (get_or rows m [])

-- a view is that of these flags and rows
pub record IsViewOfRows (flags : List Bool) (rows : List (List ℕ)) (u : View) : Type 0 where
  -- it expands the flagged modules, and no others
  pub expanded : (m : ℕ) → expands u m ≡ get_or flags m false
  -- of a module it shows an input and an output exactly if, in the row of this input, the bit of this output is set
  pub shown : (m i o : ℕ) → shows u m i o ≡ (bit_at (get_or (get_or rows m []) i 0) o == 1)
