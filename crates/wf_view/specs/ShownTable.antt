-- The pairs that a view shows, as a table with a place for each module.
use Rattle.std.specs.Prelude.{◌≡◌, ℕ, ◌<◌, ◌≤◌, cond, List, [], Option, Some, None, length, get_or}
use Rattle.wf_model.specs.Grammar.{Grammar}
use Rattle.wf_model.specs.View.{expands}
use Rattle.wf_view.specs.Held.{HeldView}

-- of the modules below n those have rows that the view does not expand: the rows of the pairs that it shows. No other module has rows
pub record AreOnlyShownBelow (g : Grammar) (v : HeldView) (n : ℕ) (rows : List (Option (List ℕ))) : Type 0 where
  pub each : length rows ≡ length g.modules
  pub below : (m : ℕ) → m < n → get_or rows m None ≡ cond (expands v.core m) None (Some (get_or v.rows m []))
  pub none : (m : ℕ) → n ≤ m → get_or rows m None ≡ None
