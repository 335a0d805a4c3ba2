-- What a label of a view keeps.
use Rattle.std.specs.Prelude.{◌≡◌, ◌≢◌, ◌<◌, ℕ, List, length, get_or, Option, None}
use Rattle.label_model.specs.Continuing.{continuing}
use Rattle.wf_vlabel.specs.declared.rounds.stills.Stills.{Stills}
use Rattle.wf_vlabel.specs.Cuts.{IsCut}
use Rattle.wf_vlabel.specs.Stills.{AreStills}
use Rattle.wf_vlabel.specs.Seen.{ViewLabelSeen, IsViewLabel, is_expanded, matrices_of, full_in}
use Rattle.wf_vlabel.specs.Tables.{AreFullGroups, AreBodyGroups, AreSquareGroups}

-- It is the label of some view: each of its tables has the groups that its readers look for, and it is kept which squares are their own squares, and where the chains of the cycles are cut
pub record IsKept (l : ViewLabelSeen) (stills : List Stills) (cuts : List (Option ℕ)) : Type 0 where
  pub label : IsViewLabel l
  pub full_groups : AreFullGroups l.grammar (is_expanded l) (full_in (matrices_of l)) l.full
  pub body_groups : AreBodyGroups l.grammar (is_expanded l) (full_in (matrices_of l)) l.bodies
  pub square_groups : AreSquareGroups l.grammar (is_expanded l) (full_in (matrices_of l)) l.squares
  pub stills_are : AreStills l.squares stills
  pub cut_each : length cuts ≡ length l.grammar.modules
  pub cuts_are : (m : ℕ) → m < length l.grammar.modules → continuing l.grammar m ≢ None → IsCut l.grammar (is_expanded l) m (get_or cuts m None)
