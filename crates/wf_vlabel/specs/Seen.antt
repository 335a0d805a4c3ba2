-- What contracts see of the label of a view.
use Rattle.std.specs.Prelude.{◌≡◌, ℕ, Bool, false, List, length, get_or}
use Rattle.bool_mat.specs.Matrix.{Matrix, joins}
use Rattle.wf_model.specs.Grammar.{Grammar, Assignment, inputs_of, outputs_of, head_of}
use Rattle.wf_model.specs.WellFormed.{IsWellFormed}
use Rattle.wf_model.specs.Proper.{IsProper}
use Rattle.wf_model.specs.Linear.{IsLinear}
use Rattle.wf_model.specs.View.{View, expands, IsSeenModule, IsViewOf}
use Rattle.wf_model.specs.Safe.{IsInduced}
use Rattle.wf_model.specs.Reach.{Step, target_of}
use Rattle.wf_body.specs.Matrices.{beside}
use Rattle.wf_recur.specs.Cycles.{CyclesSeen, AreCyclesOf}
use Rattle.wf_model.specs.OpenRoutes.{IsOpenStep}
use Rattle.decode_model.specs.Matrices.{ViewMatrices, AreMatrices, IsOnceRound}
use Rattle.wf_vlabel.specs.Groups.{GroupsSeen}
use Rattle.wf_vlabel.specs.Tables.{matrices_in}

-- The grammar and the cycles with which it was made, flags of the modules that the view expands, and the matrices in groups: by module those of its pairs, by production those of its body, by module those of its cycle
pub record ViewLabelSeen : Type 0 where
  pub grammar : Grammar
  pub cycles : CyclesSeen
  pub flags : List Bool
  pub full : GroupsSeen
  pub bodies : GroupsSeen
  pub squares : GroupsSeen

-- the view expands the module
abbrev pub is_expanded : ViewLabelSeen → ℕ → Bool
is_expanded l m = get_or l.flags m false

-- the matrices
abbrev pub matrices_of : ViewLabelSeen → ViewMatrices
matrices_of l = matrices_in l.grammar l.full l.bodies l.squares

-- the pairs of the modules, as the matrices have them
abbrev pub full_in : ViewMatrices → Assignment
full_in v m i o = joins (v.full m) i o

-- It is the label of a view: the view expands these modules, the pairs of the modules are those that every production induces, and so the pairs that every expansion joins, and the matrices are those of these pairs
pub record IsLabelOfView (l : ViewLabelSeen) (u : View) : Type 0 where
  pub expanded : (m : ℕ) → expands u m ≡ is_expanded l m
  pub is_view : IsViewOf l.grammar u
  pub induced : IsInduced l.grammar u (full_in (matrices_of l))
  pub matrices : AreMatrices l.grammar u (full_in (matrices_of l)) (matrices_of l)

-- It is the label of some view of a proper, strictly linear grammar, with the cycles of the grammar
pub record IsViewLabel (l : ViewLabelSeen) : Type 0 where
  pub formed : IsWellFormed l.grammar
  pub proper : IsProper l.grammar
  pub linear : IsLinear l.grammar
  pub cycles_are : AreCyclesOf l.grammar l.cycles
  pub of_view : (u : View) × IsLabelOfView l u

-- the module is seen under the view
abbrev pub Sees : ViewLabelSeen → ℕ → Type 0
Sees l m = (u : View) × IsLabelOfView l u × IsSeenModule l.grammar u m

-- the step leaves a module that is seen and expanded under the view
abbrev pub Opens : ViewLabelSeen → Step → Type 0
Opens l s = (u : View) × IsLabelOfView l u × IsOpenStep l.grammar u s

-- the module stands on a cycle that is seen and expanded whole under the view
abbrev pub OpensRound : ViewLabelSeen → ℕ → Type 0
OpensRound l m = (u : View) × IsLabelOfView l u × ((round : List Step) × IsOnceRound l.grammar u m round)

-- a matrix has so many rows and columns
pub record HasSize (m : Matrix) (many_rows many_columns : ℕ) : Type 0 where
  pub rows : length m.rows ≡ many_rows
  pub columns : m.columns ≡ many_columns

-- as many rows as columns
abbrev pub HasSquareSize : Matrix → ℕ → Type 0
HasSquareSize m many = HasSize m many many

-- a row for each input of the module, and a column for each output
abbrev pub HasFullSize : Grammar → ℕ → Matrix → Type 0
HasFullSize g n m = HasSize m (inputs_of g n) (outputs_of g n)

-- a row for each input of the head, and a column for each input of the position
abbrev pub HasSizeInto : Grammar → Step → Matrix → Type 0
HasSizeInto g s m = HasSize m (inputs_of g (head_of g s.production)) (inputs_of g (target_of g s))

-- a row for each output of the position, and a column for each output of the head
abbrev pub HasSizeOutOf : Grammar → Step → Matrix → Type 0
HasSizeOutOf g s m = HasSize m (outputs_of g (target_of g s)) (outputs_of g (head_of g s.production))

-- a row for each output of the position, and a column for each input of the other position
abbrev pub HasSizeBetween : Grammar → Step → ℕ → Matrix → Type 0
HasSizeBetween g s to m = HasSize m (outputs_of g (target_of g s)) (inputs_of g (target_of g (beside s to)))
