-- How the lines of a chain stand, as they are taken one by one.
use Rattle.std.specs.Prelude.{◌≡◌, ℕ, suc, ◌<◌, Bool, true, false, List, [], ◌∷◌, ◌++◌, length}
use Rattle.wf_flat.specs.declared.item.Item.{Item as ItemHeld}
use Rattle.wf_flat.specs.Graph.{inst_at}
use Rattle.wf_chain.specs.ViewedRuns.{ViewedRunValue, grammar_in, view_in, full_in, events_in, item_in, IsVisibleIn}
use Rattle.wf_chain.specs.Steps.{IsConsumedBy}
use Rattle.wf_reason.specs.declared.turn.Turn.{Turn}
use Rattle.wf_reason.specs.declared.turn.Turn.TheVariants.{Item as ItemTurn}
use Rattle.wf_reason.specs.declared.naming.Consumer.{Consumer}
use Rattle.wf_reason.specs.declared.standing.Standing.{Standing}
use Rattle.wf_reason.specs.declared.standing.Standing.TheVariants.{Begun, AtItem, AtInstance, Wrong}
use Rattle.wf_reason.specs.ChainLines.{ChainLine, ViaLine, turn_behind}
use Rattle.wf_reason.specs.HandedIn.{HandedLine, said}
use Rattle.wf_reason.specs.Right.{LeadToItem, IsRightUpTo}
use Rattle.wf_reason.specs.Checked.{number_behind, last_of}

-- an instance of the run consumes a held item, at an input
pub record IsConsumer (v : ViewedRunValue) (i : ItemHeld) (c : Consumer) : Type 0 where
  pub there : c.via < length v.run.instances
  pub consumes : IsConsumedBy v i c.via c.input

-- what lines stand at is of the run: a visible item, or an instance that consumes one
abbrev pub IsOfRun : ViewedRunValue → Standing → Type 0
IsOfRun v Begun = Unit {0}
IsOfRun v (AtItem item stepped) = IsVisibleIn v item
IsOfRun v (AtInstance item by) = IsConsumer v item by
IsOfRun v (Wrong line) = Unit {0}

-- lines with one more, of a number
abbrev pub with_one : List HandedLine → ℕ → ChainLine → List HandedLine
with_one lines number l = lines ++ record { number = number; says = l } ∷ []

-- lines lead to a held item
abbrev pub LeadTo : ViewedRunValue → List ChainLine → ItemHeld → Type 0
LeadTo v lines i = LeadToItem (grammar_in v) (view_in v) (full_in v) (grammar_in v).start (events_in v) lines (item_in v i)

-- lines lead to a held item, but for a last one, which names an instance
pub record LeadInto (v : ViewedRunValue) (lines : List ChainLine) (i : ItemHeld) (c : Consumer) : Type 0 where
  pub before : List ChainLine
  pub lead : LeadTo v before i
  pub are : lines ≡ before ++ ViaLine (inst_at v.run.instances c.via).name ∷ []

-- there is one line alone, or there are more
abbrev pub HasSteps : Bool → List HandedLine → Type 0
HasSteps true lines = 1 < length lines
HasSteps false lines = length lines ≡ 1

-- the line of a number is the first wrong one: those before it are right, and with it they are not
pub record AreWrongAt (v : ViewedRunValue) (lines : List HandedLine) (number : ℕ) : Type 0 where
  pub before : ℕ
  pub there : before < length lines
  pub number_is : number ≡ number_behind 0 lines before
  pub right : IsRightUpTo (grammar_in v) (view_in v) (full_in v) (grammar_in v).start (events_in v) (said lines) before
  pub wrong : ¬ IsRightUpTo (grammar_in v) (view_in v) (full_in v) (grammar_in v).start (events_in v) (said lines) (suc before)

-- lines stand so
abbrev pub Stands : ViewedRunValue → Standing → List HandedLine → Type 0
Stands v Begun lines = lines ≡ []
Stands v (AtItem item stepped) lines = LeadTo v (said lines) item × HasSteps stepped lines
Stands v (AtInstance item by) lines = LeadInto v (said lines) item by
Stands v (Wrong line) lines = AreWrongAt v lines line

-- lines are taken so far: whose turn it is behind them, the number of the last, and how they stand
pub record AreTakenSo (v : ViewedRunValue) (turn : Turn) (last : ℕ) (standing : Standing) (lines : List HandedLine) : Type 0 where
  pub turn_is : turn ≡ turn_behind ItemTurn lines
  pub last_is : last ≡ last_of 0 lines
  pub stands : Stands v standing lines
