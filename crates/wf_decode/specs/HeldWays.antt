-- The ways of legs that are held: what the row products along them come to, from each leg on.
use Rattle.std.specs.Prelude.{◌≡◌, ◌↔◌, ℕ, ◌+◌, ◌<◌, ◌≤◌, List, [], IsTrue, length, get_or, take, drop}
use Rattle.bool_mat.specs.Matrix.{Matrix, has}
use Rattle.wf_model.specs.declared.numbers.Side.{Side}
use Rattle.wf_model.specs.declared.numbers.Side.TheVariants.{Input as InputSide, Output as OutputSide}
use Rattle.decode_model.specs.Legs.{way_up}
use Rattle.decode_model.specs.Rows.{Through, Along}
use Rattle.wf_vlabel.specs.Seen.{ViewLabelSeen, matrices_of}
use Rattle.wf_decode.specs.declared.leg.Leg.{Leg as LegHeld}
use Rattle.wf_decode.specs.declared.decision.ends.End.{End}
use Rattle.wf_decode.specs.declared.decision.ends.End.TheVariants.{Hidden, Nowhere, At}
use Rattle.wf_decode.specs.HeldLegs.{legs_of}
use Rattle.wf_decode.specs.Products.{full_row_of, matrices_below}

-- the row to which the pairs of input i of the module m come on the way up the legs that lead to the module
abbrev pub IsRowUp : ViewLabelSeen → List LegHeld → ℕ → ℕ → ℕ → Type 0
IsRowUp l legs m i row = Through (way_up (matrices_of l) (legs_of l legs)) (full_row_of l m i) row

-- the inputs before the legs, of 64 at most, that are joined to output o of the module m to which the legs lead
abbrev pub IsColumnDown : ViewLabelSeen → List LegHeld → ℕ → ℕ → ℕ → Type 0
IsColumnDown l legs m o column = (j : ℕ) → j < 64 → IsTrue (has column j) ↔ Along (matrices_below l legs m) j o

-- such a row for the legs from each number on, the last for none of them
pub record AreRowsUp (l : ViewLabelSeen) (legs : List LegHeld) (m i : ℕ) (rows : List ℕ) : Type 0 where
  pub many : length rows ≡ length legs + 1
  pub row : (k : ℕ) → k ≤ length legs → IsRowUp l (drop k legs) m i (get_or rows k 0)

-- such a column for the legs from each number on, the last for none of them
pub record AreColumnsDown (l : ViewLabelSeen) (legs : List LegHeld) (m o : ℕ) (columns : List ℕ) : Type 0 where
  pub many : length columns ≡ length legs + 1
  pub column : (k : ℕ) → k ≤ length legs → IsColumnDown l (drop k legs) m o (get_or columns k 0)

-- the ways of an end: rows on the side of inputs, and columns on that of outputs; none where the item is hidden or ends nowhere
abbrev pub AreWaysOf : Side → ViewLabelSeen → End → List LegHeld → List ℕ → Type 0
AreWaysOf side l Hidden legs ways = ways ≡ []
AreWaysOf side l Nowhere legs ways = ways ≡ []
AreWaysOf InputSide l (At n i) legs ways = AreRowsUp l (take n legs) i.module.0 i.port.0 ways
AreWaysOf OutputSide l (At n o) legs ways = AreColumnsDown l (take n legs) o.module.0 o.port.0 ways

-- so it is where there are some: those of a label that is not held are none
abbrev pub IfHeld : List ℕ → Type 0 → Type 0
IfHeld ways P = 0 < length ways → P

-- the legs are these still, but those up to the n-th may be others
pub record AreKeptBehind (n : ℕ) (old legs : List LegHeld) : Type 0 where
  pub length_is : length legs ≡ length old
  pub behind : drop (n + 1) legs ≡ drop (n + 1) old

-- the ways of legs of which those up to the n-th may be others now
abbrev pub AreRowsBehind : ViewLabelSeen → ℕ → List LegHeld → ℕ → ℕ → List ℕ → Type 0
AreRowsBehind l n legs m i rows = (old : List LegHeld) × AreKeptBehind n old legs × AreRowsUp l old m i rows

abbrev pub AreColumnsBehind : ViewLabelSeen → ℕ → List LegHeld → ℕ → ℕ → List ℕ → Type 0
AreColumnsBehind l n legs m o columns = (old : List LegHeld) × AreKeptBehind n old legs × AreColumnsDown l old m o columns

-- some column is in both rows
abbrev pub Meet : ℕ → ℕ → Type 0
Meet a b = (j : ℕ) × IsTrue (has a j) × IsTrue (has b j)

-- the matrices lead from the number i to one that the column has
abbrev pub LeadsInto : List Matrix → ℕ → ℕ → Type 0
LeadsInto ms column i = (j : ℕ) × Along ms i j × IsTrue (has column j)

-- the numbers below n from which the matrices lead into a column, and none of which they lead past 64
pub record IsColumnBefore (ms : List Matrix) (column n before : ℕ) : Type 0 where
  pub leads : (i : ℕ) → IsTrue (has before i) ↔ ((i < n) × LeadsInto ms column i)
  pub within : (i j : ℕ) → i < n → Along ms i j → j < 64
