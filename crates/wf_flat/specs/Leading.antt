-- To which ports the ports of a flat graph lead, by number.
use Rattle.std.specs.Prelude.{◌≡◌, ◌<◌, ◌≤◌, ◌⊎◌, ◌+◌, ◌*◌, ◌-◌, ◌==◌, ◌++◌, ◌∷◌, [], ℕ, Bool, nat_lt, cond, List, length, get_or, map, flat_map, Option, Some, None}
use Rattle.std.specs.Int.{bit_at}
use Rattle.wf_model.specs.Lists.{IsIn, numbers_from}
use Rattle.wf_model.specs.Grammar.{Grammar, inputs_of, outputs_of}
use Rattle.wf_model.specs.declared.numbers.Side.TheVariants.{Input}
use Rattle.wf_flat.specs.declared.table.Inst.{Inst}
use Rattle.wf_flat.specs.declared.graph.Link.{Link}
use Rattle.wf_flat.specs.declared.module_rows.Row.{Row}
use Rattle.wf_flat.specs.Table.{no_instance}
use Rattle.wf_flat.specs.Graph.{pairs_at, links_at, links_among}
use Rattle.wf_flat.specs.Numbering.{number_of, AreNumbered, IsRising}

-- of the bits of a number this is the lowest that is set
abbrev pub IsLowestBit : ℕ → ℕ → Type 0
IsLowestBit n o = (o < 64) × (bit_at n o ≡ 1) × ((i : ℕ) → i < o → bit_at n i ≡ 0)

-- what stands past the last row: it has no bit
abbrev pub no_row : Row
no_row = record { distance = 0; outputs = 0; bits = 0 }

-- the outputs, from one on, to which the input of a number leads by its row
abbrev pub led_by_row : ℕ → Row → ℕ → List ℕ
led_by_row p row o = flat_map (λ j. cond (bit_at row.bits j == 1) ((p + row.distance + j) ∷ []) []) (numbers_from o (row.outputs - o))

-- the ports to which the port of a number leads by its word, behind a mark: a word below 2^31 is the number of a port, and the others name rows
abbrev pub led_behind : List Row → ℕ → ℕ → ℕ → List ℕ
led_behind rows word p mark =
    cond (nat_lt word 2147483648) (cond (mark == 0) (word ∷ []) []) (led_by_row p (get_or rows (word - 2147483648) no_row) mark)

-- the word of a port; past the last it names no row
abbrev pub get_word : List ℕ → ℕ → ℕ
get_word words p = get_or words p 4294967295

-- the ports to which a port leads, where each has its word
abbrev pub led_from : List ℕ → List Row → ℕ → List ℕ
led_from words rows p = led_behind rows (get_word words p) p 0

-- the row of an input of a module; past its inputs, or where it has no rows, one without a bit
abbrev pub row_of : Grammar → ℕ → Option (List ℕ) → ℕ → Row
row_of g m None i = no_row
row_of g m (Some list) i = cond (nat_lt i (inputs_of g m)) (record { distance = inputs_of g m - i; outputs = outputs_of g m; bits = get_or list i 0 }) no_row

-- behind rows come 64 of a module
abbrev pub AddsRowsOf : Grammar → ℕ → Option (List ℕ) → List Row → List Row → Type 0
AddsRowsOf g m list old new = new ≡ old ++ map (row_of g m list) (numbers_from 0 64)

-- the rows of the inputs of each module, 64 for each of them
pub record AreRowsOf (g : Grammar) (leaf : List (Option (List ℕ))) (rows : List Row) : Type 0 where
  pub few : length rows ≤ 65536
  pub narrow : (k : ℕ) → (get_or rows k no_row).outputs ≤ 64
  pub each : (m i : ℕ) → m < length g.modules → i < 64 → get_or rows (m * 64 + i) no_row ≡ row_of g m (get_or leaf m None) i

-- words and rows with which no number is too large
pub record AreSmall (words : List ℕ) (rows : List Row) : Type 0 where
  pub ports : length words ≤ 2147483648
  pub narrow : (k : ℕ) → (get_or rows k no_row).outputs ≤ 64

-- The ports that links name have numbers, side after side, and no number is past the last. A number leads to another exactly where a link leads between the ports of these numbers
pub record IsIndex (ls : List Link) (begins words : List ℕ) (rows : List Row) : Type 0 where
  pub rising : IsRising begins
  pub numbered : AreNumbered begins ls
  pub below : (k : ℕ) → get_or begins k 0 ≤ length words
  pub linked : (l : Link) → IsIn l ls → IsIn (number_of begins l.to) (led_from words rows (number_of begins l.from))
  pub links : (a b : ℕ) → IsIn b (led_from words rows a) → (l : Link) × IsIn l ls × (number_of begins l.from ≡ a) × (number_of begins l.to ≡ b)

-- from a port that a link of the list leaves no other link of these leads elsewhere
abbrev pub LeaveOnce : List Link → List Link → Type 0
LeaveOnce list ls = (l : Link) → IsIn l list → (k : Link) → IsIn k ls → k.from ≡ l.from → k.to ≡ l.to

-- behind links come those of the list, if from their ports no link leads elsewhere
abbrev pub AddsLinks : List Link → List ℕ → List ℕ → List ℕ → Type 0
AddsLinks list begins words words' =
    (ls : List Link) (rows : List Row) → LeaveOnce list (ls ++ list) → IsIndex ls begins words rows → IsIndex (ls ++ list) begins words' rows

-- so many ports from one on lead by the rows from one on, and the others as before
pub record NamesRows (first count row : ℕ) (words words' : List ℕ) : Type 0 where
  pub named : (i : ℕ) → i < count → get_word words' (first + i) ≡ 2147483648 + (row + i)
  pub kept : (p : ℕ) → (p < first) ⊎ (first + count ≤ p) → get_word words' p ≡ get_word words p

-- behind links come the pairs of the instance of a number, if of these no others leave its inputs
abbrev pub AddsPairs : Grammar → List (Option (List ℕ)) → List Inst → ℕ → List ℕ → List ℕ → List ℕ → Type 0
AddsPairs g leaf xs k begins words words' =
    let pairs = pairs_at g leaf (get_or xs k no_instance).module.0 k in
    (ls : List Link) (rows : List Row) → ((l : Link) → IsIn l ls → l.from.instance ≡ k → l.from.side ≡ Input → IsIn l pairs) →
    AreRowsOf g leaf rows → IsIndex ls begins words rows → IsIndex (ls ++ pairs) begins words' rows

-- behind the links of some instances come those of one more
abbrev pub AddsInstance : Grammar → List Bool → List (Option (List ℕ)) → List Inst → ℕ → List ℕ → List ℕ → List ℕ → Type 0
AddsInstance g marks leaf xs k begins words words' =
    (numbers : List ℕ) (rows : List Row) → ((j : ℕ) → IsIn j numbers → j < length xs) → AreRowsOf g leaf rows →
    IsIndex (links_among g marks leaf xs numbers) begins words rows →
    IsIndex (links_among g marks leaf xs numbers ++ links_at g marks leaf xs k) begins words' rows
