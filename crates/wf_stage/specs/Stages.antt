-- A stage of a command: it reads a whole file of a kind, takes from it a value that the bytes tell, and goes on with it, or ends the program.
use Rattle.std.specs.Prelude.{◌≡◌, ◌⊎◌, ◌<◌, ◌≤◌, ℕ, true, false, List, length, Option, Some, None}
use Rattle.wf_io.specs.Told.{File}
use Rattle.wf_message.specs.Endings.{End, Done, Usage, Refused, ReadFault, WriteFault, NoMemory}
use Rattle.wf_stage.specs.Kinds.{Kind}

-- What a stage of a kind makes of a file behind a text that was put first.
-- It ends the program where the file is longer than its kind may be, is broken, or holds bytes that are refused; out then got the first text alone. Else it goes on with a value that the bytes tell
pub data Stage {A : Type 0} (kind : Kind) (first : List ℕ) (file : File) (Tells : List ℕ → A → Type 0) (Refuses : List ℕ → Option ℕ → List ℕ → Type 0) (Next : A → End → List ℕ → Type 0) (ending : End) (text : List ℕ) : Type 0 where
  too_long : kind.most < length file.bytes → ending ≡ Refused kind.word None kind.long_fault → text ≡ first → Stage kind first file Tells Refuses Next ending text
  broken : length file.bytes ≤ kind.most → file.broken ≡ true → ending ≡ ReadFault kind.word → text ≡ first → Stage kind first file Tells Refuses Next ending text
  refused : length file.bytes ≤ kind.most → file.broken ≡ false → (line : Option ℕ) (fault : List ℕ) → Refuses file.bytes line fault → ending ≡ Refused kind.word line fault → text ≡ first → Stage kind first file Tells Refuses Next ending text
  goes_on : length file.bytes ≤ kind.most → file.broken ≡ false → (a : A) → Tells file.bytes a → Next a ending text → Stage kind first file Tells Refuses Next ending text

-- no bytes are refused
abbrev pub RefusesNone : List ℕ → Option ℕ → List ℕ → Type 0
RefusesNone bytes line fault = ⊥

-- something is refused as a whole: the refusal names no line of it
abbrev pub OfWhole : {A : Type 0} → (A → List ℕ → Type 0) → A → Option ℕ → List ℕ → Type 0
OfWhole Refuses a line fault = (line ≡ None) × Refuses a fault

-- something is refused at the line of this number
abbrev pub AtLine : {A : Type 0} → (A → List ℕ → Type 0) → ℕ → A → Option ℕ → List ℕ → Type 0
AtLine Refuses number a line fault = (line ≡ Some number) × Refuses a fault

-- the bytes are held as they are
abbrev pub Holds : List ℕ → List ℕ → Type 0
Holds bytes held = held ≡ bytes

-- a file of a kind, which is whole, tells a value
pub record IsTold {A : Type 0} (kind : Kind) (file : File) (Tells : List ℕ → A → Type 0) (a : A) : Type 0 where
  pub short : length file.bytes ≤ kind.most
  pub whole : file.broken ≡ false
  pub tells : Tells file.bytes a

-- why a told file is refused: it is too long, or its bytes are refused
abbrev pub IsRefused : Kind → File → (List ℕ → Option ℕ → List ℕ → Type 0) → Option ℕ → List ℕ → Type 0
IsRefused kind file Refuses line fault =
    ((kind.most < length file.bytes) × (line ≡ None) × (fault ≡ kind.long_fault)) ⊎
    ((length file.bytes ≤ kind.most) × (file.broken ≡ false) × Refuses file.bytes line fault)

-- why a stage of a kind ends the program over a told file
abbrev pub StopsAt : Kind → File → (List ℕ → Option ℕ → List ℕ → Type 0) → End → Type 0
StopsAt kind file Refuses Done = ⊥
StopsAt kind file Refuses Usage = ⊥
StopsAt kind file Refuses (Refused word line fault) = (word ≡ kind.word) × IsRefused kind file Refuses line fault
StopsAt kind file Refuses (ReadFault word) = (word ≡ kind.word) × (length file.bytes ≤ kind.most) × (file.broken ≡ true)
StopsAt kind file Refuses WriteFault = ⊥
StopsAt kind file Refuses NoMemory = Unit {0}

-- why bytes end the program: they are refused, by this word of theirs, or memory is wanting
abbrev pub Declines : List ℕ → (Option ℕ → List ℕ → Type 0) → End → Type 0
Declines place Refuses Done = ⊥
Declines place Refuses Usage = ⊥
Declines place Refuses (Refused word line fault) = (word ≡ place) × Refuses line fault
Declines place Refuses (ReadFault word) = ⊥
Declines place Refuses WriteFault = ⊥
Declines place Refuses NoMemory = Unit {0}

-- an end is a refusal, or want of memory
abbrev pub IsRefusedOrWanting : End → Type 0
IsRefusedOrWanting Done = ⊥
IsRefusedOrWanting Usage = ⊥
IsRefusedOrWanting (Refused word line fault) = Unit {0}
IsRefusedOrWanting (ReadFault word) = ⊥
IsRefusedOrWanting WriteFault = ⊥
IsRefusedOrWanting NoMemory = Unit {0}
