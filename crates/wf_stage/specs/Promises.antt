-- What each command, and each part of one, promises of the shelf and of out. Both are seen by their ghost members.
use Rattle.std.specs.Prelude.{◌≡◌, ◌≤◌, ℕ, Bool, List, Option, Some, Result, MatchResult}
use Rattle.wf_io.specs.Told.{File}
use Rattle.wf_io.specs.Readings.{Reading, IsReadOnce, AreReadInTurn}
use Rattle.wf_io.specs.Lines.{FileLines, lines_in}
use Rattle.wf_message.specs.declared.ending.Stop.{Stop}
use Rattle.wf_message.specs.Endings.{End, end_of}
use Rattle.wf_stage.specs.Kinds.{Kind}
use Rattle.wf_stage.specs.Stages.{IsTold, StopsAt}
use Rattle.wf_stage.specs.Ends.{EndsBehind, IsOfOutcome}
use Rattle.wf_stage.specs.Causes.{IsCause, IsReadingCause, IsWritingCause}

-- a file was read once: it tells this value, and the shelf tells the same files, and counts as many faults
pub record HasRead {A S : Type 0} (files : S → Option (List ℕ → File)) (readings : S → Option (List Reading)) (faults : S → ℕ) (kind : Kind) (name : List ℕ) (Tells : List ℕ → A → Type 0) (old new : S) (value : A) : Type 0 where
  pub told : (f : List ℕ → File) → files old ≡ Some f → IsTold kind (f name) Tells value
  pub count : faults new ≡ faults old
  pub same : files new ≡ files old
  pub once : IsReadOnce name (readings old) (readings new)

-- a file was not read, or is refused: the end says why, it has its cause, and the shelf tells the same files
pub record HasStopped {S : Type 0} (files : S → Option (List ℕ → File)) (readings : S → Option (List Reading)) (faults : S → ℕ) (last : S → Bool) (kind : Kind) (name : List ℕ) (Refuses : List ℕ → Option ℕ → List ℕ → Type 0) (old new : S) (ending : End) : Type 0 where
  pub stops : (f : List ℕ → File) → files old ≡ Some f → StopsAt kind (f name) Refuses ending
  pub cause : IsReadingCause (faults old) (faults new) (last new) ending
  pub same : files new ≡ files old
  pub once : IsReadOnce name (readings old) (readings new)
  pub later : faults old ≤ faults new

-- what a stage that reads the file of this name answers: a value that is seen so, or the ending of the program
abbrev pub Reads : {A B S : Type 0} → (S → Option (List ℕ → File)) → (S → Option (List Reading)) → (S → ℕ) → (S → Bool) → Kind → List ℕ → (List ℕ → A → Type 0) → (B → A) → (List ℕ → Option ℕ → List ℕ → Type 0) → S → S → Result B Stop → Type 0
Reads files readings faults last kind name Tells seen Refuses old new result =
    MatchResult result (λ v. HasRead files readings faults kind name Tells old new (seen v)) (λ e. HasStopped files readings faults last kind name Refuses old new (end_of e))

-- the lines of a file were read to its end: they tell this value, and the shelf is as it was
pub record HasReadLines {A S : Type 0} (files : S → Option (List ℕ → File)) (readings : S → Option (List Reading)) (faults : S → ℕ) (name : List ℕ) (Tells : FileLines → A → Type 0) (old new : S) (value : A) : Type 0 where
  pub told : (f : List ℕ → File) → files old ≡ Some f → Tells (lines_in (f name)) value
  pub count : faults new ≡ faults old
  pub same : files new ≡ files old
  pub once : IsReadOnce name (readings old) (readings new)

-- the lines of a file ended the program, or memory was wanting: the end has its cause, and the shelf tells the same files
pub record HasStoppedLines {S : Type 0} (files : S → Option (List ℕ → File)) (readings : S → Option (List Reading)) (faults : S → ℕ) (last : S → Bool) (name : List ℕ) (Stops : FileLines → End → Type 0) (old new : S) (ending : End) : Type 0 where
  pub stops : (f : List ℕ → File) → files old ≡ Some f → IsOfOutcome ending → Stops (lines_in (f name)) ending
  pub cause : IsReadingCause (faults old) (faults new) (last new) ending
  pub same : files new ≡ files old
  pub once : IsReadOnce name (readings old) (readings new)
  pub later : faults old ≤ faults new

-- what a stage that reads the lines of the file of this name answers
abbrev pub ReadsLines : {A B S : Type 0} → (S → Option (List ℕ → File)) → (S → Option (List Reading)) → (S → ℕ) → (S → Bool) → List ℕ → (FileLines → A → Type 0) → (B → A) → (FileLines → End → Type 0) → S → S → Result B Stop → Type 0
ReadsLines files readings faults last name Tells seen Stops old new result =
    MatchResult result (λ v. HasReadLines files readings faults name Tells old new (seen v)) (λ e. HasStoppedLines files readings faults last name Stops old new (end_of e))

-- What a step that writes and does not read promises, behind a text that was put first: how it ends, and its cause
pub record Writes {T : Type 0} (bytes : T → Option (List ℕ)) (faults : T → ℕ) (last : T → Bool) (first : List ℕ) (Outcome : End → List ℕ → Type 0) (old new : T) (ending : End) : Type 0 where
  pub ends : EndsBehind first Outcome ending (bytes old) (bytes new)
  pub cause : IsWritingCause (faults old) (faults new) (last new) ending
  pub later : faults old ≤ faults new

-- What a command promises, or the rest of one behind a text that was put first: over a shelf that tells its files it ends by the outcome that they leave; its end has its cause; the shelf tells the same files; the files of these names are read in their order, each once at most; and no count falls
pub record Obeys {S T : Type 0} (files : S → Option (List ℕ → File)) (readings : S → Option (List Reading)) (faults : S → ℕ) (last : S → Bool) (bytes : T → Option (List ℕ)) (counts : T → ℕ) (out_last : T → Bool) (names : List (List ℕ)) (first : List ℕ) (Outcome : (List ℕ → File) → End → List ℕ → Type 0) (old new : S) (out_old out_new : T) (ending : End) : Type 0 where
  pub ends : (f : List ℕ → File) → files old ≡ Some f → EndsBehind first (Outcome f) ending (bytes out_old) (bytes out_new)
  pub cause : IsCause (faults old) (faults new) (last new) (counts out_old) (counts out_new) (out_last out_new) ending
  pub same : files new ≡ files old
  pub in_turn : AreReadInTurn names (readings old) (readings new)
  pub later : faults old ≤ faults new
  pub put_later : counts out_old ≤ counts out_new
