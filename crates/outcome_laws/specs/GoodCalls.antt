-- Calls in which nothing is to be refused: each file that the words name is read, and tells what the command wants of it.
use Rattle.std.specs.Prelude.{◌≡◌, ◌⊎◌, ℕ, List, Option, Some, None}
use Rattle.wf_io.specs.Told.{File, Appended}
use Rattle.wf_message.specs.declared.status.Status.{Status}
use Rattle.wf_message.specs.declared.status.Status.TheVariants.{Done as IsDone, NoMemory as WantsMemory}
use Rattle.wf_message.specs.Endings.{End, Done, status_of}
use Rattle.wf_top.specs.Families.{families}
use Rattle.wf_top.specs.Outcome.{Command, command_of, IsOutcome}

-- there is a command, and its files are good, as its family says
abbrev pub AreGood : (List ℕ → File) → Option Command → Type 0
AreGood files None = ⊥
AreGood files (Some c) = families.IsGood files c

-- the words are a command, and its files are good: SPEC is accepted, VIEW is well-formed and safe, and COARSE so too and coarser than VIEW, or as coarse. The reports of EVENTS are taken whole, LABELS is a label file of the grammar or of one of its earlier versions, QUERIES are queries, and each line of CHAIN has the form of its turn. AUTO describes an automaton whose lifted view is safe, and PACKAGE is a package. The words that are labels are labels, those of `consult` over the package
abbrev pub IsGoodCall : (List ℕ → File) → List (List ℕ) → Type 0
IsGoodCall files words = AreGood files (command_of words)

-- a good call has no end but that all is done
abbrev pub GoodCallLaw : Type 0
GoodCallLaw = (files : List ℕ → File) (words : List (List ℕ)) (e : End) (t : List ℕ) → IsGoodCall files words → IsOutcome files words e t → e ≡ Done

-- the program ended so, and out got this text; or memory was wanting
abbrev pub EndedAs : End → List ℕ → Status → Option (List ℕ) → Option (List ℕ) → Type 0
EndedAs e text status old new = ((status ≡ status_of e) × Appended text old new) ⊎ (status ≡ WantsMemory)

-- the program did all that it is to do, and out got the text of the outcome; or memory was wanting
abbrev pub IsComplete : (List ℕ → File) → List (List ℕ) → Status → Option (List ℕ) → Option (List ℕ) → Type 0
IsComplete files words status old new =
    ((status ≡ IsDone) × ((text : List ℕ) × IsOutcome files words Done text × Appended text old new)) ⊎ (status ≡ WantsMemory)
