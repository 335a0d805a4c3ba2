-- Laws of the outcome.
use Rattle.std.specs.Prelude.{◌≡◌, ◌⊎◌, ◌↔◌, ◌≤◌, ℕ, true, false, List, [], ◌∷◌, ◌++◌, length, codes}
use Rattle.wf_model.specs.Lists.{IsIn, AllDiffer}
use Rattle.wf_model.specs.declared.event.Event.{Event}
use Rattle.wf_model.specs.Grammar.{Grammar}
use Rattle.wf_model.specs.WellFormed.{IsWellFormed}
use Rattle.wf_model.specs.Proper.{IsProper}
use Rattle.wf_model.specs.Linear.{IsLinear}
use Rattle.wf_model.specs.View.{View}
use Rattle.wf_model.specs.Safe.{IsSafe}
use Rattle.wf_model.specs.Run.{IsAccepted}
use Rattle.wf_model.specs.Finishing.{ExpandsComposites}
use Rattle.wf_spec.specs.Held.{HeldGrammar, AreVersionsOf}
use Rattle.wf_model.specs.Versions.{version_of}
use Rattle.version_model.specs.Versions.{AreBuiltAlike}
use Rattle.wf_spec.specs.declared.version.Version.{Version}
use Rattle.wf_io.specs.Told.{File}
use Rattle.wf_io.specs.Lines.{Line, FileLines, AtEnd, lines_in}
use Rattle.label_model.specs.Files.{Entry}
use Rattle.report_model.specs.Reports.{Report, reported}
use Rattle.report_model.specs.Laws.{AreReordered}
use Rattle.wf_query.specs.Answers.{IsAnswerText}
use Rattle.wf_lineage.specs.declared.direction.Direction.TheVariants.{Upstream, Downstream}
use Rattle.wf_lineage.specs.Laws.{AreListedFor}
use Rattle.wf_message.specs.Endings.{End, Done}
use Rattle.wf_stage.specs.Stages.{IsTold, Holds}
use Rattle.wf_inputs.specs.Inputs.{spec_kind, labels_kind, instance_most}
use Rattle.wf_inputs.specs.Specification.{TellsGrammar, AllKeepCycles}
use Rattle.wf_inputs.specs.RunTold.{AreReports, TellsEvents}
use Rattle.wf_inputs.specs.LabelsTold.{TellsEntries}
use Rattle.cmd_ask.specs.Answers.{IsAnswerOfRun}
use Rattle.cmd_ask.specs.Does.{AnswersRun, AnswersLabels}
use Rattle.cmd_ingest.specs.Ingested.{file_of}
use Rattle.wf_top.specs.Outcome.{IsOutcome}

-- words and files have one outcome at most: one end and one text
abbrev pub OneOutcomeLaw : Type 0
OneOutcomeLaw =
    (files : List ℕ → File) (words : List (List ℕ)) (d e : End) (t s : List ℕ) →
    IsOutcome files words d t → IsOutcome files words e s → (d ≡ e) × (t ≡ s)

-- words and files have an outcome: an end and a text. By the law above it is the only one
abbrev pub SomeOutcomeLaw : Type 0
SomeOutcomeLaw = (files : List ℕ → File) (words : List (List ℕ)) → (ending : End) × (text : List ℕ) × IsOutcome files words ending text

-- a grammar has the start module, the modules and the productions of the one that a specification tells, or of one of its earlier versions. It may give other pairs to its modules
abbrev pub IsOneOf : HeldGrammar → Grammar → Type 0
IsOneOf h g = AreBuiltAlike h.core g ⊎ ((v : Version) × IsIn v h.versions × AreBuiltAlike (version_of h.core v.modules v.productions) g)

-- a well-formed, proper and strictly linear grammar, whose versions are versions and keep their cycles, and a safe view of it
pub record IsViewedSafely (h : HeldGrammar) (u : View) : Type 0 where
  pub formed : IsWellFormed h.core
  pub proper : IsProper h.core
  pub linear : IsLinear h.core
  pub versions : AreVersionsOf h.core h.versions
  pub keeps : AllKeepCycles h
  pub composites : ExpandsComposites h.core u
  pub safe : IsSafe h.core u

-- What the labels of a run tell, the run tells, also where they were made by an earlier version of the grammar. Under a safe view a query is answered from the entries of the label file of an accepted run by a word exactly if this word answers it in each finishing of the run
abbrev pub LabelsTellLaw : Type 0
LabelsTellLaw =
    (h : HeldGrammar) (u : View) → IsViewedSafely h u → (g : Grammar) → IsOneOf h g →
    (e : List Event) → IsAccepted g instance_most e → (entries : List Entry) → TellsEntries h (file_of g e) entries →
    (first second word : List ℕ) → IsAnswerText h.core u entries first second word ↔ IsAnswerOfRun h.core u e first second word

-- What is listed over the label file of an accepted run, the run tells, item by item, also where the file was made by an earlier version of the grammar. Under a safe view an item is listed upstream of another exactly if yes answers, in each finishing of the run, whether the other depends on it; and downstream of another exactly if yes answers whether it depends on the other
abbrev pub ListedLaw : Type 0
ListedLaw =
    (h : HeldGrammar) (u : View) → IsViewedSafely h u → (g : Grammar) → IsOneOf h g →
    (e : List Event) → IsAccepted g instance_most e → (entries : List Entry) → TellsEntries h (file_of g e) entries →
    (item other : List ℕ) (names : List (List ℕ)) →
    record {
      lineage : AreListedFor h.core u Upstream entries item names → IsIn other names ↔ IsAnswerOfRun h.core u e other item (codes "yes");
      impact : AreListedFor h.core u Downstream entries item names → IsIn other names ↔ IsAnswerOfRun h.core u e item other (codes "yes");
    }

-- Under a safe view, queries are answered over the label file of a run, which is whole and not too long, as they are over its events: by the same text, to the same end. There is one such text and one such end. The file may be of a run of an earlier version
abbrev pub LabelsAnswerLaw : Type 0
LabelsAnswerLaw =
    (h : HeldGrammar) (u : View) → IsViewedSafely h u → (g : Grammar) → IsOneOf h g →
    (events labels queries : File) (e : List Event) → TellsEvents g instance_most (lines_in events) e → IsTold labels_kind labels Holds (file_of g e) →
    ((d : End) (t : List ℕ) → AnswersRun h.core u events queries d t ↔ AnswersLabels h u labels queries d t) ×
    ((d c : End) (t s : List ℕ) → AnswersRun h.core u events queries d t → AnswersLabels h u labels queries c s → (d ≡ c) × (t ≡ s))

-- A specification has the lists of another one, or those of a version that the other names: the same start module, modules and productions. The given pairs may be others, as where a module that had some has got productions since
pub record IsOlder (files : List ℕ → File) (spec older : List ℕ) : Type 0 where
  pub grammar : HeldGrammar
  pub told : IsTold spec_kind (files spec) TellsGrammar grammar
  pub before : HeldGrammar
  pub told_before : IsTold spec_kind (files older) TellsGrammar before
  pub one_of : IsOneOf grammar before.core

-- What `ask` writes over the label file that `ingest` wrote is what `trace` writes over the events, and both end in the same way. `ingest` may have read an earlier version of the specification. The label file is whole, and not too long
abbrev pub AskIsTraceLaw : Type 0
AskIsTraceLaw =
    (files : List ℕ → File) (spec older view events labels queries t s r : List ℕ) (d e : End) → IsOlder files spec older →
    IsOutcome files (codes "ingest" ∷ older ∷ events ∷ []) Done t → (files labels).bytes ≡ t → length t ≤ labels_kind.most → (files labels).broken ≡ false →
    IsOutcome files (codes "trace" ∷ spec ∷ view ∷ events ∷ queries ∷ []) d s → IsOutcome files (codes "ask" ∷ spec ∷ view ∷ labels ∷ queries ∷ []) e r → (d ≡ e) × (s ≡ r)

-- no line is open at the end of bytes: there are none, or the last is a newline
abbrev pub EndWithALine : List ℕ → Type 0
EndWithALine bytes = (bytes ≡ []) ⊎ ((front : List ℕ) × (bytes ≡ front ++ 10 ∷ []))

-- no line that is open at the end of a file is taken: the file is broken there, or no line is open
abbrev pub IsSealed : File → Type 0
IsSealed file = (file.broken ≡ true) ⊎ EndWithALine file.bytes

-- What `ingest` writes over EVENTS begins what it writes over each EVENTS that goes on from it, however either ends. In the first files EVENTS is broken at its end, or no line is open there; in the later ones it has more bytes. A report that is held at the end of the first, and ends that call, may come to be ready in the later one
abbrev pub IngestGrowsLaw : Type 0
IngestGrowsLaw =
    (files later : List ℕ → File) (spec events more t s : List ℕ) (d e : End) →
    later spec ≡ files spec → IsSealed (files events) → (later events).bytes ≡ (files events).bytes ++ more →
    IsOutcome files (codes "ingest" ∷ spec ∷ events ∷ []) d t → IsOutcome later (codes "ingest" ∷ spec ∷ events ∷ []) e s → (rest : List ℕ) × (s ≡ t ++ rest)

-- each line of a whole file reports an event, and these are the events that they report, in whatever order and repeated at will
pub record ReportsThese (file : FileLines) (es : List Event) : Type 0 where
  pub whole : file.tail ≡ AtEnd
  pub reports : List Report
  pub read : AreReports file.lines reports
  pub same : (x : Event) → IsIn x (reported reports) ↔ IsIn x es

-- a run that a file tells: it is accepted, has each event once, and has the events that the file reports and no others
pub record IsToldRun (g : Grammar) (file : FileLines) (es : List Event) : Type 0 where
  pub accepted : IsAccepted g instance_most es
  pub once : AllDiffer es
  pub reported : ReportsThese file es

-- where the reports of a file are taken whole, the run of their intake is so
abbrev pub ToldRunLaw : Type 0
ToldRunLaw = (g : Grammar) (file : FileLines) (es : List Event) → TellsEvents g instance_most file es → IsToldRun g file es

-- each line of a file stands in another one, with whatever number
abbrev pub HasLinesOf : FileLines → FileLines → Type 0
HasLinesOf other file = (l : Line) → IsIn l file.lines → (k : Line) × IsIn k other.lines × (k.raw ≡ l.raw)

-- a whole file reports the events of a run where it has the lines of a file that tells this run and no others, in whatever order and repeated at will
abbrev pub SameLinesLaw : Type 0
SameLinesLaw =
    (g : Grammar) (file other : FileLines) (es : List Event) → TellsEvents g instance_most file es →
    other.tail ≡ AtEnd → HasLinesOf other file → HasLinesOf file other → ReportsThese other es

-- LABELS is what `ingest` wrote over EVENTS where all was done. It is whole, and not too long
pub record HoldsIngested (files : List ℕ → File) (spec events labels : List ℕ) : Type 0 where
  pub text : List ℕ
  pub ingested : IsOutcome files (codes "ingest" ∷ spec ∷ events ∷ []) Done text
  pub bytes : (files labels).bytes ≡ text
  pub short : length text ≤ labels_kind.most
  pub whole : (files labels).broken ≡ false

-- What another file tells, where it reports the events of the run that EVENTS tells: the same run in another order. `ingest` over the other file ends in Done, and writes the label file of the run in that order, which has the same entries.
-- `trace` over both files writes the same and ends in the same way, and so does `ask` over both label files
pub record IsToldAgain (files : List ℕ → File) (spec events other : List ℕ) (g : Grammar) (es : List Event) : Type 0 where
  pub run : List Event
  pub told : TellsEvents g instance_most (lines_in (files other)) run
  pub reordered : AreReordered g es run
  pub ingested : (d : End) (t : List ℕ) → IsOutcome files (codes "ingest" ∷ spec ∷ other ∷ []) d t → (d ≡ Done) × (t ≡ file_of g run)
  pub traced : (view queries : List ℕ) (d e : End) (t s : List ℕ) →
      IsOutcome files (codes "trace" ∷ spec ∷ view ∷ events ∷ queries ∷ []) d t → IsOutcome files (codes "trace" ∷ spec ∷ view ∷ other ∷ queries ∷ []) e s → (d ≡ e) × (t ≡ s)
  pub asked : (view labels others queries : List ℕ) (d e : End) (t s : List ℕ) → HoldsIngested files spec events labels → HoldsIngested files spec other others →
      IsOutcome files (codes "ask" ∷ spec ∷ view ∷ labels ∷ queries ∷ []) d t → IsOutcome files (codes "ask" ∷ spec ∷ view ∷ others ∷ queries ∷ []) e s → (d ≡ e) × (t ≡ s)

-- The order of the reports in EVENTS does not matter, nor how often an event is reported. SPEC tells a grammar, EVENTS a run of it, and another file reports the events of this run and nothing else
abbrev pub ReorderedFilesLaw : Type 0
ReorderedFilesLaw =
    (files : List ℕ → File) (spec events other : List ℕ) (h : HeldGrammar) (es : List Event) →
    IsTold spec_kind (files spec) TellsGrammar h → TellsEvents h.core instance_most (lines_in (files events)) es → ReportsThese (lines_in (files other)) es →
    IsToldAgain files spec events other h.core es

-- queries are answered by the same text, to the same end: over either of two files of events, and over the label files of the runs that they tell
pub record AreAnsweredAlike (h : HeldGrammar) (u : View) (events other queries : File) (es fs : List Event) : Type 0 where
  pub traced : (d : End) (t : List ℕ) → AnswersRun h.core u events queries d t ↔ AnswersRun h.core u other queries d t
  pub asked : (labels others : File) → IsTold labels_kind labels Holds (file_of h.core es) → IsTold labels_kind others Holds (file_of h.core fs) →
      (d : End) (t : List ℕ) → AnswersLabels h u labels queries d t ↔ AnswersLabels h u others queries d t

-- Where two files tell runs with the same events, queries are answered alike over them, under a safe view
abbrev pub ReorderedAnswersLaw : Type 0
ReorderedAnswersLaw =
    (h : HeldGrammar) (u : View) → IsViewedSafely h u →
    (events other queries : File) (es fs : List Event) → TellsEvents h.core instance_most (lines_in events) es → TellsEvents h.core instance_most (lines_in other) fs →
    ((x : Event) → IsIn x es ↔ IsIn x fs) → AreAnsweredAlike h u events other queries es fs
