-- Good files: each is whole and within its length, and nothing in it is refused.
use Rattle.std.specs.Prelude.{List}
use Rattle.wf_model.specs.declared.event.Event.{Event}
use Rattle.wf_model.specs.Grammar.{Grammar}
use Rattle.wf_model.specs.View.{View}
use Rattle.wf_spec.specs.Held.{HeldGrammar}
use Rattle.wf_io.specs.Told.{File}
use Rattle.wf_io.specs.Lines.{lines_in}
use Rattle.label_model.specs.Files.{Entry}
use Rattle.wf_stage.specs.Kinds.{Kind}
use Rattle.wf_stage.specs.Stages.{IsTold}
use Rattle.wf_inputs.specs.Inputs.{spec_kind, view_kind, labels_kind, instance_most}
use Rattle.wf_inputs.specs.Specification.{TellsGrammar}
use Rattle.wf_inputs.specs.ViewTold.{TellsView}
use Rattle.wf_inputs.specs.RunTold.{TellsEvents}
use Rattle.wf_inputs.specs.LabelsTold.{TellsEntries}

-- SPEC is whole and not too long, and tells this grammar
abbrev pub HasGrammar : File → HeldGrammar → Type 0
HasGrammar spec h = IsTold spec_kind spec TellsGrammar h

-- a file of a kind is whole and not too long, and tells this view of a grammar, which is safe
abbrev pub HasViewOf : Kind → Grammar → File → View → Type 0
HasViewOf kind g view u = IsTold kind view (TellsView g) u

-- so is VIEW
abbrev pub HasView : Grammar → File → View → Type 0
HasView g view u = HasViewOf view_kind g view u

-- SPEC and VIEW tell a grammar and a safe view of it
abbrev pub HaveView : File → File → HeldGrammar → Type 0
HaveView spec view h = HasGrammar spec h × ((u : View) × HasView h.core view u)

-- EVENTS is whole, and its lines report events that are taken whole, in whatever order: no report is refused, and none is held at the end
abbrev pub HasRun : Grammar → File → Type 0
HasRun g events = (es : List Event) × TellsEvents g instance_most (lines_in events) es

-- LABELS is whole and not too long, and is a label file of the grammar or of one of its earlier versions
abbrev pub HasEntries : HeldGrammar → File → Type 0
HasEntries h labels = (es : List Entry) × IsTold labels_kind labels (TellsEntries h) es
