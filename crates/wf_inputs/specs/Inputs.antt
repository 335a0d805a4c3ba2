-- The kinds of files that several commands read, and SPEC and VIEW as every command takes them.
use Rattle.std.specs.Prelude.{ℕ, List, [], codes}
use Rattle.wf_model.specs.Grammar.{Grammar}
use Rattle.wf_model.specs.View.{View}
use Rattle.wf_io.specs.Told.{File}
use Rattle.wf_spec.specs.Held.{HeldGrammar}
use Rattle.wf_message.specs.Endings.{End}
use Rattle.wf_stage.specs.Kinds.{Kind}
use Rattle.wf_stage.specs.Stages.{Stage, OfWhole}
use Rattle.wf_inputs.specs.Specification.{TellsGrammar, RefusesSpec}
use Rattle.wf_inputs.specs.ViewTold.{TellsView, RefusesView}

-- a specification
abbrev pub spec_kind : Kind
spec_kind = record { word = codes "spec"; most = 16777216; long_fault = codes "TooLong" }

-- a view
abbrev pub view_kind : Kind
view_kind = record { word = codes "view"; most = 16777216; long_fault = codes "TooLong" }

-- the second, coarser of two views that are compared
abbrev pub coarse_kind : Kind
coarse_kind = record { word = codes "coarse"; most = 16777216; long_fault = codes "TooLong" }

-- a label file
abbrev pub labels_kind : Kind
labels_kind = record { word = codes "labels"; most = 1073741824; long_fault = codes "TooLong" }

-- the greatest number of instances of a run
abbrev pub instance_most : ℕ
instance_most = 16777216

-- SPEC, as every command takes it
abbrev pub SpecStage : File → (HeldGrammar → End → List ℕ → Type 0) → End → List ℕ → Type 0
SpecStage spec = Stage spec_kind [] spec TellsGrammar (OfWhole RefusesSpec)

-- a view of a grammar in a file of a kind, as every command takes it
abbrev pub ViewFileStage : Kind → Grammar → File → (View → End → List ℕ → Type 0) → End → List ℕ → Type 0
ViewFileStage kind g view = Stage kind [] view (TellsView g) (OfWhole (RefusesView g))

-- VIEW of a grammar
abbrev pub ViewStage : Grammar → File → (View → End → List ℕ → Type 0) → End → List ℕ → Type 0
ViewStage g view = ViewFileStage view_kind g view
