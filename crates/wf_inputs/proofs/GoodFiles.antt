-- The stages of good files go on.
use Rattle.std.proofs.Common.{ℕ, List, []}
use Rattle.wf_model.specs.Grammar.{Grammar}
use Rattle.wf_model.specs.View.{View}
use Rattle.wf_spec.specs.Held.{HeldGrammar}
use Rattle.wf_io.specs.Told.{File}
use Rattle.wf_message.specs.Endings.{End}
use Rattle.wf_stage.specs.Kinds.{Kind}
use Rattle.wf_stage.specs.Stages.{OfWhole}
use Rattle.wf_stage.proofs.TwoStages.{stage_goes_on}
use Rattle.wf_inputs.specs.Inputs.{spec_kind, view_kind, SpecStage, ViewFileStage, ViewStage}
use Rattle.wf_inputs.specs.Specification.{TellsGrammar, RefusesSpec}
use Rattle.wf_inputs.specs.ViewTold.{TellsView, RefusesView}
use Rattle.wf_inputs.specs.GoodFiles.{HasGrammar, HasViewOf, HasView}
use Rattle.wf_inputs.proofs.OneValue.{one_grammar, one_view}
use Rattle.wf_inputs.proofs.OneFault.{no_refusal}
use Rattle.wf_inputs.proofs.OneViewFault.{no_refusal_of_view}

-- the stage of a good SPEC goes on with its grammar
pub spec_goes_on : (spec : File) (h : HeldGrammar) → HasGrammar spec h → (Next : HeldGrammar → End → List ℕ → Type 0) (e : End) (t : List ℕ) → SpecStage spec Next e t → Next h e t
spec_goes_on spec h has Next =
    stage_goes_on spec_kind [] spec TellsGrammar (OfWhole RefusesSpec) Next h has.short has.whole (λ b told. one_grammar spec.bytes h b has.tells told) (λ l x r. no_refusal spec.bytes x h has.tells r.1)

-- so does that of a good view in a file of a kind
pub view_file_goes_on : (kind : Kind) (g : Grammar) (view : File) (u : View) → HasViewOf kind g view u → (Next : View → End → List ℕ → Type 0) (e : End) (t : List ℕ) → ViewFileStage kind g view Next e t → Next u e t
view_file_goes_on kind g view u has Next =
    stage_goes_on kind [] view (TellsView g) (OfWhole (RefusesView g)) Next u has.short has.whole (λ b told. one_view g view.bytes u b has.tells told) (λ l x r. no_refusal_of_view g view.bytes x u has.tells r.1)

-- so does that of a good VIEW
pub view_goes_on : (g : Grammar) (view : File) (u : View) → HasView g view u → (Next : View → End → List ℕ → Type 0) (e : End) (t : List ℕ) → ViewStage g view Next e t → Next u e t
view_goes_on g view u has Next = view_file_goes_on view_kind g view u has Next
