-- The stages of SPEC and VIEW have one outcome where what follows has.
use Rattle.std.proofs.Common.{ℕ, List, [], sym, ◌∙◌}
use Rattle.wf_spec.specs.Held.{HeldGrammar}
use Rattle.wf_model.specs.View.{View}
use Rattle.wf_io.specs.Told.{File}
use Rattle.wf_message.specs.Endings.{End}
use Rattle.wf_stage.specs.Kinds.{Kind}
use Rattle.wf_stage.specs.Stages.{OfWhole}
use Rattle.wf_stage.specs.Outcomes.{HasOneOutcome}
use Rattle.wf_stage.proofs.TwoStages.{same_outcome}
use Rattle.wf_inputs.specs.Inputs.{spec_kind, view_kind, SpecStage, ViewFileStage, ViewStage}
use Rattle.wf_inputs.specs.Specification.{TellsGrammar, RefusesSpec}
use Rattle.wf_inputs.specs.ViewTold.{TellsView, RefusesView}
use Rattle.wf_inputs.proofs.ToldGrammars.{told_formed}
use Rattle.wf_inputs.proofs.OneValue.{one_grammar, one_view}
use Rattle.wf_inputs.proofs.OneFault.{one_refusal, no_refusal}
use Rattle.wf_inputs.proofs.OneViewFault.{one_refusal_of_view, no_refusal_of_view}

-- the stage of SPEC has one outcome where what follows has
pub one_spec_stage : (spec : File) (Next : HeldGrammar → End → List ℕ → Type 0) → ((h : HeldGrammar) → TellsGrammar spec.bytes h → HasOneOutcome (Next h)) → HasOneOutcome (SpecStage spec Next)
one_spec_stage spec Next next =
    same_outcome spec_kind [] spec TellsGrammar (OfWhole RefusesSpec) Next Next (one_grammar spec.bytes) (λ l m x y p q. (p.0 ∙ sym q.0, one_refusal spec.bytes x y p.1 q.1)) (λ h l x t r. no_refusal spec.bytes x h t r.1) next

-- so has that of a view in a file of a kind
pub one_view_file_stage : (kind : Kind) (bytes : List ℕ) (h : HeldGrammar) → TellsGrammar bytes h → (view : File) (Next : View → End → List ℕ → Type 0) → ((u : View) → TellsView h.core view.bytes u → HasOneOutcome (Next u)) → HasOneOutcome (ViewFileStage kind h.core view Next)
one_view_file_stage kind bytes h told view Next next =
    same_outcome kind [] view (TellsView h.core) (OfWhole (RefusesView h.core)) Next Next (one_view h.core view.bytes) (λ l m x y p q. (p.0 ∙ sym q.0, one_refusal_of_view h.core (told_formed bytes h told) view.bytes x y p.1 q.1)) (λ u l x t r. no_refusal_of_view h.core view.bytes x u t r.1) next

-- so has that of VIEW
pub one_view_stage : (bytes : List ℕ) (h : HeldGrammar) → TellsGrammar bytes h → (view : File) (Next : View → End → List ℕ → Type 0) → ((u : View) → TellsView h.core view.bytes u → HasOneOutcome (Next u)) → HasOneOutcome (ViewStage h.core view Next)
one_view_stage bytes h told view Next next = one_view_file_stage view_kind bytes h told view Next next
