-- What `verify` does.
use Rattle.std.specs.Prelude.{ℕ, List, []}
use Rattle.wf_model.specs.Grammar.{Grammar}
use Rattle.wf_model.specs.View.{View}
use Rattle.wf_spec.specs.Held.{HeldGrammar}
use Rattle.wf_io.specs.Told.{File}
use Rattle.wf_io.specs.Lines.{lines_in}
use Rattle.wf_message.specs.Endings.{End}
use Rattle.wf_inputs.specs.Inputs.{instance_most, SpecStage, ViewStage}
use Rattle.wf_inputs.specs.RunTold.{EventsStage}
use Rattle.wf_inputs.specs.GoodFiles.{HaveView, HasRun}
use Rattle.wf_reason.specs.HandedIn.{ChainStage, HasLines}
use Rattle.wf_reason.specs.Checked.{IsSaidOf}

-- EVENTS and CHAIN under a view
abbrev pub VerifiesRun : Grammar → View → File → File → End → List ℕ → Type 0
VerifiesRun g u events chain = EventsStage g instance_most (lines_in events) (λ es. []) (λ es. ChainStage (lines_in chain) (IsSaidOf g u es))

-- VIEW, EVENTS and CHAIN of a grammar
abbrev pub VerifiesView : Grammar → File → File → File → End → List ℕ → Type 0
VerifiesView g view events chain = ViewStage g view (λ u. VerifiesRun g u events chain)

-- `verify` over the four files
abbrev pub Verifies : File → File → File → File → End → List ℕ → Type 0
Verifies spec view events chain = SpecStage spec (λ h. VerifiesView h.core view events chain)

-- its files are good: SPEC is accepted, VIEW is well-formed and safe, the reports of EVENTS are taken whole, and each line of CHAIN has the form of its turn
pub record CanVerify (spec view events chain : File) : Type 0 where
  pub grammar : HeldGrammar
  pub viewed : HaveView spec view grammar
  pub run : HasRun grammar.core events
  pub lines : HasLines chain
