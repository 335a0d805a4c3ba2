-- What `lineage`, `impact`, `explain` and `verify` do.
use Rattle.std.specs.Prelude.{◌≡◌, ℕ, List, [], Option, Some, None}
use Rattle.wf_model.specs.Grammar.{Grammar}
use Rattle.wf_model.specs.View.{View}
use Rattle.wf_spec.specs.Held.{HeldGrammar}
use Rattle.wf_io.specs.Told.{File}
use Rattle.wf_io.specs.Lines.{lines_in}
use Rattle.wf_message.specs.Endings.{End}
use Rattle.wf_stage.specs.Stages.{Stage, OfWhole}
use Rattle.wf_inputs.specs.Inputs.{labels_kind, instance_most, SpecStage, ViewStage}
use Rattle.wf_inputs.specs.RunTold.{EventsStage}
use Rattle.wf_inputs.specs.LabelsTold.{TellsEntries, RefusesLabels}
use Rattle.wf_lineage.specs.declared.direction.Direction.{Direction}
use Rattle.wf_lineage.specs.declared.direction.Direction.TheVariants.{Upstream, Downstream}
use Rattle.cmd_explain.specs.declared.command.Command.{Command as CommandHeld}
use Rattle.cmd_explain.specs.declared.command.Command.TheVariants.{Lineage as LineageHeld, Impact as ImpactHeld, Explain as ExplainHeld, Verify as VerifyHeld}
use Rattle.cmd_explain.specs.Words.{Command, Lineage, Impact, Explain, Verify}
use Rattle.cmd_explain.specs.Listings.{ListsItem}
use Rattle.cmd_explain.specs.Reasons.{IsReason}
use Rattle.cmd_explain.specs.Verifying.{Verifies}

-- LABELS under a view, in a direction from the item of a name
abbrev pub ListsLabels : HeldGrammar → View → Direction → List ℕ → File → End → List ℕ → Type 0
ListsLabels h u d item labels = Stage labels_kind [] labels (TellsEntries h) (OfWhole (RefusesLabels h)) (λ entries. ListsItem h.core u d entries item)

-- so over the three files
abbrev pub Lists : Direction → File → File → File → List ℕ → End → List ℕ → Type 0
Lists d spec view labels item = SpecStage spec (λ h. ViewStage h.core view (λ u. ListsLabels h u d item labels))

-- EVENTS under a view, and then why one item rests on another
abbrev pub ExplainsRun : Grammar → View → File → List ℕ → List ℕ → End → List ℕ → Type 0
ExplainsRun g u events first second = EventsStage g instance_most (lines_in events) (λ es. []) (λ es. IsReason g u es first second)

-- so over the three files
abbrev pub Explains : File → File → File → List ℕ → List ℕ → End → List ℕ → Type 0
Explains spec view events first second = SpecStage spec (λ h. ViewStage h.core view (λ u. ExplainsRun h.core u events first second))

-- the command that a value is
abbrev pub meant : CommandHeld → Command
meant (LineageHeld w) = Lineage w.spec.now w.view.now w.labels.now w.item.now
meant (ImpactHeld w) = Impact w.spec.now w.view.now w.labels.now w.item.now
meant (ExplainHeld w) = Explain w.spec.now w.view.now w.events.now w.first.now w.second.now
meant (VerifyHeld w) = Verify w.spec.now w.view.now w.events.now w.chain.now

-- a value is the command that words are, or there is none and they are no command
abbrev pub IsMeant : Option Command → Option CommandHeld → Type 0
IsMeant words None = words ≡ None
IsMeant words (Some c) = words ≡ Some (meant c)

-- what a command does over files: `lineage` lists upstream, and `impact` downstream
abbrev pub Does : (List ℕ → File) → Command → End → List ℕ → Type 0
Does files (Lineage s v l x) = Lists Upstream (files s) (files v) (files l) x
Does files (Impact s v l x) = Lists Downstream (files s) (files v) (files l) x
Does files (Explain s v e x y) = Explains (files s) (files v) (files e) x y
Does files (Verify s v e c) = Verifies (files s) (files v) (files e) (files c)
