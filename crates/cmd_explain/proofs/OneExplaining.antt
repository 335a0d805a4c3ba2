-- `lineage`, `impact`, `explain` and `verify` have one outcome at most.
use Rattle.std.proofs.Common.{ℕ, List, [], sym, ◌∙◌}
use Rattle.wf_model.specs.View.{View}
use Rattle.wf_model.specs.Lists.{AllDiffer}
use Rattle.wf_spec.specs.Held.{HeldGrammar}
use Rattle.label_model.specs.Files.{Entry, names_of_entries}
use Rattle.wf_io.specs.Told.{File}
use Rattle.wf_io.specs.Lines.{lines_in}
use Rattle.wf_stage.specs.Stages.{OfWhole}
use Rattle.wf_stage.specs.Outcomes.{HasOneOutcome}
use Rattle.wf_stage.proofs.TwoStages.{same_outcome}
use Rattle.wf_inputs.specs.Inputs.{labels_kind, instance_most}
use Rattle.wf_inputs.specs.LabelsTold.{TellsEntries, RefusesLabels}
use Rattle.wf_inputs.proofs.OneLabels.{one_entries, one_refusal_of_labels, no_refusal_of_labels, told_differ}
use Rattle.wf_inputs.proofs.ToldGrammars.{told_formed, told_proper}
use Rattle.wf_inputs.proofs.ViewComposites.{told_composites}
use Rattle.wf_inputs.proofs.OneRun.{one_events, events_accepted}
use Rattle.wf_inputs.proofs.OneStages.{one_spec_stage, one_view_stage}
use Rattle.wf_lineage.specs.declared.direction.Direction.{Direction}
use Rattle.wf_lineage.specs.declared.direction.Direction.TheVariants.{Upstream, Downstream}
use Rattle.wf_lineage.proofs.OneListing.{one_listing_text}
use Rattle.cmd_explain.proofs.Verifying.{one_verified}
use Rattle.cmd_explain.specs.Words.{Command, Lineage, Impact, Explain, Verify}
use Rattle.cmd_explain.specs.Listings.{ListsItem}
use Rattle.cmd_explain.specs.Does.{Lists, Explains, Does}
use Rattle.cmd_explain.proofs.Reasons.{one_reason}

one_item : (h : HeldGrammar) (u : View) (d : Direction) (es : List Entry) → AllDiffer (names_of_entries es) → (item : List ℕ) → HasOneOutcome (ListsItem h.core u d es item)
one_item h u d es differ item a b t s p q = (p.0 ∙ sym q.0, one_listing_text h.core es differ u d item t s p.1 q.1)

one_listed : (d : Direction) (spec view labels : File) (item : List ℕ) → HasOneOutcome (Lists d spec view labels item)
one_listed d spec view labels item =
    one_spec_stage spec _ (λ h p.
    one_view_stage spec.bytes h p view _ (λ u q.
    same_outcome labels_kind [] labels (TellsEntries h) (OfWhole (RefusesLabels h)) _ _ (one_entries h labels.bytes) (one_refusal_of_labels h labels.bytes) (no_refusal_of_labels h labels.bytes) (λ es told.
    one_item h u d es (told_differ h labels.bytes es told) item)))

one_explained : (spec view events : File) (first second : List ℕ) → HasOneOutcome (Explains spec view events first second)
one_explained spec view events first second =
    one_spec_stage spec _ (λ h p.
    one_view_stage spec.bytes h p view _ (λ u q.
    one_events h.core instance_most (lines_in events) (λ r. []) _ (λ r told.
    one_reason h.core u (told_formed spec.bytes h p) r (events_accepted h.core instance_most (lines_in events) r told).0 first second (told_proper spec.bytes h p) (told_composites h.core (told_formed spec.bytes h p) view.bytes u q))))

pub one_explaining : (files : List ℕ → File) (c : Command) → HasOneOutcome (Does files c)
one_explaining files (Lineage s v l x) = one_listed Upstream (files s) (files v) (files l) x
one_explaining files (Impact s v l x) = one_listed Downstream (files s) (files v) (files l) x
one_explaining files (Explain s v e x y) = one_explained (files s) (files v) (files e) x y
one_explaining files (Verify s v e c) = one_verified (files s) (files v) (files e) (files c)
