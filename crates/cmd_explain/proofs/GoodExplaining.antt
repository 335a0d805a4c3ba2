-- `lineage`, `impact`, `explain` and `verify` over good files do all that they are to do.
use Rattle.std.proofs.Common.{ℕ, List, []}
use Rattle.wf_model.specs.View.{View}
use Rattle.wf_spec.specs.Held.{HeldGrammar}
use Rattle.wf_io.specs.Told.{File}
use Rattle.wf_io.specs.Lines.{lines_in}
use Rattle.wf_message.specs.Endings.{End}
use Rattle.wf_stage.specs.Stages.{OfWhole}
use Rattle.wf_stage.specs.Outcomes.{EndsInDone}
use Rattle.wf_stage.proofs.TwoStages.{stage_goes_on}
use Rattle.wf_inputs.specs.Inputs.{labels_kind, instance_most, ViewStage}
use Rattle.wf_inputs.specs.LabelsTold.{TellsEntries, RefusesLabels}
use Rattle.wf_inputs.specs.GoodFiles.{HaveView, HasEntries}
use Rattle.wf_inputs.proofs.GoodFiles.{spec_goes_on, view_goes_on}
use Rattle.wf_inputs.proofs.OneRun.{events_goes_on}
use Rattle.wf_inputs.proofs.OneLabels.{one_entries, no_refusal_of_labels}
use Rattle.wf_lineage.specs.declared.direction.Direction.{Direction}
use Rattle.wf_lineage.specs.declared.direction.Direction.TheVariants.{Upstream, Downstream}
use Rattle.cmd_explain.proofs.Verifying.{good_verified}
use Rattle.cmd_explain.specs.Words.{Command, Lineage, Impact, Explain, Verify}
use Rattle.cmd_explain.specs.Listings.{ListsItem}
use Rattle.cmd_explain.specs.Reasons.{IsReason}
use Rattle.cmd_explain.specs.Does.{ListsLabels, Lists, ExplainsRun, Does}
use Rattle.cmd_explain.specs.Family.{CanExplain}

-- the stage of good LABELS goes on with their entries
labels_go_on : (h : HeldGrammar) (u : View) (d : Direction) (item : List ℕ) (labels : File) (has : HasEntries h labels) (e : End) (t : List ℕ) → ListsLabels h u d item labels e t → ListsItem h.core u d has.0 item e t
labels_go_on h u d item labels has =
    stage_goes_on labels_kind [] labels (TellsEntries h) (OfWhole (RefusesLabels h)) (λ es. ListsItem h.core u d es item) has.0 has.1.short has.1.whole (λ b told. one_entries h labels.bytes has.0 b has.1.tells told) (λ l x r. no_refusal_of_labels h labels.bytes has.0 l x has.1.tells r)

good_listed : (d : Direction) (spec view labels : File) (item : List ℕ) (h : HeldGrammar) → HaveView spec view h → HasEntries h labels → EndsInDone (Lists d spec view labels item)
good_listed d spec view labels item h viewed has e t outcome =
    let u = viewed.1.0 in
    (labels_go_on h u d item labels has e t
    (view_goes_on h.core view u viewed.1.1 (λ w. ListsLabels h w d item labels) e t
    (spec_goes_on spec h viewed.0 (λ k. ViewStage k.core view (λ w. ListsLabels k w d item labels)) e t outcome))).0

pub good_explaining : (files : List ℕ → File) (c : Command) → CanExplain files c → EndsInDone (Does files c)
good_explaining files (Lineage s v l x) good = good_listed Upstream (files s) (files v) (files l) x good.0 good.1 good.2
good_explaining files (Impact s v l x) good = good_listed Downstream (files s) (files v) (files l) x good.0 good.1 good.2
good_explaining files (Explain s v x a b) good = λ e t h.
    let g = good.0.core in
    let u = good.1.1.0 in
    (events_goes_on g instance_most (lines_in (files x)) (λ es. []) (λ es. IsReason g u es a b) good.2.0 good.2.1 e t
    (view_goes_on g (files v) u good.1.1.1 (λ w. ExplainsRun g w (files x) a b) e t
    (spec_goes_on (files s) good.0 good.1.0 (λ k. ViewStage k.core (files v) (λ w. ExplainsRun k.core w (files x) a b)) e t h))).done
good_explaining files (Verify s v e c) good = good_verified (files s) (files v) (files e) (files c) good
