-- `lineage`, `impact`, `explain` and `verify` have an outcome.
use Rattle.std.proofs.Common.{ℕ, List, [], refl}
use Rattle.wf_io.specs.Told.{File}
use Rattle.wf_io.specs.Lines.{lines_in}
use Rattle.wf_message.specs.Endings.{Done}
use Rattle.wf_stage.specs.Outcomes.{HasOutcome}
use Rattle.wf_inputs.specs.Inputs.{instance_most}
use Rattle.wf_inputs.proofs.SomeRun.{some_events}
use Rattle.wf_inputs.proofs.OneRun.{events_accepted}
use Rattle.wf_inputs.proofs.SomeInputs.{some_spec_stage, some_view_stage, some_labels_stage, told_labels}
use Rattle.wf_inputs.proofs.ToldGrammars.{told_formed, told_proper}
use Rattle.wf_inputs.proofs.ViewComposites.{told_composites}
use Rattle.wf_lineage.specs.declared.direction.Direction.{Direction}
use Rattle.wf_lineage.specs.declared.direction.Direction.TheVariants.{Upstream, Downstream}
use Rattle.wf_lineage.proofs.SomeListing.{some_listing_text}
use Rattle.cmd_explain.proofs.Verifying.{some_verified}
use Rattle.cmd_explain.specs.Words.{Command, Lineage, Impact, Explain, Verify}
use Rattle.cmd_explain.specs.Does.{Lists, Explains, Does}
use Rattle.cmd_explain.proofs.Reasons.{some_reason}

some_listed : (d : Direction) (spec view labels : File) (item : List ℕ) → HasOutcome (Lists d spec view labels item)
some_listed d spec view labels item =
    some_spec_stage spec _ (λ h p.
    some_view_stage spec.bytes h p view _ (λ u q.
    some_labels_stage h labels _ (λ es told.
    let text = some_listing_text h.core u (told_formed spec.bytes h p) (told_proper spec.bytes h p) (told_composites h.core (told_formed spec.bytes h p) view.bytes u q) q.safe es (told_labels h labels.bytes es told) d item in
    (Done, text.0, (refl, text.1)))))

some_explained : (spec view events : File) (first second : List ℕ) → HasOutcome (Explains spec view events first second)
some_explained spec view events first second =
    some_spec_stage spec _ (λ h p.
    some_view_stage spec.bytes h p view _ (λ u q.
    some_events h.core instance_most (lines_in events) (λ r. []) _ (λ r told.
    let text = some_reason h.core u (told_formed spec.bytes h p) r (events_accepted h.core instance_most (lines_in events) r told).0 first second (told_proper spec.bytes h p) (told_composites h.core (told_formed spec.bytes h p) view.bytes u q) q.safe in
    (Done, text.0, text.1))))

pub some_explaining : (files : List ℕ → File) (c : Command) → HasOutcome (Does files c)
some_explaining files (Lineage s v l x) = some_listed Upstream (files s) (files v) (files l) x
some_explaining files (Impact s v l x) = some_listed Downstream (files s) (files v) (files l) x
some_explaining files (Explain s v e x y) = some_explained (files s) (files v) (files e) x y
some_explaining files (Verify s v e c) = some_verified (files s) (files v) (files e) (files c)
