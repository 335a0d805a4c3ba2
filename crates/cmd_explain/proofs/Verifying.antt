-- `verify` has one outcome, and over good files it does all that it is to do.
use Rattle.std.proofs.Common.{[]}
use Rattle.wf_io.specs.Told.{File}
use Rattle.wf_io.specs.Lines.{lines_in}
use Rattle.wf_stage.specs.Outcomes.{HasOneOutcome, HasOutcome, EndsInDone}
use Rattle.wf_inputs.specs.Inputs.{instance_most}
use Rattle.wf_inputs.proofs.ToldGrammars.{told_formed, told_proper}
use Rattle.wf_inputs.proofs.OneRun.{one_events, events_accepted, events_goes_on}
use Rattle.wf_inputs.proofs.OneStages.{one_spec_stage, one_view_stage}
use Rattle.wf_inputs.proofs.SomeInputs.{some_spec_stage, some_view_stage}
use Rattle.wf_inputs.proofs.SomeRun.{some_events}
use Rattle.wf_inputs.proofs.ViewComposites.{told_composites}
use Rattle.wf_inputs.proofs.GoodFiles.{spec_goes_on, view_goes_on}
use Rattle.wf_reason.specs.HandedIn.{ChainStage}
use Rattle.wf_reason.specs.Checked.{IsSaidOf}
use Rattle.wf_reason.proofs.TakenLines.{one_chain, some_chain}
use Rattle.wf_reason.proofs.Verified.{one_said, some_said, chain_done}
use Rattle.cmd_explain.specs.Verifying.{VerifiesRun, VerifiesView, Verifies, CanVerify}

pub one_verified : (spec view events chain : File) → HasOneOutcome (Verifies spec view events chain)
one_verified spec view events chain =
    one_spec_stage spec _ (λ h p.
    one_view_stage spec.bytes h p view _ (λ u q.
    one_events h.core instance_most (lines_in events) (λ r. []) _ (λ r told.
    one_chain (lines_in chain) (IsSaidOf h.core u r)
    (one_said h.core u (told_proper spec.bytes h p) (told_composites h.core (told_formed spec.bytes h p) view.bytes u q) r (events_accepted h.core instance_most (lines_in events) r told).0))))

pub some_verified : (spec view events chain : File) → HasOutcome (Verifies spec view events chain)
some_verified spec view events chain =
    some_spec_stage spec _ (λ h p.
    some_view_stage spec.bytes h p view _ (λ u q.
    some_events h.core instance_most (lines_in events) (λ r. []) _ (λ r told.
    some_chain (lines_in chain) (IsSaidOf h.core u r)
    (some_said h.core u (told_proper spec.bytes h p) (told_composites h.core (told_formed spec.bytes h p) view.bytes u q) r (events_accepted h.core instance_most (lines_in events) r told).0 (told_formed spec.bytes h p) q.safe))))

pub good_verified : (spec view events chain : File) → CanVerify spec view events chain → EndsInDone (Verifies spec view events chain)
good_verified spec view events chain good e t h =
    let g = good.grammar.core in
    let u = good.viewed.1.0 in
    let es = good.run.0 in
    chain_done chain good.lines g u es e t
    (events_goes_on g instance_most (lines_in events) (λ r. []) (λ r. ChainStage (lines_in chain) (IsSaidOf g u r)) es good.run.1 e t
    (view_goes_on g view u good.viewed.1.1 (λ w. VerifiesRun g w events chain) e t (spec_goes_on spec good.grammar good.viewed.0 (λ k. VerifiesView k.core view events chain) e t h)))
