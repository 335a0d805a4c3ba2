-- `check` and `view` have one outcome at most.
use Rattle.std.proofs.Common.{ℕ, List, sym, ◌∙◌}
use Rattle.wf_io.specs.Told.{File}
use Rattle.wf_stage.specs.Outcomes.{HasOneOutcome}
use Rattle.wf_inputs.proofs.ToldGrammars.{told_formed, told_proper, told_linear}
use Rattle.cmd_describe.specs.Words.{Command, Check, View}
use Rattle.cmd_describe.specs.Does.{IsChecked, IsViewWritten, Checks, Views, Does}
use Rattle.cmd_describe.proofs.OneText.{one_text}
use Rattle.cmd_describe.proofs.OneViewText.{one_view_text}
use Rattle.wf_inputs.proofs.ViewComposites.{told_composites}
use Rattle.wf_inputs.proofs.OneStages.{one_spec_stage, one_view_stage}

one_check : (spec : File) → HasOneOutcome (Checks spec)
one_check spec = one_spec_stage spec (λ h. IsChecked h.core) (λ h told d e t s p q.
    (p.0 ∙ sym q.0, p.1.4 ∙ (one_text h.core (told_linear spec.bytes h told) p.1.0 q.1.0 p.1.2 q.1.2 p.1.1 q.1.1 p.1.3 q.1.3 ∙ sym q.1.4)))

one_view : (spec view : File) → HasOneOutcome (Views spec view)
one_view spec view = one_spec_stage spec _ (λ h told. one_view_stage spec.bytes h told view (IsViewWritten h.core) (λ u shown d e t s p q. (
  p.0 ∙ sym q.0,
  p.1.4 ∙ (one_view_text h.core u (told_proper spec.bytes h told) (told_composites h.core (told_formed spec.bytes h told) view.bytes u shown)
      p.1.0 q.1.0 p.1.1 q.1.1 p.1.2 q.1.2 p.1.3 q.1.3 ∙ sym q.1.4),
)))

pub one_description : (files : List ℕ → File) (c : Command) → HasOneOutcome (Does files c)
one_description files (Check a) = one_check (files a)
one_description files (View a b) = one_view (files a) (files b)
