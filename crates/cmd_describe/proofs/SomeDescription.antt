-- `check` and `view` have an outcome.
use Rattle.std.proofs.Common.{ℕ, Bool, List, refl}
use Rattle.wf_model.specs.Grammar.{Grammar}
use Rattle.wf_model.specs.WellFormed.{IsWellFormed}
use Rattle.wf_model.specs.Proper.{IsProper}
use Rattle.wf_model.specs.Linear.{IsLinear}
use Rattle.wf_model.specs.View.{View as ViewOf}
use Rattle.wf_model.specs.Safe.{IsSafe}
use Rattle.wf_model.specs.Finishing.{ExpandsComposites}
use Rattle.wf_model.proofs.Deciding.{is_so, so_gives, so_from}
use Rattle.wf_laws.proofs.Full.{safe_full_law}
use Rattle.wf_laws.proofs.SeenOrNot.{seen_either}
use Rattle.wf_io.specs.Told.{File}
use Rattle.wf_check.proofs.ProperOrFault.{some_ranking}
use Rattle.wf_recur.proofs.SomeCycles.{some_cycles}
use Rattle.wf_message.specs.Endings.{Done}
use Rattle.wf_stage.specs.Outcomes.{HasOutcome}
use Rattle.wf_inputs.proofs.SomeInputs.{some_spec_stage, some_view_stage}
use Rattle.wf_inputs.proofs.ToldGrammars.{told_formed, told_proper, told_linear}
use Rattle.wf_inputs.proofs.ViewComposites.{told_composites}
use Rattle.cmd_describe.specs.Words.{Command, Check, View}
use Rattle.cmd_describe.specs.CheckText.{check_text_of}
use Rattle.cmd_describe.specs.ViewText.{IsSeenTest, view_text_of}
use Rattle.cmd_describe.specs.Does.{IsChecked, IsViewWritten, Checks, Views, Does}

-- a grammar has a text
some_text : (g : Grammar) → IsWellFormed g → IsProper g → IsLinear g → HasOutcome (IsChecked g)
some_text g formed proper linear =
    let r = some_ranking g formed proper in
    let c = some_cycles g formed linear in
    (Done, check_text_of g r.0 c.0, (refl, (r.0, c.0, r.1, c.1, refl)))

-- a test of seen modules
abbrev seen_test : Grammar → ViewOf → ℕ → Bool
seen_test g u m = is_so (seen_either g u m)

seen_told : (g : Grammar) (u : ViewOf) → IsSeenTest g u (seen_test g u)
seen_told g u m h = (so_gives (seen_either g u m), so_from (seen_either g u m))

-- so has a safe view
some_view_text : (g : Grammar) (u : ViewOf) → IsWellFormed g → IsProper g → ExpandsComposites g u → IsSafe g u → HasOutcome (IsViewWritten g u)
some_view_text g u formed proper composites safe =
    let full = safe_full_law g u formed proper composites safe in
    (Done, view_text_of g u (seen_test g u) full.0, (refl, (seen_test g u, full.0, seen_told g u, full.1, refl)))

some_check : (spec : File) → HasOutcome (Checks spec)
some_check spec = some_spec_stage spec (λ h. IsChecked h.core) (λ h told. some_text h.core (told_formed spec.bytes h told) (told_proper spec.bytes h told) (told_linear spec.bytes h told))

some_view : (spec view : File) → HasOutcome (Views spec view)
some_view spec view = some_spec_stage spec _ (λ h told. some_view_stage spec.bytes h told view (IsViewWritten h.core) (λ u shown.
    some_view_text h.core u (told_formed spec.bytes h told) (told_proper spec.bytes h told) (told_composites h.core (told_formed spec.bytes h told) view.bytes u shown) shown.safe))

pub some_description : (files : List ℕ → File) (c : Command) → HasOutcome (Does files c)
some_description files (Check a) = some_check (files a)
some_description files (View a b) = some_view (files a) (files b)
