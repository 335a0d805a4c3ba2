-- A law of the counts that `drill` writes.
use Rattle.std.specs.Prelude.{◌≡◌, ℕ, ◌+◌, List, length, count_by}
use Rattle.wf_model.specs.Grammar.{Grammar}
use Rattle.wf_model.specs.WellFormed.{IsWellFormed}
use Rattle.wf_model.specs.View.{View}
use Rattle.verdict_model.specs.declared.verdict.Verdict.{Verdict}
use Rattle.wf_gen.specs.Turns.{generated}
use Rattle.wf_inputs.specs.Inputs.{instance_most}
use Rattle.cmd_make.specs.DrillText.{labels_of_run, pair_count, pairs_of, AreVerdicts, is_yes, is_no, is_hidden}

-- two labels of one run do not clash, so each pair is counted once: as yes, as no, or as hidden
abbrev pub PairsCountedLaw : Type 0
PairsCountedLaw =
    (g : Grammar) → IsWellFormed g → (u : View) (n seed : ℕ) (verdicts : List Verdict) →
    AreVerdicts g u (labels_of_run g (generated g n seed instance_most).events) (pairs_of g (generated g n seed instance_most)) verdicts →
    count_by is_yes verdicts + count_by is_no verdicts + count_by is_hidden verdicts ≡ pair_count (length (labels_of_run g (generated g n seed instance_most).events))
