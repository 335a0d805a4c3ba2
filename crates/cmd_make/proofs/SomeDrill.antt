-- `drill` has an outcome, and each of its pairs is counted once.
use Rattle.std.proofs.Common.{ℕ, List, length, refl, ◌∙◌}
use Rattle.wf_model.specs.Grammar.{Grammar}
use Rattle.wf_model.specs.Lists.{IsIn}
use Rattle.wf_model.specs.WellFormed.{IsWellFormed}
use Rattle.wf_model.specs.Proper.{IsProper}
use Rattle.wf_model.specs.Run.{made, IsAccepted}
use Rattle.wf_model.specs.View.{View}
use Rattle.wf_model.specs.Safe.{IsSafe}
use Rattle.wf_model.specs.Finishing.{ExpandsComposites}
use Rattle.verdict_model.specs.declared.verdict.Verdict.{Verdict}
use Rattle.verdict_model.specs.declared.verdict.Verdict.TheVariants.{Clash}
use Rattle.verdict_model.specs.Verdicts.{IsVerdict}
use Rattle.verdict_model.proofs.Clashing.{no_clash_law}
use Rattle.verdict_model.proofs.SomeVerdict.{some_verdict}
use Rattle.wf_gen.specs.Turns.{Generated, generated}
use Rattle.wf_message.specs.Endings.{Done}
use Rattle.wf_stage.specs.Outcomes.{HasOutcome}
use Rattle.wf_inputs.specs.Inputs.{instance_most}
use Rattle.cmd_make.specs.DrillText.{labels_of_run, pair_count, pairs_of, label_no, AreVerdicts, longest, summary, IsDrilled}
use Rattle.cmd_make.specs.DrillLaws.{PairsCountedLaw}
use Rattle.cmd_make.specs.HeldLabels.{AreWithin}
use Rattle.cmd_make.proofs.PairVerdicts.{some_list, drawn_within, some_items, length-drawn, counted_once}
use Rattle.cmd_make.proofs.RunLabels.{generated_accepted, item_no}

-- the pairs are of items of the run
pub pairs_within : (g : Grammar) (r : Generated) → AreWithin (length (labels_of_run g r.events)) (pairs_of g r)
pairs_within g r =
    let items = length (labels_of_run g r.events) in
    drawn_within (pair_count items) items r.last.draws (some_items items)

-- so each has a verdict
pub some_verdicts : (g : Grammar) (u : View) (r : Generated) → IsWellFormed g → IsProper g → ExpandsComposites g u → IsSafe g u → IsAccepted g instance_most r.events → (vs : List Verdict) × AreVerdicts g u (labels_of_run g r.events) (pairs_of g r) vs
some_verdicts g u r formed proper composites safe accepted =
    let ls = labels_of_run g r.events in
    some_list g u ls (pairs_of g r) (λ p i.
    let below = pairs_within g r p i in
    some_verdict g u formed proper composites safe (label_no ls p.0) (label_no ls p.1) (item_no g formed r.events accepted p.0 below.0).1.1 (item_no g formed r.events accepted p.1 below.1).1.1)

pub some_drill : (g : Grammar) (u : View) → IsWellFormed g → IsProper g → ExpandsComposites g u → IsSafe g u → (n seed : ℕ) → HasOutcome (IsDrilled g u n seed)
some_drill g u formed proper composites safe n seed =
    let r = generated g n seed instance_most in
    let ls = labels_of_run g r.events in
    let vs = some_verdicts g u r formed proper composites safe (generated_accepted g formed n seed) in
    (Done, summary (length (made g g.start r.events)) (length ls) (longest ls) vs.0, (refl, (vs.0, vs.1, refl)))

-- no two labels of a run clash
no_clash : (g : Grammar) (u : View) (r : Generated) → IsWellFormed g → IsAccepted g instance_most r.events → (p : ℕ × ℕ) → IsIn p (pairs_of g r) → IsVerdict g u (label_no (labels_of_run g r.events) p.0) (label_no (labels_of_run g r.events) p.1) Clash → ⊥
no_clash g u r formed accepted p i clash =
    let ls = labels_of_run g r.events in
    let below = pairs_within g r p i in
    let first = item_no g formed r.events accepted p.0 below.0 in
    let second = item_no g formed r.events accepted p.1 below.1 in
    no_clash_law g formed r.events accepted.0 first.0 second.0 (label_no ls p.0) (label_no ls p.1) first.1 second.1 clash.1

pub pairs_counted_law : PairsCountedLaw
pairs_counted_law g formed u n seed vs all =
    let r = generated g n seed instance_most in
    let items = length (labels_of_run g r.events) in
    counted_once g u (labels_of_run g r.events) (pairs_of g r) vs (no_clash g u r formed (generated_accepted g formed n seed)) all ∙ length-drawn (pair_count items) items r.last.draws
