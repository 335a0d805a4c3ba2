use Rattle.std.proofs.Common.{map, ℕ, sym, subst}
use Rattle.wf_model.specs.Grammar.{Grammar}
use Rattle.cmd_make.specs.DrillText.{label_no}
use Rattle.cmd_make.specs.HeldLabels.{AreHeldLabels}
use Rattle.cmd_make.proofs.LabelsHeld.{second_below, first_there, second_there, first_bits, second_bits}
use Rattle.cmd_make.proofs.verdicts.verdict_on.Goals as goal

pub label_of-first-requires-clause-held : goal.label_of-first-requires-clause-held
label_of-first-requires-clause-held g c =
    let h = c.requires.held in
    (_, subst (λ (x : Grammar). AreHeldLabels x (map (λ (p : ℕ × ℕ). label_no h.0 p.0) h.1) c.args.labels.now.firsts) (sym c.linear-linear.ensures.grammar) h.2.firsts)

pub label_of-second-requires-clause-held : goal.label_of-second-requires-clause-held
label_of-second-requires-clause-held g c =
    let h = c.requires.held in
    (_, subst (λ (x : Grammar). AreHeldLabels x (map (λ (p : ℕ × ℕ). label_no h.0 p.1) h.1) c.args.labels.now.seconds) (sym c.linear-linear.ensures.grammar) h.2.seconds)

pub label_of-second-requires-clause-in_range : goal.label_of-second-requires-clause-in_range
label_of-second-requires-clause-in_range g c =
    let h = c.requires.held in
    second_below c.args.vl.now.grammar h.0 h.1 c.args.labels.now h.2 c.args.i c.requires.in_range

pub returns-clause-verdict : goal.returns-clause-verdict
returns-clause-verdict g c u ls ps of held =
    let h = c.args.vl.now.grammar in
    let firsts = subst (λ (x : Grammar). AreHeldLabels x (map (λ (p : ℕ × ℕ). label_no ls p.0) ps) c.args.labels.now.firsts) (sym c.linear-linear.ensures.grammar) held.firsts in
    let seconds = subst (λ (x : Grammar). AreHeldLabels x (map (λ (p : ℕ × ℕ). label_no ls p.1) ps) c.args.labels.now.seconds) (sym c.linear-linear.ensures.grammar) held.seconds in
    c.decide.ensures.verdict u _ _ of
    (first_there h ls ps c.args.labels.now held c.args.i c.requires.in_range)
    (second_there h ls ps c.args.labels.now held c.args.i c.requires.in_range)
    (first_bits h ls ps c.args.labels.now held c.args.i c.requires.in_range _ (c.label_of-first.ensures.bits _ firsts))
    (second_bits h ls ps c.args.labels.now held c.args.i c.requires.in_range _ (c.label_of-second.ensures.bits _ seconds))
