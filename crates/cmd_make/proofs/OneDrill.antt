-- `drill` has one end and one text.
use Rattle.std.proofs.Common.{◌≡◌, ℕ, List, length, sym, ap, ◌∙◌}
use Rattle.wf_model.specs.Grammar.{Grammar}
use Rattle.wf_model.specs.View.{View}
use Rattle.wf_model.specs.Run.{made}
use Rattle.wf_gen.specs.Turns.{Generated, generated}
use Rattle.wf_message.specs.Endings.{End}
use Rattle.wf_inputs.specs.Inputs.{instance_most}
use Rattle.cmd_make.specs.DrillText.{labels_of_run, pairs_of, longest, summary, IsSummary, IsDrilled}
use Rattle.cmd_make.proofs.PairVerdicts.{one_list}

pub one_summary : (g : Grammar) (u : View) (r : Generated) (t s : List ℕ) → IsSummary g u r t → IsSummary g u r s → t ≡ s
one_summary g u r t s p q =
    let ls = labels_of_run g r.events in
    p.2 ∙ (ap (summary (length (made g g.start r.events)) (length ls) (longest ls)) (one_list g u ls (pairs_of g r) p.0 q.0 p.1 q.1) ∙ sym q.2)

pub one_drill : (g : Grammar) (u : View) (n seed : ℕ) (d e : End) (t s : List ℕ) → IsDrilled g u n seed d t → IsDrilled g u n seed e s → (d ≡ e) × (t ≡ s)
one_drill g u n seed d e t s p q = (p.0 ∙ sym q.0, one_summary g u (generated g n seed instance_most) t s p.1 q.1)
