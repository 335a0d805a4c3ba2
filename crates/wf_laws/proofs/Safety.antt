-- A view is safe exactly if every production passes its test.
use Rattle.std.proofs.Common.{ℕ, List}
use Rattle.wf_model.specs.Grammar.{Grammar, Assignment, head_of}
use Rattle.wf_model.specs.View.{View, in_body}
use Rattle.wf_model.specs.Safe.{IsSafe, IsInduced, IsInducedBy, IsChosen, SafetyLaw}
use Rattle.wf_laws.specs.Chosen.{HasBothExpansions, ChosenLaw}
use Rattle.wf_laws.specs.Settled.{IsInducedWhereSettled}
use Rattle.wf_laws.proofs.Safe.{one_test_suffices}
use Rattle.wf_laws.proofs.Settled.{settled_law}

pub chosen_law : ChosenLaw
chosen_law g u d choice wf ends ind =
    let told = settled_law g u choice wf in
    let where_settled : IsInducedWhereSettled g u (IsChosen choice) d = record { shown = ind.shown; induced = λ p hp c seen ex s. ind.induced p hp c seen ex } in
    record {
      chosen = λ m seen. let a = told.run m seen (ends m seen) in
          record { events = a.0; expansion_of = a.1; by = a.2; joins = told.joins d where_settled m seen a.0 a.1 a.2 };
      other = λ p hp seen ex. let a = told.other_run p hp seen ex (λ k i. ends k (in_body p hp seen ex i)) in
          record { events = a.0; expansion_of = a.1; by = a.2; joins = told.other_joins d where_settled p seen ex a.0 a.1 a.2 };
    }

safe_induced : (g : Grammar) (u : View) (d : Assignment) (choice : List (ℕ × ℕ)) → IsInducedBy g u (IsChosen choice) d → HasBothExpansions g u d choice → IsSafe g u → IsInduced g u d
safe_induced g u d choice ind both safe = record {
  shown = ind.shown;
  induced = λ p hp seen ex i o hi ho.
      let a = both.chosen (head_of g p) seen in
      let b = both.other p hp seen ex in
      let ag = a.joins i o hi ho in
      let jo = b.joins i o in (
        (λ t. jo.1 (safe (head_of g p) seen a.events b.events a.expansion_of b.expansion_of i o hi ho (ag.0 t))),
        (λ w. ag.1 (safe (head_of g p) seen b.events a.events b.expansion_of a.expansion_of i o hi ho (jo.0 w))),
      );
}

pub safety_law : SafetyLaw
safety_law g u d choice wf ends ind = (
  safe_induced g u d choice ind (chosen_law g u d choice wf ends ind),
  (λ all m seen e f x y i o hi ho w.
      let full = one_test_suffices g u d wf all m seen in
      (full f y i o hi ho).0 ((full e x i o hi ho).1 w)),
)
