-- Matrices of bodies.
use Rattle.std.proofs.Common.{◌≡◌, ℕ, ◌+◌, ◌*◌, ◌≤◌, length, get_or, Option, Some, None, refl, sym, ◌∙◌, subst, arith}
use Rattle.bool_mat.specs.Matrix.{matrix_at}
use Rattle.wf_model.specs.Grammar.{Grammar, Assignment, body_of, head_of, inputs_of, outputs_of}
use Rattle.wf_model.specs.View.{View, expands}
use Rattle.wf_model.specs.Reach.{Step, Between, Into, OutOf, target_of}
use Rattle.wf_body.specs.Matrices.{IsMatrixOf, beside}
use Rattle.wf_model.specs.OpenRoutes.{IsOpenStep}
use Rattle.wf_safe.specs.Inducing.{IsSeenExpanded}
use Rattle.wf_vlabel.specs.Groups.{GroupsSeen, matrix_of, nth_from}
use Rattle.wf_vlabel.specs.Growing.{AreGroupsOf, IsBodyGroup}
use Rattle.wf_vlabel.specs.Tables.{AreBodyGroups, Expands, IsStepGroup, begins, of_body, of_position}
use Rattle.wf_vlabel.proofs.Grouping.{Stays, room_kept}
use Rattle.wf_vlabel.proofs.SameSeen.{same_seen}
use Rattle.wf_vlabel.proofs.StepGroups.{ends_within, step_kept}

pub bodies_stay : (g : Grammar) (u : View) (d : Assignment) → Stays (IsBodyGroup g u d)
bodies_stay g u d p old new None grows h = h
bodies_stay g u d p old new (Some n) grows h =
    let r = room_kept old new grows in
    let room = h.0 in (
      omega (arith, r, room),
      λ j l. let within = ends_within j (length (body_of g p)) (of_position g p) l in
          step_kept g d (record { production = p; position = j }) old new (n + j * of_position g p) grows (omega (arith, room, within)) (h.1 j l),
    )

-- the groups of all productions
module _ (g : Grammar) (u : View) (d : Assignment) (t : GroupsSeen) (groups : AreGroupsOf (IsBodyGroup g u d) (length g.productions) t.pool t.first) where
  -- the step has a group, in which the matrices of its position stand
  record HasStep (s : Step) : Type 0 where
    number : ℕ
    has : get_or t.first s.production None ≡ Some number
    inside : number + of_body g s.production ≤ length t.pool
    step : IsStepGroup g d s t.pool (number + begins g s)

  of_open : (v : View) (s : Step) → Expands v (expands u) → IsOpenStep g v s → HasStep s
  of_open v s same opens = by_group (get_or t.first s.production None) refl (groups.each s.production opens.in_range)
    where
      known : IsSeenExpanded g u (head_of g s.production)
      known = (same_seen g v u same (head_of g s.production) opens.seen, sym (same (head_of g s.production)) ∙ opens.expanded)

      by_group : (n : Option ℕ) → get_or t.first s.production None ≡ n → IsBodyGroup g u d s.production t.pool n → HasStep s
      by_group None is h = absurd (h known)
      by_group (Some n) is h = record { number = n; has = is; inside = h.0; step = h.1 s.position opens.position }

  -- the matrix at a place of the group
  at_place : (s : Step) (x : HasStep s) (place k : ℕ) (rows columns : ℕ) (R : ℕ → ℕ → Type 0) → x.number + place ≡ k → IsMatrixOf rows columns R (matrix_at t.pool k) → IsMatrixOf rows columns R (matrix_of t s.production place)
  at_place s x place k rows columns R e h =
      subst (λ n. IsMatrixOf rows columns R (nth_from t.pool n place)) (sym x.has) (subst (λ n. IsMatrixOf rows columns R (matrix_at t.pool n)) (sym e) h)

  pub bodies_are : AreBodyGroups g (expands u) d t
  bodies_are =
      record {
        has = λ v s same opens. let x = of_open v s same opens in record { number = x.number; has = x.has; inside = x.inside };
        into = λ v s same opens. let x = of_open v s same opens in
            at_place s x (begins g s) (x.number + begins g s) (inputs_of g (head_of g s.production)) (inputs_of g (target_of g s)) (Into g d s) refl x.step.into;
        out_of = λ v s same opens. let x = of_open v s same opens in
            at_place s x (begins g s + 1) (x.number + begins g s + 1) (outputs_of g (target_of g s)) (outputs_of g (head_of g s.production)) (OutOf g d s) (omega arith) x.step.out_of;
        between = λ v s to same opens l. let x = of_open v s same opens in
            at_place s x (begins g s + (2 + to)) (x.number + begins g s + (2 + to)) (outputs_of g (target_of g s)) (inputs_of g (target_of g (beside s to))) (Between g d s to) (omega arith) (x.step.between to l);
      }
