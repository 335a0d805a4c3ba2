-- The matrices of many rounds of all cycles that are open.
use Rattle.std.proofs.Common.{◌≡◌, ◌≢◌, ℕ, ◌+◌, ◌^◌, ◌<◌, List, [], ◌∷◌, length, get_or, Option, Some, None, sym, ◌∙◌, subst, inl, inr, arith}
use Rattle.std.proofs.lemmas.Option.{none-some}
use Rattle.std.proofs.lemmas.Bool.{cases_eq}
use Rattle.bool_mat.specs.Matrix.{Matrix, Power}
use Rattle.wf_model.specs.Grammar.{Grammar, Assignment, inputs_of, outputs_of}
use Rattle.wf_model.specs.WellFormed.{IsWellFormed}
use Rattle.wf_model.specs.Linear.{IsLinear}
use Rattle.wf_model.specs.Reach.{Step}
use Rattle.wf_model.specs.View.{View, expands}
use Rattle.label_model.specs.Continuing.{continuing}
use Rattle.label_model.proofs.ContinuingSteps.{continuing_law}
use Rattle.wf_laws.specs.Splits.{IntoAll, OutAll}
use Rattle.wf_body.specs.Matrices.{IsMatrixOf}
use Rattle.decode_model.specs.Matrices.{IsOnceRound}
use Rattle.wf_recur.specs.Cycles.{CyclesSeen, round_at, least_of, AreCyclesOf}
use Rattle.wf_recur.proofs.Places.{stands_somewhere}
use Rattle.wf_vlabel.specs.Groups.{GroupsSeen, nth_from}
use Rattle.wf_vlabel.specs.Tables.{Expands, AreSquareGroups}
use Rattle.wf_vlabel.specs.RoundSteps.{IsOpenCycle, HasRounds}
use Rattle.wf_vlabel.proofs.OpenCycles.{cycle_open, once_of}

-- the modules of the open cycles of which the number is below n have their matrices
abbrev pub HaveRoundsBelow : Grammar → CyclesSeen → View → Assignment → ℕ → List Matrix → List (Option ℕ) → Type 0
HaveRoundsBelow g t v d n pool first = (k j : ℕ) → k < n → j < length (round_at t k) → IsOpenCycle g v (least_of (round_at t k)) → HasRounds g d (get_or (round_at t k) j 0) pool first

-- one cycle more
pub rounds_more : (g : Grammar) (t : CyclesSeen) (v : View) (d : Assignment) (c : ℕ) (old new : List Matrix) (first later : List (Option ℕ)) →
    ((m : ℕ) → HasRounds g d m old first → HasRounds g d m new later) →
    (IsOpenCycle g v (least_of (round_at t c)) → (j : ℕ) → j < length (round_at t c) → HasRounds g d (get_or (round_at t c) j 0) new later) →
    HaveRoundsBelow g t v d c old first → HaveRoundsBelow g t v d (c + 1) new later
rounds_more g t v d c old new first later kept told before k j l h o =
    elim (cases_eq k c) [
      | inl is ↦ subst (λ z. IsOpenCycle g v (least_of (round_at t z)) → (i : ℕ) → i < length (round_at t z) → HasRounds g d (get_or (round_at t z) i 0) new later) (sym is) told o j h
      | inr not ↦ kept (get_or (round_at t k) j 0) (before k j (omega arith) h o)
    ]

-- a module from which steps lead once round is one of the grammar, and continues
round_starts : (g : Grammar) → IsWellFormed g → IsLinear g → (u : View) (m : ℕ) (round : List Step) → IsOnceRound g u m round → (m < length g.modules) × (continuing g m ≢ None)
round_starts g wf lin u m [] o = let s = o.some in absurd (omega arith)
round_starts g wf lin u m (s ∷ round) o =
    let c = o.goes_round.continuing.0 in
    let e : continuing g m ≡ Some s = (continuing_law g wf lin m s).1 c in
    (subst (λ k. k < length g.modules) c.0.head (wf.heads s.production c.0.in_range), λ none. none-some s (sym none ∙ e))

-- it has the matrices
rounds_found : (g : Grammar) (t : CyclesSeen) (v : View) (d : Assignment) (pool : List Matrix) (first : List (Option ℕ)) → IsWellFormed g → IsLinear g → AreCyclesOf g t → HaveRoundsBelow g t v d (length t.rounds) pool first →
    (u : View) (m : ℕ) (round : List Step) → Expands u (expands v) → IsOnceRound g u m round → HasRounds g d m pool first
rounds_found g t v d pool first wf lin h all u m round same o =
    let b = round_starts g wf lin u m round o in
    let at = stands_somewhere g t h m b.0 b.1 in
    let s = h.on_one m at.0 at.1 in
    subst (λ z. HasRounds g d z pool first) s.is
    (all at.0.cycle at.0.place s.cycle s.place (cycle_open g t at.0.cycle at.0.place u v round wf lin h s.cycle s.place same (subst (λ z. IsOnceRound g u z round) (sym s.is) o)))

-- so the table is the one that is asked for
pub squares_told : (g : Grammar) (t : CyclesSeen) (v : View) (d : Assignment) (groups : GroupsSeen) → IsWellFormed g → IsLinear g → AreCyclesOf g t → HaveRoundsBelow g t v d (length t.rounds) groups.pool groups.first → AreSquareGroups g (expands v) d groups
squares_told g t v d groups wf lin h all =
    record {
      has = λ u m round same o. let r = found u m round same o in record { number = r.0; has = r.1; inside = (r.2 round (once_of g u m round o)).inside };
      down = λ u m round same o k l. let r = found u m round same o in subst (λ z. IsMatrixOf (inputs_of g m) (inputs_of g m) (Power (IntoAll g d round) (2 ^ k)) (nth_from groups.pool z k)) (sym r.1) ((r.2 round (once_of g u m round o)).down k l);
      up = λ u m round same o k l. let r = found u m round same o in subst (λ z. IsMatrixOf (outputs_of g m) (outputs_of g m) (Power (OutAll g d round) (2 ^ k)) (nth_from groups.pool z (24 + k))) (sym r.1) ((r.2 round (once_of g u m round o)).up k l);
    }
  where
    found : (u : View) (m : ℕ) (round : List Step) → Expands u (expands v) → IsOnceRound g u m round → HasRounds g d m groups.pool groups.first
    found = rounds_found g t v d groups.pool groups.first wf lin h all
