-- The matrices of many rounds, module by module.
use Rattle.std.proofs.Common.{◌≡◌, ℕ, ◌+◌, ◌^◌, ◌<◌, List, length, set, Option, Some, None, sym, ap, ◌∙◌, subst, inl, inr, arith}
use Rattle.std.proofs.lemmas.List.{get_or-set_same, get_or-set_other}
use Rattle.std.proofs.lemmas.Bool.{cases_eq}
use Rattle.bool_mat.specs.Matrix.{Matrix, Power, Adds, IsPower, ArePowers, matrix_at}
use Rattle.wf_model.specs.Grammar.{Grammar, Assignment, inputs_of, outputs_of}
use Rattle.wf_model.specs.Reach.{Step}
use Rattle.wf_laws.specs.Splits.{IntoAll, OutAll}
use Rattle.label_model.specs.Continuing.{after}
use Rattle.wf_body.specs.Matrices.{IsMatrixOf}
use Rattle.decode_model.proofs.Meanings.{means_power}
use Rattle.wf_vlabel.specs.declared.rounds.way.Way.{Way}
use Rattle.wf_vlabel.specs.declared.rounds.way.Way.TheVariants.{Down, Up}
use Rattle.wf_vlabel.specs.ChainMatrices.{IsChain}
use Rattle.wf_vlabel.specs.RoundSteps.{steps_on, IsOnce, IsSquareGroup, HasRounds}

-- the matrix of steps that lead back is square
pub square_down : (g : Grammar) (d : Assignment) (m size : ℕ) (a : Matrix) → after g size m ≡ m → IsChain Down g d m size a → a.columns ≡ length a.rows
square_down g d m size a back h = h.has_columns ∙ ap (inputs_of g) back ∙ sym h.has_rows

pub square_up : (g : Grammar) (d : Assignment) (m size : ℕ) (a : Matrix) → after g size m ≡ m → IsChain Up g d m size a → a.columns ≡ length a.rows
square_up g d m size a back h = h.has_columns ∙ ap (outputs_of g) (sym back) ∙ sym h.has_rows

power_down : (g : Grammar) (d : Assignment) (m size n : ℕ) (a p : Matrix) → after g size m ≡ m → IsChain Down g d m size a → IsPower a n p → IsMatrixOf (inputs_of g m) (inputs_of g m) (Power (IntoAll g d (steps_on g size m)) n) p
power_down g d m size n a p back h q = record {
  is_matrix = q.is_matrix;
  has_rows = q.rows ∙ h.has_rows;
  has_columns = q.columns ∙ h.has_columns ∙ ap (inputs_of g) back;
  pairs = means_power a p (IntoAll g d (steps_on g size m)) n h.pairs q;
}

power_up : (g : Grammar) (d : Assignment) (m size n : ℕ) (a p : Matrix) → after g size m ≡ m → IsChain Up g d m size a → IsPower a n p → IsMatrixOf (outputs_of g m) (outputs_of g m) (Power (OutAll g d (steps_on g size m)) n) p
power_up g d m size n a p back h q = record {
  is_matrix = q.is_matrix;
  has_rows = q.rows ∙ h.has_rows ∙ ap (outputs_of g) back;
  has_columns = q.columns ∙ h.has_columns;
  pairs = means_power a p (OutAll g d (steps_on g size m)) n h.pairs q;
}

-- the powers of the two rounds, one table after the other
pub squares_made : (g : Grammar) (d : Assignment) (m size : ℕ) (pool middle new : List Matrix) (into out n next : ℕ) → after g size m ≡ m → out < length pool →
    IsChain Down g d m size (matrix_at pool into) → IsChain Up g d m size (matrix_at pool out) →
    Adds pool middle n 24 → ArePowers (matrix_at pool into) middle n 24 → Adds middle new next 24 → ArePowers (matrix_at middle out) new next 24 → IsSquareGroup g d m (steps_on g size m) new n
squares_made g d m size pool middle new into out n next back low down up a p b q =
    let an = a.number in
    let at = a.total in
    let bn = b.number in
    let bt = b.total in
    record {
      inside = omega arith;
      down = λ k l. let room : n + k < length middle = omega arith in
          power_down g d m size (2 ^ k) (matrix_at pool into) (matrix_at new (n + k)) back down (subst (IsPower (matrix_at pool into) (2 ^ k)) (sym (b.kept (n + k) room)) (p k l));
      up = λ k l. let here : next + k ≡ n + (24 + k) = omega arith in
          power_up g d m size (2 ^ k) (matrix_at middle out) (matrix_at new (n + (24 + k))) back (subst (IsChain Up g d m size) (sym (a.kept out low)) up)
          (subst (λ z. IsPower (matrix_at middle out) (2 ^ k) (matrix_at new z)) here (q k l));
    }

-- the copy of a matrix, once one matrix more was pushed
pub copied : (way : Way) (g : Grammar) (d : Assignment) (m size : ℕ) (a : Matrix) (old middle new : List Matrix) (into out : ℕ) → Adds old middle into 1 → Adds middle new out 1 → matrix_at middle into ≡ a → IsChain way g d m size a → IsChain way g d m size (matrix_at new into)
copied way g d m size a old middle new into out p q same h =
    let n = p.number in
    let t = p.total in
    subst (IsChain way g d m size) (sym (q.kept into (omega arith) ∙ same)) h

-- a pool that has more keeps them
square_kept : (g : Grammar) (d : Assignment) (m : ℕ) (round : List Step) (old new : List Matrix) (n first count : ℕ) → Adds old new first count → IsSquareGroup g d m round old n → IsSquareGroup g d m round new n
square_kept g d m round old new n first count a s =
    let t = a.total in
    let i = s.inside in
    record {
      inside = omega arith;
      down = λ k l. let room : n + k < length old = omega arith in subst (IsMatrixOf (inputs_of g m) (inputs_of g m) (Power (IntoAll g d round) (2 ^ k))) (sym (a.kept (n + k) room)) (s.down k l);
      up = λ k l. let room : n + (24 + k) < length old = omega arith in subst (IsMatrixOf (outputs_of g m) (outputs_of g m) (Power (OutAll g d round) (2 ^ k))) (sym (a.kept (n + (24 + k)) room)) (s.up k l);
    }

-- what a module has it keeps, and the module at which a number is told has its own
pub rounds_kept : (g : Grammar) (d : Assignment) (m at n : ℕ) (old new : List Matrix) (first : List (Option ℕ)) (number count : ℕ) → Adds old new number count → at < length first →
    ((round : List Step) → IsOnce g at round → IsSquareGroup g d at round new n) → HasRounds g d m old first → HasRounds g d m new (set first at (Some n))
rounds_kept g d m at n old new first number count a l own h =
    elim (cases_eq m at) [
      | inl is ↦ subst (λ z. HasRounds g d z new (set first at (Some n))) (sym is) (n, get_or-set_same first at (Some n) None l, own)
      | inr not ↦ (h.0, get_or-set_other first at m (Some n) None not ∙ h.1, λ round o. square_kept g d m round old new h.0 number count a (h.2 round o))
    ]

pub rounds_here : (g : Grammar) (d : Assignment) (at n : ℕ) (pool : List Matrix) (first : List (Option ℕ)) → at < length first →
    ((round : List Step) → IsOnce g at round → IsSquareGroup g d at round pool n) → HasRounds g d at pool (set first at (Some n))
rounds_here g d at n pool first l own = (n, get_or-set_same first at (Some n) None l, own)
