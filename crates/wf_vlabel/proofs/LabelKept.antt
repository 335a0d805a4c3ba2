-- Tables that were made for a view are those of its label.
use Rattle.std.proofs.Common.{◌≡◌, ◌≢◌, ℕ, ◌<◌, Bool, IsTrue, List, length, get_or, Option, None, sym, subst, inl, inr}
use Rattle.std.proofs.lemmas.Bool.{cases_lt}
use Rattle.std.proofs.lemmas.List.{get_or_past}
use Rattle.bool_mat.specs.Matrix.{Matrix, IsMatrix, Joined, joins, has, Means}
use Rattle.bool_mat.proofs.Rows.{has_none, has_below, row_within}
use Rattle.wf_model.specs.Grammar.{Assignment}
use Rattle.wf_model.specs.WellFormed.{IsWellFormed}
use Rattle.wf_model.specs.Proper.{IsProper}
use Rattle.wf_model.specs.Linear.{IsLinear}
use Rattle.wf_model.specs.View.{View, expands, IsViewOf}
use Rattle.wf_model.specs.Safe.{IsInduced}
use Rattle.label_model.specs.Continuing.{continuing}
use Rattle.wf_body.specs.Matrices.{IsMatrixOf}
use Rattle.wf_recur.specs.Cycles.{AreCyclesOf}
use Rattle.decode_model.specs.Matrices.{AreMatrices}
use Rattle.wf_vlabel.specs.Groups.{matrix_of}
use Rattle.wf_vlabel.specs.declared.rounds.stills.Stills.{Stills}
use Rattle.wf_vlabel.specs.Cuts.{IsCut}
use Rattle.wf_vlabel.specs.Stills.{AreStills}
use Rattle.wf_vlabel.specs.Tables.{AreFullGroups, AreBodyGroups, AreSquareGroups}
use Rattle.wf_vlabel.specs.Seen.{ViewLabelSeen, IsLabelOfView, is_expanded, matrices_of, full_in}
use Rattle.wf_vlabel.specs.Held.{IsKept}

-- what a matrix joins is within its rows and columns
joined_within : (m : Matrix) (i j : ℕ) → IsMatrix m → Joined m i j → (i < length m.rows) × (j < m.columns)
joined_within m i j h t = (
  elim (cases_lt i (length m.rows)) [
    | inl x ↦ x
    | inr x ↦ absurd (has_none j (subst (λ r. IsTrue (has r j)) (get_or_past m.rows i 0 x) t))
  ],
  has_below (get_or m.rows i 0) j m.columns (row_within m.rows m.columns i h.within) t,
)

-- a matrix of a relation means it within so many rows and columns
means_within : (rows columns : ℕ) (R : ℕ → ℕ → Type 0) (m : Matrix) → IsMatrixOf rows columns R m → Means m (λ i j. (i < rows) × (j < columns) × R i j)
means_within rows columns R m h i j = (
  (λ t. let w = joined_within m i j h.is_matrix t in
      (subst (λ n. i < n) h.has_rows w.0, subst (λ n. j < n) h.has_columns w.1, (h.pairs i j).0 t)),
  λ r. (h.pairs i j).1 r.2,
)

-- the parts of a label, as they are made for a view and its full assignment
pub record AreMade (l : ViewLabelSeen) (stills : List Stills) (cuts : List (Option ℕ)) (u : View) (d : Assignment) : Type 0 where
  pub formed : IsWellFormed l.grammar
  pub proper : IsProper l.grammar
  pub linear : IsLinear l.grammar
  pub cycles_are : AreCyclesOf l.grammar l.cycles
  pub is_view : IsViewOf l.grammar u
  pub induced : IsInduced l.grammar u d
  pub expanded : (m : ℕ) → expands u m ≡ is_expanded l m
  pub pairs : (m i o : ℕ) → joins (matrix_of l.full m 0) i o ≡ d m i o
  pub full_groups : AreFullGroups l.grammar (expands u) d l.full
  pub body_groups : AreBodyGroups l.grammar (expands u) d l.bodies
  pub square_groups : AreSquareGroups l.grammar (expands u) d l.squares
  pub stills_are : AreStills l.squares stills
  pub cut_each : length cuts ≡ length l.grammar.modules
  pub cuts_are : (m : ℕ) → m < length l.grammar.modules → continuing l.grammar m ≢ None → IsCut l.grammar (expands u) m (get_or cuts m None)

module _ (l : ViewLabelSeen) (stills : List Stills) (cuts : List (Option ℕ)) (u : View) (d : Assignment) (made : AreMade l stills cuts u d) where
  -- the flags are the test of the view
  same_flags : expands u ≡ is_expanded l
  same_flags = λ k m. made.expanded m k

  -- the matrices have the pairs that are assigned
  same_pairs : d ≡ full_in (matrices_of l)
  same_pairs = sym (λ k m i o. made.pairs m i o k)

  -- what holds of the view and the assignment holds of the flags and the matrices
  of_label : (P : (ℕ → Bool) → Assignment → Type 0) → P (expands u) d → P (is_expanded l) (full_in (matrices_of l))
  of_label P h = subst (P (is_expanded l)) same_pairs (subst (λ e. P e d) same_flags h)

  matrices_mean : AreFullGroups l.grammar (is_expanded l) (full_in (matrices_of l)) l.full → AreBodyGroups l.grammar (is_expanded l) (full_in (matrices_of l)) l.bodies →
      AreSquareGroups l.grammar (is_expanded l) (full_in (matrices_of l)) l.squares → AreMatrices l.grammar u (full_in (matrices_of l)) (matrices_of l)
  matrices_mean full bodies squares =
      record {
        into = λ s h. (bodies.into u s made.expanded h).pairs;
        out_of = λ s h. (bodies.out_of u s made.expanded h).pairs;
        between = λ s to h i. means_within _ _ _ _ (bodies.between u s to made.expanded h i);
        full = λ m h. (full.full u m made.expanded h).pairs;
        square_in = λ m round h k i. (squares.down u m round made.expanded h k i).pairs;
        square_out = λ m round h k i. (squares.up u m round made.expanded h k i).pairs;
      }

  full_kept : AreFullGroups l.grammar (is_expanded l) (full_in (matrices_of l)) l.full
  full_kept = of_label (λ e f. AreFullGroups l.grammar e f l.full) made.full_groups

  bodies_kept : AreBodyGroups l.grammar (is_expanded l) (full_in (matrices_of l)) l.bodies
  bodies_kept = of_label (λ e f. AreBodyGroups l.grammar e f l.bodies) made.body_groups

  squares_kept : AreSquareGroups l.grammar (is_expanded l) (full_in (matrices_of l)) l.squares
  squares_kept = of_label (λ e f. AreSquareGroups l.grammar e f l.squares) made.square_groups

  -- they make the label of the view
  pub label_of_view : IsLabelOfView l u
  label_of_view =
      record {
        expanded = made.expanded;
        is_view = made.is_view;
        induced = of_label (λ e f. IsInduced l.grammar u f) made.induced;
        matrices = matrices_mean full_kept bodies_kept squares_kept;
      }

  -- and it has all that a label keeps
  pub label_kept : IsKept l stills cuts
  label_kept =
      record {
        label = record {
          formed = made.formed;
          proper = made.proper;
          linear = made.linear;
          cycles_are = made.cycles_are;
          of_view = (u, label_of_view);
        };
        full_groups = full_kept;
        body_groups = bodies_kept;
        square_groups = squares_kept;
        stills_are = made.stills_are;
        cut_each = made.cut_each;
        cuts_are = λ m h c. of_label (λ e f. IsCut l.grammar e m (get_or cuts m None)) (made.cuts_are m h c);
      }
