-- Continuing steps one after another, and their matrices.
use Rattle.std.proofs.Common.{◌≡◌, ℕ, zero, suc, ◌+◌, ◌*◌, ◌<◌, List, [], ◌∷◌, ◌++◌, length, Some, refl, sym, ap, ◌∙◌, subst, arith, append_assoc}
use Rattle.bool_mat.specs.Matrix.{Matrix, Joined}
use Rattle.bool_mat.proofs.Relations.{Same, same_sym, same_trans, then_id_left, then_id_right}
use Rattle.wf_model.specs.Grammar.{Grammar, Assignment, inputs_of, outputs_of, head_of, body_of}
use Rattle.wf_model.specs.WellFormed.{IsWellFormed}
use Rattle.wf_model.specs.Linear.{IsLinear}
use Rattle.wf_model.specs.Reach.{Step, target_of, Into, OutOf}
use Rattle.wf_laws.specs.Splits.{IntoAll, OutAll}
use Rattle.label_model.specs.Continuing.{continuing, next_by, after}
use Rattle.label_model.proofs.ContinuingSteps.{continuing_is, continuing_law}
use Rattle.label_model.proofs.Periods.{after-add}
use Rattle.wf_body.specs.Matrices.{IsMatrixOf}
use Rattle.decode_model.specs.Rounds.{AreContinuing}
use Rattle.decode_model.proofs.Crossing.{into_append, out_append, out_first}
use Rattle.decode_model.proofs.Meanings.{means_product}
use Rattle.wf_vlabel.specs.declared.rounds.way.Way.{Way}
use Rattle.wf_vlabel.specs.declared.rounds.way.Way.TheVariants.{Down, Up}
use Rattle.wf_vlabel.specs.RoundSteps.{steps_by, steps_on}
use Rattle.wf_vlabel.specs.Groups.{GroupsSeen, matrix_of}
use Rattle.wf_vlabel.specs.Tables.{of_body, begins}
use Rattle.wf_vlabel.specs.ChainMatrices.{IsChain, FitAlong, IsProductAlong, HasStep, place_along}

-- first so many continuing steps, and then so many more
pub steps_on-add : (g : Grammar) (a b m : ℕ) → steps_on g (a + b) m ≡ steps_on g a m ++ steps_on g b (after g a m)
steps_on-add g zero b m = let e : zero + b ≡ b = omega arith in ap (λ z. steps_on g z m) e
steps_on-add g (suc a) b m =
    let e : suc a + b ≡ suc (a + b) = omega arith in
    let next = next_by g m (continuing g m) in
    ap (λ z. steps_on g z m) e ∙ (ap (λ z. steps_by (continuing g m) ++ z) (steps_on-add g a b next) ∙ sym (append_assoc (steps_by (continuing g m)) (steps_on g a next) (steps_on g b (after g a next))))

steps_one : (g : Grammar) (m : ℕ) (s : Step) → continuing g m ≡ Some s → steps_on g 1 m ≡ s ∷ []
steps_one g m s e = ap (λ o. steps_by o ++ []) e

-- a list of continuing steps is told by its length
pub steps_told : (g : Grammar) → IsWellFormed g → IsLinear g → (m : ℕ) (a : List Step) → AreContinuing g m a → a ≡ steps_on g (length a) m
steps_told g wf lin m [] x = refl
steps_told g wf lin m (s ∷ a) x =
    let e : continuing g m ≡ Some s = (continuing_law g wf lin m s).1 x.0 in
    ap (λ z. s ∷ z) (steps_told g wf lin (target_of g s) a x.1) ∙ ap (λ o. steps_by o ++ steps_on g (length a) (next_by g m o)) (sym e)

into_one : (g : Grammar) (d : Assignment) (s : Step) → Same (Into g d s) (IntoAll g d (s ∷ []))
into_one g d s = same_sym (then_id_right (Into g d s))

out_one : (g : Grammar) (d : Assignment) (s : Step) → Same (OutOf g d s) (OutAll g d (s ∷ []))
out_one g d s = same_sym (same_trans (out_first g d s []) (then_id_left (OutOf g d s)))

-- the matrix of a step is that of one step
pub chain_down : (g : Grammar) (d : Assignment) (m : ℕ) (s : Step) (a : Matrix) → continuing g m ≡ Some s →
    IsMatrixOf (inputs_of g (head_of g s.production)) (inputs_of g (target_of g s)) (Into g d s) a → IsChain Down g d m 1 a
chain_down g d m s a e h = record {
  is_matrix = h.is_matrix;
  has_rows = h.has_rows ∙ ap (inputs_of g) (continuing_is g m s e).0.head;
  has_columns = h.has_columns ∙ ap (λ o. inputs_of g (next_by g m o)) (sym e);
  pairs = subst (λ z. Same (Joined a) (IntoAll g d z)) (sym (steps_one g m s e)) (same_trans h.pairs (into_one g d s));
}

pub chain_up : (g : Grammar) (d : Assignment) (m : ℕ) (s : Step) (a : Matrix) → continuing g m ≡ Some s →
    IsMatrixOf (outputs_of g (target_of g s)) (outputs_of g (head_of g s.production)) (OutOf g d s) a → IsChain Up g d m 1 a
chain_up g d m s a e h = record {
  is_matrix = h.is_matrix;
  has_rows = h.has_rows ∙ ap (λ o. outputs_of g (next_by g m o)) (sym e);
  has_columns = h.has_columns ∙ ap (outputs_of g) (continuing_is g m s e).0.head;
  pairs = subst (λ z. Same (Joined a) (OutAll g d z)) (sym (steps_one g m s e)) (same_trans h.pairs (out_one g d s));
}

-- the matrices of steps and of those that come after have a product
pub chain_fit : (way : Way) (g : Grammar) (d : Assignment) (m a b : ℕ) (first later : Matrix) → IsChain way g d m a first → IsChain way g d (after g a m) b later → FitAlong way first later
chain_fit Down g d m a b first later x y = x.has_columns ∙ sym y.has_rows
chain_fit Up g d m a b first later x y = y.has_columns ∙ sym x.has_rows

-- it is that of all these steps
pub chain_more : (way : Way) (g : Grammar) (d : Assignment) (m a b : ℕ) (first later p : Matrix) → IsChain way g d m a first → IsChain way g d (after g a m) b later → IsProductAlong way first later p → IsChain way g d m (a + b) p
chain_more Down g d m a b first later p x y h = record {
  is_matrix = h.is_matrix;
  has_rows = h.rows ∙ x.has_rows;
  has_columns = h.columns ∙ y.has_columns ∙ ap (inputs_of g) (sym (after-add g a b m));
  pairs =
      subst (λ z. Same (Joined p) (IntoAll g d z)) (sym (steps_on-add g a b m))
      (same_trans (means_product first later p (IntoAll g d (steps_on g a m)) (IntoAll g d (steps_on g b (after g a m))) x.pairs y.pairs h) (same_sym (into_append g d (steps_on g a m) (steps_on g b (after g a m)))));
}
chain_more Up g d m a b first later p x y h = record {
  is_matrix = h.is_matrix;
  has_rows = h.rows ∙ y.has_rows ∙ ap (outputs_of g) (sym (after-add g a b m));
  has_columns = h.columns ∙ x.has_columns;
  pairs =
      subst (λ z. Same (Joined p) (OutAll g d z)) (sym (steps_on-add g a b m))
      (same_trans (means_product later first p (OutAll g d (steps_on g b (after g a m))) (OutAll g d (steps_on g a m)) y.pairs x.pairs h) (same_sym (out_append g d (steps_on g a m) (steps_on g b (after g a m)))));
}

-- the matrix of a step stands among those of its body
pub step_inside : (way : Way) (g : Grammar) (s : Step) → s.position < length (body_of g s.production) → begins g s + place_along way < of_body g s.production
step_inside way g s h = inside way (s.position) (length (body_of g s.production)) h
  where
    more : (p n k : ℕ) → p < n → k < 2 → p * (n + 2) + k < n * (n + 2)
    more p n k h l = grind arith

    inside : (way : Way) (p n : ℕ) → p < n → p * (n + 2) + place_along way < n * (n + 2)
    inside Down p n h = more p n 0 h (omega arith)
    inside Up p n h = more p n 1 h (omega arith)

-- it is that of one step
pub chain_one : (way : Way) (g : Grammar) (d : Assignment) (t : GroupsSeen) (m at : ℕ) (s : Step) (a : Matrix) → continuing g m ≡ Some s → HasStep g d t s → at ≡ begins g s + place_along way → a ≡ matrix_of t s.production at → IsChain way g d m 1 a
chain_one Down g d t m at s a e h place is =
    let first : begins g s + 0 ≡ begins g s = omega arith in
    subst (IsChain Down g d m 1) (sym (is ∙ ap (matrix_of t s.production) (place ∙ first))) (chain_down g d m s (matrix_of t s.production (begins g s)) e h.into)
chain_one Up g d t m at s a e h place is =
    subst (IsChain Up g d m 1) (sym (is ∙ ap (matrix_of t s.production) place)) (chain_up g d m s (matrix_of t s.production (begins g s + 1)) e h.out_of)
