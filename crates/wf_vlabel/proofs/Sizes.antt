-- How many rows and columns the matrices have that a label lends.
use Rattle.std.proofs.Common.{◌≡◌, ℕ, ◌+◌, ◌<◌, List, Option, length, sym, ap, ◌∙◌, subst}
use Rattle.bool_mat.specs.Matrix.{Matrix}
use Rattle.wf_model.specs.Grammar.{inputs_of, outputs_of, body_of}
use Rattle.wf_model.specs.Reach.{Step}
use Rattle.wf_body.specs.Matrices.{IsMatrixOf}
use Rattle.wf_vlabel.specs.declared.rounds.stills.Stills.{Stills}
use Rattle.wf_vlabel.specs.Groups.{matrix_of}
use Rattle.wf_vlabel.specs.Tables.{begins}
use Rattle.wf_vlabel.specs.Seen.{ViewLabelSeen, Sees, Opens, OpensRound, HasSize, HasFullSize, HasSizeInto, HasSizeOutOf, HasSizeBetween, HasSquareSize}
use Rattle.wf_vlabel.specs.Held.{IsKept}

-- a matrix of a relation has the size of the relation, and so has the same matrix, however it is read
sized : (many_rows many_columns : ℕ) (R : ℕ → ℕ → Type 0) (m x : Matrix) → IsMatrixOf many_rows many_columns R m → x ≡ m → HasSize x many_rows many_columns
sized many_rows many_columns R m x h is = subst (λ z. HasSize z many_rows many_columns) (sym is) (record { rows = h.has_rows; columns = h.has_columns })

module _ (held l : ViewLabelSeen) (stills : List Stills) (cuts : List (Option ℕ)) (h : IsKept held stills cuts) (same : held ≡ l) where
  kept : IsKept l stills cuts
  kept = subst (λ k. IsKept k stills cuts) same h

  -- the matrix of the pairs of a module
  pub full_size : (m : ℕ) (x : Matrix) → Sees l m → x ≡ matrix_of held.full m 0 → HasFullSize l.grammar m x
  full_size m x sees is = sized _ _ _ _ x (kept.full_groups.full sees.0 m sees.1.expanded sees.2) (is ∙ ap (λ (k : ViewLabelSeen). matrix_of k.full m 0) same)

  module _ (s : Step) (n : ℕ) (x : Matrix) (opens : Opens l s) (is : x ≡ matrix_of held.bodies s.production n) where
    read : (at : ℕ) → n ≡ at → x ≡ matrix_of l.bodies s.production at
    read at e = is ∙ (ap (λ (k : ViewLabelSeen). matrix_of k.bodies s.production n) same ∙ ap (matrix_of l.bodies s.production) e)

    -- the matrices of a step
    pub into_size : n ≡ begins l.grammar s → HasSizeInto l.grammar s x
    into_size e = sized _ _ _ _ x (kept.body_groups.into opens.0 s opens.1.expanded opens.2) (read (begins l.grammar s) e)

    pub out_of_size : n ≡ begins l.grammar s + 1 → HasSizeOutOf l.grammar s x
    out_of_size e = sized _ _ _ _ x (kept.body_groups.out_of opens.0 s opens.1.expanded opens.2) (read (begins l.grammar s + 1) e)

    pub between_size : (to : ℕ) → to < length (body_of l.grammar s.production) → n ≡ begins l.grammar s + (2 + to) → HasSizeBetween l.grammar s to x
    between_size to i e = sized _ _ _ _ x (kept.body_groups.between opens.0 s to opens.1.expanded opens.2 i) (read (begins l.grammar s + (2 + to)) e)

  module _ (m k : ℕ) (x : Matrix) (opens : OpensRound l m) (low : k < 24) where
    -- the matrices of many rounds
    pub down_size : x ≡ matrix_of held.squares m k → HasSquareSize x (inputs_of l.grammar m)
    down_size is = sized _ _ _ _ x (kept.square_groups.down opens.0 m opens.2.0 opens.1.expanded opens.2.1 k low) (is ∙ ap (λ (z : ViewLabelSeen). matrix_of z.squares m k) same)

    pub up_size : x ≡ matrix_of held.squares m (24 + k) → HasSquareSize x (outputs_of l.grammar m)
    up_size is = sized _ _ _ _ x (kept.square_groups.up opens.0 m opens.2.0 opens.1.expanded opens.2.1 k low) (is ∙ ap (λ (z : ViewLabelSeen). matrix_of z.squares m (24 + k)) same)
