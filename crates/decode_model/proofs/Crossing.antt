-- Ways along lists of steps, as relations, and where two addresses part.
use Rattle.std.proofs.Common.{◌≢◌, ℕ, ◌↔◌, List, ◌∷◌, ◌++◌, inr, ⊎_elim}
use Rattle.bool_mat.specs.Matrix.{Then}
use Rattle.bool_mat.proofs.Relations.{Same}
use Rattle.wf_model.specs.Grammar.{Grammar, Assignment}
use Rattle.wf_model.specs.Reach.{Step, target_of, module_along, OutOf, Reaches}
use Rattle.wf_laws.specs.Splits.{IntoAll, OutAll}
use Rattle.wf_laws.proofs.Splits.{down_rows, up_columns, into_both, out_both, past_common}
use Rattle.decode_model.specs.Ways.{Crosses}
use Rattle.decode_model.specs.WayLaws.{CrossesLaw}

pub into_append : (g : Grammar) (d : Assignment) (a b : List Step) → Same (IntoAll g d (a ++ b)) (Then (IntoAll g d a) (IntoAll g d b))
into_append g d a b i j = into_both g d a b i j

pub out_append : (g : Grammar) (d : Assignment) (a b : List Step) → Same (OutAll g d (a ++ b)) (Then (OutAll g d b) (OutAll g d a))
out_append g d a b j o = ((λ h. let q = (out_both g d a b j o).0 h in (q.0, q.2, q.1)), λ h. (out_both g d a b j o).1 (h.0, h.2, h.1))

-- the first step is the last one to be left
pub out_first : (g : Grammar) (d : Assignment) (s : Step) (a : List Step) → Same (OutAll g d (s ∷ a)) (Then (OutAll g d a) (OutOf g d s))
out_first g d s a j o = ((λ h. (h.0, h.2, h.1)), λ h. (h.0, h.2, h.1))

parted : (g : Grammar) (d : Assignment) (m : ℕ) (s t : Step) (a b : List Step) (i o : ℕ) → s.position ≢ t.position → Reaches g d m (s ∷ a) (t ∷ b) i o ↔ Crosses g d s a t b i o
parted g d m s t a b i o n = (
  (λ h. ⊎_elim (λ x. absurd (n x.0)) (λ x. let y = x.1 in (y.0, y.1, y.2, y.3, (up_columns g d a (target_of g s) i y.0).0 y.4, y.5, (down_rows g d b (target_of g t) y.1 o).0 y.6)) h),
  λ y. inr (n, (y.0, y.1, y.2, y.3, (up_columns g d a (target_of g s) i y.0).1 y.4, y.5, (down_rows g d b (target_of g t) y.1 o).1 y.6)),
)

pub crosses_law : CrossesLaw
crosses_law g d m p s t a b i o n =
    let c = past_common g d p (s ∷ a) (t ∷ b) m i o in
    let q = parted g d (module_along g m p) s t a b i o n in
    ((λ h. q.0 (c.0 h)), λ h. c.1 (q.1 h))
