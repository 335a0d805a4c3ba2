-- The rows of a module and the matrix of a production of it: equal where the two agree, and else different first where they first disagree.
use Rattle.std.proofs.Common.{◌≡◌, ℕ, ◌<◌, ◌≤◌, ◌^◌, Bool, true, false, not, IsTrue, List, length, get_or, Option, Some, None, MatchOption, sym, ap, ◌∙◌, subst, arith, true≢false}
use Rattle.std.specs.List.{All}
use Rattle.wf_model.specs.Grammar.{Grammar, inputs_of, outputs_of, head_of}
use Rattle.wf_model.specs.View.{View, IsSeenModule, in_body}
use Rattle.wf_model.specs.Meaning.{pairs_of}
use Rattle.wf_model.specs.Safe.{BodyJoins}
use Rattle.bool_mat.specs.Matrix.{Matrix, has}
use Rattle.bool_mat.proofs.Rows.{has_below, row_within}
use Rattle.wf_body.specs.Matrices.{HasRows, HaveRows, IsMatrixOf}
use Rattle.wf_body.proofs.Rowing.{pair_is}
use Rattle.wf_safe.specs.declared.safety.difference.Difference.{Difference}
use Rattle.wf_safe.specs.Disagreeing.{AgreesIfExpanded, IsFirstDifference, IsFirstPair}
use Rattle.wf_safe.specs.Inducing.{IsSeenExpanded}
use Rattle.wf_safe.specs.Witness.{AgreesOn, Disagree}

-- the modules of a body have rows where all seen modules have them
pub body_rows : (g : Grammar) (u : View) (p : ℕ) (deps : List (Option (List ℕ))) → ((m : ℕ) → IsSeenModule g u m → HasRows g deps m) → p < length g.productions → IsSeenExpanded g u (head_of g p) → HaveRows g p deps
body_rows g u p deps rows hp o m i = rows m (in_body p hp o.0 o.1 i)

-- the rows that a module has
pub same_rows : (g : Grammar) (deps : List (Option (List ℕ))) (m : ℕ) (rows : List ℕ) → (held : HasRows g deps m) → Some rows ≡ get_or deps m None → rows ≡ held.rows
same_rows g deps m rows held e = let q : Some rows ≡ Some held.rows = e ∙ held.held in cc

disagree_by : (b s t : Bool) (J : Type 0) → s ≡ b → t ≡ not b → (IsTrue t → J) → (J → IsTrue t) → Disagree b (IsTrue s) J
disagree_by true s t J e f there back = (e, λ j. true≢false (sym (back j) ∙ f))
disagree_by false s t J e f there back = ((λ h. true≢false (sym h ∙ e)), there f)

module _ (g : Grammar) (u : View) (p : ℕ) (deps : List (Option (List ℕ))) (one : List ℕ) (other : Matrix) (held : HasRows g deps (head_of g p)) (told : Some one ≡ get_or deps (head_of g p) None) (joined : IsMatrixOf (inputs_of g (head_of g p)) (outputs_of g (head_of g p)) (BodyJoins g (pairs_of deps) p) other) where
  pub as_many : length one ≡ length other.rows
  as_many = ap length (same_rows g deps (head_of g p) one held told) ∙ (held.one_each ∙ sym joined.has_rows)

  pub few : length one ≤ 64
  few = let a = as_many in let b = joined.is_matrix.few_rows in omega arith

  has_pair : (i o : ℕ) → pairs_of deps (head_of g p) i o ≡ has (get_or one i 0) o
  has_pair i o = pair_is deps one (head_of g p) i o (sym told)

  agree_at : (i o : ℕ) → has (get_or one i 0) o ≡ has (get_or other.rows i 0) o → AgreesOn g (pairs_of deps) p i o
  agree_at i o e = let q = has_pair i o ∙ e in let j = joined.pairs i o in ((λ t. j.0 (sym q ∙ t)), λ w. q ∙ j.1 w)

  agrees : one ≡ other.rows → AgreesIfExpanded g u (pairs_of deps) p
  agrees e known i o hi ho = agree_at i o (ap (λ (l : List ℕ). has (get_or l i 0) o) e)

  -- a bit that is set in one of the two is that of an output
  within : (b : Bool) (i o : ℕ) → has (get_or one i 0) o ≡ b → has (get_or other.rows i 0) o ≡ not b → o < outputs_of g (head_of g p)
  within true i o e f = has_below (get_or one i 0) o (outputs_of g (head_of g p)) (row_within one (outputs_of g (head_of g p)) i (subst (All (λ r. r < 2 ^ outputs_of g (head_of g p))) (sym (same_rows g deps (head_of g p) one held told)) held.no_more)) e
  within false i o e f = has_below (get_or other.rows i 0) o (outputs_of g (head_of g p)) (row_within other.rows (outputs_of g (head_of g p)) i (subst (λ n. All (λ r. r < 2 ^ n) other.rows) joined.has_columns joined.is_matrix.within)) f

  disagrees : (x : Difference) → IsSeenExpanded g u (head_of g p) → IsFirstDifference one other.rows x → IsFirstPair g u (pairs_of deps) p x
  disagrees x known d = record {
    head = known;
    input = let l = d.input in let e = ap length (same_rows g deps (head_of g p) one held told) ∙ held.one_each in omega arith;
    output = within x.in_first x.input.0 x.output.0 d.in_one d.in_other;
    disagree = let j = joined.pairs x.input.0 x.output.0 in
        disagree_by x.in_first (pairs_of deps (head_of g p) x.input.0 x.output.0) (has (get_or other.rows x.input.0 0) x.output.0) (BodyJoins g (pairs_of deps) p x.input.0 x.output.0) (has_pair x.input.0 x.output.0 ∙ d.in_one) d.in_other j.0 j.1;
    first = λ i o hi ho c. agree_at i o (d.first i o c);
  }

  pub compared : (o : Option Difference) → IsSeenExpanded g u (head_of g p) → MatchOption o (one ≡ other.rows) (IsFirstDifference one other.rows) → MatchOption o (AgreesIfExpanded g u (pairs_of deps) p) (IsFirstPair g u (pairs_of deps) p)
  compared None known h = agrees h
  compared (Some x) known h = disagrees x known h
