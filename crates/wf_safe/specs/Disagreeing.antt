-- The least production that does not join the pairs of its head, and the first pair on which the two disagree.
use Rattle.std.specs.Prelude.{◌≡◌, ◌<◌, ℕ, not, IsTrue, List, Option, length, get_or}
use Rattle.wf_model.specs.Grammar.{Grammar, Assignment, inputs_of, outputs_of, head_of}
use Rattle.wf_model.specs.View.{View}
use Rattle.wf_model.specs.Meaning.{pairs_of}
use Rattle.wf_model.specs.Safe.{BodyJoins}
use Rattle.bool_mat.specs.Matrix.{has}
use Rattle.wf_check.specs.Proper.{Ranking}
use Rattle.wf_safe.specs.declared.safety.difference.Difference.{Difference}
use Rattle.wf_safe.specs.declared.safety.disagreement.Disagreement.{Disagreement}
use Rattle.wf_safe.specs.Inducing.{AreInduced, IsSeenExpanded}
use Rattle.wf_safe.specs.Witness.{ComesBefore, AgreesOn, Agrees, Disagree}

-- the first pair, by row and then column, that exactly one of two lists of rows has
pub record IsFirstDifference (one other : List ℕ) (x : Difference) : Type 0 where
  pub input : x.input.0 < length one
  pub in_one : has (get_or one x.input.0 0) x.output.0 ≡ x.in_first
  pub in_other : has (get_or other x.input.0 0) x.output.0 ≡ not x.in_first
  pub first : (i o : ℕ) → ComesBefore i o x.input.0 x.output.0 → has (get_or one i 0) o ≡ has (get_or other i 0) o

-- a production agrees with its head on all pairs, if this is seen and expanded
abbrev pub AgreesIfExpanded : Grammar → View → Assignment → ℕ → Type 0
AgreesIfExpanded g u d p = IsSeenExpanded g u (head_of g p) → Agrees g d p

-- the head of a production is seen and expanded, and this is the first pair, by input and then output, on which the two disagree
pub record IsFirstPair (g : Grammar) (u : View) (d : Assignment) (p : ℕ) (x : Difference) : Type 0 where
  pub head : IsSeenExpanded g u (head_of g p)
  pub input : x.input.0 < inputs_of g (head_of g p)
  pub output : x.output.0 < outputs_of g (head_of g p)
  pub disagree : Disagree x.in_first (IsTrue (d (head_of g p) x.input.0 x.output.0)) (BodyJoins g d p x.input.0 x.output.0)
  pub first : (i o : ℕ) → i < inputs_of g (head_of g p) → o < outputs_of g (head_of g p) → ComesBefore i o x.input.0 x.output.0 → AgreesOn g d p i o

-- the least production that disagrees with its seen, expanded head, and the first pair on which it does
pub record IsLeastDisagreement (g : Grammar) (u : View) (d : Assignment) (x : Disagreement) : Type 0 where
  pub production : x.production.0 < length g.productions
  pub pair : IsFirstPair g u d x.production.0 x.pair
  pub least : (p : ℕ) → p < x.production.0 → AgreesIfExpanded g u d p

-- so it is by the rows that chosen productions induce
pub record IsFound (g : Grammar) (u : View) (r : Ranking) (x : Disagreement) : Type 0 where
  pub rows : List (Option (List ℕ))
  pub induced : AreInduced g u r rows
  pub least : IsLeastDisagreement g u (pairs_of rows) x
