-- The rows of a fine view at the modules that a coarser view of the same grammar sees.
use Rattle.std.proofs.Common.{◌≡◌, ℕ, List, Option, sym, subst}
use Rattle.wf_model.specs.Grammar.{Grammar}
use Rattle.wf_model.specs.Meaning.{pairs_of}
use Rattle.wf_model.specs.View.{View, IsSeenModule}
use Rattle.wf_spec.specs.Held.{HeldGrammar}
use Rattle.wf_view.specs.Held.{HeldView}
use Rattle.wf_body.specs.Matrices.{HasRows}
use Rattle.wf_safe.specs.Full.{AreFullRows}
use Rattle.compare_model.specs.declared.compared.Compared.{Compared}
use Rattle.compare_model.specs.Coarser.{IsCoarser}
use Rattle.compare_model.specs.Pairs.{ModulePair, IsDenied}
use Rattle.compare_model.specs.Comparison.{IsCompared}
use Rattle.compare_model.proofs.SeenByBoth.{sees_no_more_law}

pub rows_there : (fine coarse : Grammar) (u c : View) (full rows : List (Option (List ℕ))) → AreFullRows fine u full → coarse ≡ fine → rows ≡ full → IsCoarser c u → (k : ℕ) → IsSeenModule coarse c k → HasRows coarse rows k
rows_there fine coarse u c full rows are same e coarser k seen =
    subst (λ g. HasRows g rows k) (sym same) (subst (λ r. HasRows fine r k) (sym e) (are.each k ((sees_no_more_law fine c u coarser).modules k (subst (λ g. IsSeenModule g c k) same seen))))

-- what is told of a view is told of the same one
pub compared_there : (g h : HeldGrammar) (u v : HeldView) (rows full : List (Option (List ℕ))) (told : Compared) → g ≡ h → u ≡ v → rows ≡ full → IsCompared g.core u.core (pairs_of rows) told → IsCompared h.core v.core (pairs_of full) told
compared_there g h u v rows full told same_grammar same_view same_rows is =
    subst (λ (k : HeldGrammar). IsCompared k.core v.core (pairs_of full) told) same_grammar
    (subst (λ (w : HeldView). IsCompared g.core w.core (pairs_of full) told) same_view (subst (λ r. IsCompared g.core u.core (pairs_of r) told) same_rows is))

-- so is a pair that it denies
pub denied_there : (g h : HeldGrammar) (u v : HeldView) (rows full : List (Option (List ℕ))) → g ≡ h → u ≡ v → rows ≡ full → (x : ModulePair) × IsDenied g.core u.core (pairs_of rows) x → (x : ModulePair) × IsDenied h.core v.core (pairs_of full) x
denied_there g h u v rows full same_grammar same_view same_rows denied = (
  denied.0,
  subst (λ (k : HeldGrammar). IsDenied k.core v.core (pairs_of full) denied.0) same_grammar
      (subst (λ (w : HeldView). IsDenied g.core w.core (pairs_of full) denied.0) same_view (subst (λ r. IsDenied g.core u.core (pairs_of r) denied.0) same_rows denied.1)),
)

-- and what holds of two views
pub both_there : (P : View → View → Type 0) (u v w x : HeldView) → u ≡ v → w ≡ x → P u.core w.core → P v.core x.core
both_there P u v w x e f p = subst (λ (y : HeldView). P y.core x.core) e (subst (λ (y : HeldView). P u.core y.core) f p)
