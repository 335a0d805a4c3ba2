-- A view is coarser than another, or it expands some first module alone.
use Rattle.std.proofs.Common.{◌≡◌, ℕ, ◌<◌, ◌≤◌, ◌⊎◌, Bool, true, false, IsTrue, length, refl, sym, ◌∙◌, subst, inl, inr, ⊎_elim, arith, true≢false}
use Rattle.std.proofs.lemmas.Bool.{cases_Bool, cases_lt}
use Rattle.wf_model.specs.Grammar.{Grammar}
use Rattle.wf_model.specs.WellFormed.{IsWellFormed}
use Rattle.wf_model.specs.View.{View, expands}
use Rattle.wf_model.specs.Finishing.{ExpandsComposites}
use Rattle.wf_model.proofs.Deciding.{Either, either_both, first_below}
use Rattle.compare_model.specs.Coarser.{IsCoarser, IsExpandedAlone, IsFirstExpandedAlone}
use Rattle.compare_model.specs.OutcomeLaws.{CoarserLaw}

-- two truth values are the same, or not
pub truth_either : (a b : Bool) → Either (a ≡ b)
truth_either true true = inl refl
truth_either true false = inr (λ e. true≢false e)
truth_either false true = inr (λ e. true≢false (sym e))
truth_either false false = inl refl

module _ (g : Grammar) (c u : View) (wf : IsWellFormed g) (composites : ExpandsComposites g c) where
  alone_either : (m : ℕ) → Either (IsExpandedAlone c u m)
  alone_either m = either_both (truth_either (expands c m) true) (truth_either (expands u m) false)

  -- a module that the view expands is a module
  in_range : (m : ℕ) → IsTrue (expands c m) → m < length g.modules
  in_range m h = let p = composites m h in subst (λ z. z < length g.modules) p.1.1 (wf.heads p.0 p.1.0)

  either : IsCoarser c u ⊎ ((m : ℕ) × IsFirstExpandedAlone c u m)
  either = ⊎_elim
      (λ r. inr (r.0, (r.2.so, λ k h. ⊎_elim (λ l. absurd (r.2.before k l h)) (λ n. omega arith) (cases_lt k r.0))))
      (λ none. inl (λ m h. ⊎_elim (λ t. t) (λ f. absurd (none m (in_range m h) (h, f))) (cases_Bool (expands u m))))
      (first_below (IsExpandedAlone c u) (length g.modules) (λ m l. alone_either m))

pub coarser_law : CoarserLaw
coarser_law g c u wf composites = record {
  either = either g c u wf composites;
  not_both = λ m f coarser. true≢false (sym (coarser m f.0.0) ∙ f.0.1);
  one = λ m k p q. let a : m ≤ k = p.1 k q.0 in let b : k ≤ m = q.1 m p.0 in omega arith;
}
