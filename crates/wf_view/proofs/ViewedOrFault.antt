-- Parts are those of a view, or have a fault.
use Rattle.std.proofs.Common.{◌≡◌, ◌⊎◌, ℕ, Bool, true, false, List, refl, inl, inr, true≢false}
use Rattle.wf_model.specs.declared.parts.ViewParts.{ViewParts}
use Rattle.wf_model.specs.declared.parts.DepsPart.{DepsPart}
use Rattle.wf_model.specs.declared.parts.PairPart.{PairPart}
use Rattle.wf_model.specs.Lists.{IsIn}
use Rattle.wf_model.specs.Grammar.{Grammar}
use Rattle.wf_model.specs.Composite.{is_composite}
use Rattle.wf_model.proofs.Deciding.{Either, either_both, bytes_either, test_either, in_either, all_in}
use Rattle.wf_spec.specs.Naming.{place_of, names_of, module_in}
use Rattle.wf_spec.specs.Pairs.{HasKnownPairs}
use Rattle.wf_spec.proofs.SomeFault.{AreDecided, each_decided, new_decided, some_fault}
use Rattle.wf_view.specs.declared.fault.ViewFault.{ViewFault}
use Rattle.wf_view.specs.Viewing.{is_expanded}
use Rattle.wf_view.specs.Rules.{listed, number_in, IsModuleName, IsCompositeName, IsOnShown, deps_names, rules_of, IsViewed, IsFaultOf}

not_either : (b : Bool) → Either (b ≡ false)
not_either true = inr (λ e. true≢false e)
not_either false = inl refl

module _ (g : Grammar) (parts : ViewParts) where
  module_named : (name : List ℕ) → Either (IsModuleName g name)
  module_named name = in_either bytes_either name (names_of g.modules)

  pairs_known : (d : DepsPart) → Either (HasKnownPairs g.modules d)
  pairs_known d =
      let m = module_in g.modules (place_of (names_of g.modules) d.«module») in
      all_in (λ (e : PairPart). IsIn e.input m.inputs × IsIn e.output m.outputs) d.pairs (λ e i. either_both (in_either bytes_either e.input m.inputs) (in_either bytes_either e.output m.outputs))

  rules_decided : AreDecided (rules_of g parts)
  rules_decided =
      let names = listed parts.expand in (
        λ k h. each_decided (IsModuleName g) names (λ n i. module_named n) k,
        (
          λ k h. each_decided (λ (d : DepsPart). IsModuleName g d.«module») parts.deps (λ d i. module_named d.«module») k,
          (
            λ k h. each_decided (IsCompositeName g) names (λ n i. test_either (is_composite g (number_in g n))) k,
            (
              λ k h. each_decided (IsOnShown g parts) parts.deps (λ d i. not_either (is_expanded g parts (number_in g d.«module»))) k,
              (
                λ k h. each_decided (HasKnownPairs g.modules) parts.deps (λ d i. pairs_known d) k,
                (
                  λ k h. new_decided names k,
                  (λ k h. new_decided (deps_names parts.deps) k, tt),
                ),
              ),
            ),
          ),
        ),
      )

  -- parts are those of a view of the grammar, or have a fault
  pub viewed_or_fault : IsViewed g parts ⊎ ((f : ViewFault) × IsFaultOf g parts f)
  viewed_or_fault = some_fault (rules_of g parts) rules_decided
