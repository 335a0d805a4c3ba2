-- A version keeps its cycles, or one of its modules is the first that gets on a cycle.
use Rattle.std.proofs.Common.{◌⊎◌, ℕ, inl, inr, ⊎_elim}
use Rattle.wf_model.specs.Grammar.{Grammar}
use Rattle.wf_model.specs.Composite.{is_composite}
use Rattle.wf_model.specs.WellFormed.{IsWellFormed}
use Rattle.wf_model.specs.Versions.{version_of, IsVersion, GetsOnCycle, KeepsCycles}
use Rattle.wf_model.proofs.Composites.{composite_gives, composite_is, composite_below}
use Rattle.wf_model.proofs.Deciding.{Either, either_same, either_not, either_both, test_either, first_below}
use Rattle.version_model.proofs.VersionFormed.{version_formed_law}
use Rattle.wf_spec.specs.declared.version.Version.{Version}
use Rattle.wf_recur.proofs.SomeCycles.{cycle_either}
use Rattle.wf_version.specs.declared.fault.VersionFault.{VersionFault}
use Rattle.wf_version.specs.declared.fault.VersionFault.TheVariants.{CycleChanged}
use Rattle.wf_version.specs.Keeping.{IsFaultOf}

module _ (g : Grammar) (m p : ℕ) (formed : IsWellFormed g) (is : IsVersion g m p) where
  older_formed : IsWellFormed (version_of g m p)
  older_formed = (version_formed_law g m p is).0 formed

  -- a module gets on a cycle, or not
  gets_either : (k : ℕ) → Either (GetsOnCycle g m p k)
  gets_either k =
      let composite = either_same (composite_gives (version_of g m p) k) (composite_is (version_of g m p) k) (test_either (is_composite (version_of g m p) k)) in
      either_same (λ t. (t.0, t.1.0, t.1.1)) (λ t. (t.0, (t.1, t.2)))
      (either_both composite (either_both (either_not (cycle_either (version_of g m p) older_formed k)) (cycle_either g formed k)))

-- so it is with each version of a well-formed grammar
pub keeps_or_changes : (g : Grammar) (v : Version) → IsWellFormed g → IsVersion g v.modules v.productions → KeepsCycles g v.modules v.productions ⊎ ((f : VersionFault) × IsFaultOf g v f)
keeps_or_changes g v formed is = ⊎_elim
    (λ r. inr (CycleChanged (record { 0 = r.0 }), record { gets_on = r.2.so; least = r.2.before }))
    (λ none. inl (λ k h. none k (composite_below (version_of g v.modules v.productions) (older_formed g v.modules v.productions formed is) k h.0) h))
    (first_below (GetsOnCycle g v.modules v.productions) _ (λ k l. gets_either g v.modules v.productions formed is k))
