-- All versions of a grammar keep their cycles, or one is the first that does not.
use Rattle.std.proofs.Common.{◌⊎◌, ℕ, zero, suc, ◌<◌, List, [], ◌∷◌, refl, sym, subst, inl, inr, ⊎_elim, arith}
use Rattle.wf_model.specs.Lists.{IsIn, IsAt}
use Rattle.wf_model.specs.Grammar.{Grammar}
use Rattle.wf_spec.specs.declared.version.Version.{Version}
use Rattle.wf_spec.specs.Held.{HeldGrammar}
use Rattle.wf_version.specs.declared.fault.VersionFault.{VersionFault}
use Rattle.wf_version.specs.Keeping.{IsFaultOf as ChangesCycle}
use Rattle.wf_accept.specs.Accepted.{KeepsItsCycles, AllKeepCycles}
use Rattle.wf_accept.specs.Faults.{IsFirstChanged}

module _ (g : Grammar) where
  abbrev with_versions : List Version → HeldGrammar
  with_versions vs = record { core = g; versions = vs }

  -- the first of the others is the first of all, where one that keeps its cycles stands before them
  one_later : (v : Version) (vs : List Version) (n : ℕ) (f : VersionFault) → KeepsItsCycles g v → IsFirstChanged (with_versions vs) n f → IsFirstChanged (with_versions (v ∷ vs)) (suc n) f
  one_later v vs n f keeps first = record {
    version = first.version;
    is_at = first.is_at;
    before = by;
    changes = first.changes;
  }
    where
      by : (k : ℕ) → k < suc n → (w : Version) → IsAt w k (v ∷ vs) → KeepsItsCycles g w
      by zero l w at = subst (KeepsItsCycles g) (sym at) keeps
      by (suc k) l w at = first.before k (omega arith) w at

  pub all_or_first : (vs : List Version) → ((v : Version) → IsIn v vs → KeepsItsCycles g v ⊎ ((f : VersionFault) × ChangesCycle g v f)) →
      AllKeepCycles (with_versions vs) ⊎ ((n : ℕ) × (f : VersionFault) × IsFirstChanged (with_versions vs) n f)
  all_or_first [] each = inl (λ v i. absurd i)
  all_or_first (v ∷ vs) each = ⊎_elim
      (λ keeps. ⊎_elim
      (λ all. inl (λ w i. ⊎_elim (λ e. subst (KeepsItsCycles g) (sym e) keeps) (λ j. all w j) i))
      (λ f. inr (suc f.0, f.1, one_later v vs f.0 f.1 keeps f.2))
      (all_or_first vs (λ w i. each w (inr i))))
      (λ c. inr (0, c.0, record { version = v; is_at = refl; before = λ k l. absurd (omega arith); changes = c.1 }))
      (each v (inl refl))
