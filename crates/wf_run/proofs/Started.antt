-- A run after its start.
use Rattle.std.proofs.Common.{◌≡◌, ◌++◌, ℕ, zero, suc, ◌<◌, cond, List, [], ◌∷◌, length, refl, ap, sym, subst, ◌∙◌, arith}
use Rattle.std.proofs.lemmas.List.{length-map, nil_from_length}
use Rattle.wf_model.specs.WellFormed.{IsWellFormed}
use Rattle.wf_model.specs.declared.event.Event.TheVariants.{Start}
use Rattle.wf_model.specs.Run.{IsAccepted}
use Rattle.label_model.specs.RunLabels.{IsPrefix}
use Rattle.wf_model.proofs.Composites.{composite_is, atomic_is}
use Rattle.label_model.proofs.RunPrefixes.{prefix_in_run_law}
use Rattle.wf_run.specs.Runs.{Node, Prefix, RunSeen, IsKeptOf, IsRunOf, GoesOn}
use Rattle.wf_run.specs.Opening.{root_prefix, started_run}
use Rattle.wf_run.proofs.Roots.{begun, bare}

-- before its start a run has no instances
pub none_before_start : (r : RunSeen) → IsRunOf r [] → r.nodes ≡ []
none_before_start r run = nil_from_length r.nodes (sym (length-map r.nodes (λ (n : Node). n.module_no)) ∙ ap length run.modules)

module _ (r : RunSeen) (name : List ℕ) (wf : IsWellFormed r.grammar.core) (run : IsRunOf r []) (acc : IsAccepted r.grammar.core r.most (Start name ∷ [])) where
  root_kept : IsKeptOf (started_run r name) (Start name ∷ []) 0
  root_kept = record {
    children = refl;
    composite = λ c. subst (λ (p : Prefix). IsPrefix r.grammar.core (Start name ∷ []) name p.bits p.chain) (ap (λ t. cond {A = Prefix} t (begun r.grammar.core) bare) (sym (composite_is r.grammar.core r.grammar.core.start c))) ((prefix_in_run_law r.grammar.core wf).root name);
    atomic = λ c. let e : root_prefix r.grammar.core ≡ bare = ap (λ t. cond {A = Prefix} t (begun r.grammar.core) bare) (atomic_is r.grammar.core r.grammar.core.start c) in (ap (λ (p : Prefix). p.bits) e, ap (λ (p : Prefix). p.chain) e);
  }

  root_alone : (k : ℕ) → k < 1 → IsKeptOf (started_run r name) (Start name ∷ []) k
  root_alone zero h = root_kept
  root_alone (suc k) h = absurd (omega arith)

  pub started_is_run : IsRunOf (started_run r name) (Start name ∷ [])
  started_is_run = record { accepted = acc; names = refl; modules = refl; each = root_alone; expands = run.expands }

pub started_goes_on : (r : RunSeen) (name : List ℕ) → IsRunOf r [] → GoesOn r (started_run r name)
started_goes_on r name run =
    let e = none_before_start r run in
    let l = ap length e in
    record {
      grammar = refl;
      most = refl;
      names = (name ∷ [], ap (λ ns. ns ++ name ∷ []) (sym run.names));
      count = omega (arith, l);
      modules = λ k h. absurd (omega (arith, l));
      prefixes = λ k h. absurd (omega (arith, l));
    }
