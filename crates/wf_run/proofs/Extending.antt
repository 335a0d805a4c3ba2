-- A run and an event that expands one of its instances and has no fault.
use Rattle.std.proofs.Common.{◌≡◌, ℕ, ◌^◌, ◌<◌, ◌≤◌, ◌∙◌, List, [], ◌∷◌, ◌++◌, length, Option, None, Some, refl, sym, ap, subst}
use Rattle.std.specs.Prelude.{IfSome, position, bytes_eq}
use Rattle.wf_model.specs.WellFormed.{IsWellFormed}
use Rattle.wf_model.specs.declared.event.Event.{Event}
use Rattle.wf_model.specs.declared.event.Event.TheVariants.{Expand}
use Rattle.wf_model.specs.Faults.{fault_of}
use Rattle.wf_run.specs.Runs.{RunSeen, node_at, name_at, IsRunOf}
use Rattle.wf_run.specs.Opening.{opened_run}
use Rattle.wf_run.proofs.NextEvents.{accepted_next, expanded_next}
use Rattle.wf_run.proofs.OpenedRun.{opened_is_run}
use Rattle.wf_run.proofs.Limits.{chain_small}

-- a run after an event that expands one of its instances, by its number
pub opened : (r : RunSeen) (events : List Event) (k p : ℕ) (names : List (List ℕ)) → IsWellFormed r.grammar.core → IsRunOf r events → k < length r.nodes → fault_of r.grammar.core r.most events (Expand (name_at r k) p names) ≡ None →
    IsRunOf (opened_run r k p names) (events ++ Expand (name_at r k) p names ∷ [])
opened r events k p names wf run there extends = opened_is_run r events k p (name_at r k) names wf run there refl (accepted_next r events run (Expand (name_at r k) p names) extends)

-- the chain number of an instance can be raised
pub can_rise : (r : RunSeen) (events : List Event) (k : ℕ) → IsWellFormed r.grammar.core → IsRunOf r events → r.most ≤ 2 ^ 24 → k < length r.nodes → IfSome (node_at r k).chain (λ c. c < 2 ^ 24)
can_rise r events k wf run few there = go (node_at r k).chain refl
  where
    go : (o : Option ℕ) → (node_at r k).chain ≡ o → IfSome o (λ c. c < 2 ^ 24)
    go None e = tt
    go (Some c) e = chain_small r events wf run few k there c e

-- a run that took the event by its numbers is the run after it
pub next_run : (r new : RunSeen) (events : List Event) (name : List ℕ) (k p q : ℕ) (names given : List (List ℕ)) → IsWellFormed r.grammar.core → IsRunOf r events → position (bytes_eq name) r.names ≡ Some k → fault_of r.grammar.core r.most events (Expand name p names) ≡ None →
    q ≡ p → given ≡ names → new ≡ opened_run r k q given → IsRunOf new (events ++ Expand name p names ∷ [])
next_run r new events name k p q names given wf run place extends same_number same_names is =
    subst (λ a. IsRunOf a (events ++ Expand name p names ∷ [])) (sym (is ∙ (ap (λ i. opened_run r k i given) same_number ∙ ap (opened_run r k p) same_names)))
    (expanded_next r events run wf name k p names place extends)
