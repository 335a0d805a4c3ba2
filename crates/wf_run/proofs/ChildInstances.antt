-- The children of an instance are instances.
use Rattle.std.proofs.Common.{◌≡◌, ℕ, ◌<◌, ◌≤◌, Bool, true, false, cond, List, [], ◌∷◌, ◌++◌, length, Some, ap, sym, subst, ⊎_elim, arith}
use Rattle.std.specs.Prelude.{bytes_eq}
use Rattle.std.proofs.lemmas.Bool.{cases_lt}
use Rattle.std.proofs.lemmas.List.{get_or_past}
use Rattle.wf_model.specs.Lists.{IsIn}
use Rattle.wf_model.specs.Grammar.{Grammar}
use Rattle.wf_model.specs.declared.event.Event.{Event}
use Rattle.wf_model.specs.declared.event.Event.TheVariants.{Start, Expand}
use Rattle.wf_model.specs.Run.{Expanded, IsName, expanded_by, AllExtend}
use Rattle.wf_model.proofs.Lists.{in_map}
use Rattle.wf_run.specs.Runs.{RunSeen, node_at, name_at, names_at, IsExpandedAs, IsRunOf}
use Rattle.wf_run.proofs.NamedInstances.{names_count}

-- what an instance is expanded with are names
pub expansion_names : (g : Grammar) (m : ℕ) (before events : List Event) (n : List ℕ) (x : Expanded) → AllExtend g m before events → expanded_by events n ≡ Some x → (c : List ℕ) → IsIn c x.names → IsName c
expansion_names g m before [] n x h e c i = absurd (cc)
expansion_names g m before (Start r ∷ events) n x h e c i = expansion_names g m (before ++ Start r ∷ []) events n x h.1 e c i
expansion_names g m before (Expand j p names ∷ events) n x h e c i = go (expansion_names g m (before ++ Expand j p names ∷ []) events n x h.1) (bytes_eq j n) e
  where
    go : (expanded_by events n ≡ Some x → (c : List ℕ) → IsIn c x.names → IsName c) → (t : Bool) → cond t (Some (record { production = p; names = names })) (expanded_by events n) ≡ Some x → IsName c
    go ih false q = ih q c i
    go ih true q = let s : ◌≡◌ {A = Expanded} (record { production = p; names = names }) x = cc in h.0.good c (subst (λ (z : Expanded). IsIn c z.names) (sym s) i)

pub children_there : (r : RunSeen) (events : List Event) → IsRunOf r events → (k : ℕ) (ks : List ℕ) → k < length r.nodes → (node_at r k).children ≡ Some ks → (j : ℕ) → IsIn j ks → j < length r.nodes
children_there r events run k ks h e j i = ⊎_elim (λ l. l) (λ past. absurd (none past)) (cases_lt j (length r.nodes))
  where
    none : length r.nodes ≤ j → ⊥
    none past =
        let x = subst (IsExpandedAs r events (name_at r k)) e (run.each k h).children in
        let good = expansion_names r.grammar.core r.grammar.core.start [] events (name_at r k) (record { production = x.0; names = names_at r ks }) run.accepted.0 x.1 (name_at r j) (in_map (name_at r) j ks i) in
        let c = names_count r events run in
        let empty : name_at r j ≡ [] = get_or_past r.names j [] (omega arith) in
        let l : 0 < length (name_at r j) = good.0 in
        let l0 : length (name_at r j) ≡ 0 = ap length empty in
        absurd (omega arith)
