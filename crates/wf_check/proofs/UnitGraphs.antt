-- The graph of unit productions, made edge by edge.
use Rattle.std.proofs.Common.{◌≡◌, ℕ, ◌<◌, List, [], ◌∷◌, ◌++◌, length, get_or, set, Vec, refl, sym, ap, ◌∙◌, inl, ⊎_elim}
use Rattle.std.specs.declared.alloc.Global.{Global}
use Rattle.std.proofs.lemmas.Bool.{cases_eq}
use Rattle.wf_model.specs.Lists.{IsIn}
use Rattle.wf_graph.specs.Graph.{nexts, HasEdge}
use Rattle.wf_graph.proofs.Searching.{nexts_read}
use Rattle.wf_graph.proofs.Edges.{nexts-set_same, nexts-set_other}
use Rattle.wf_check.specs.declared.unit.rule.UnitRule.{UnitRule}
use Rattle.wf_check.specs.UnitPaths.{targets_of, IsGraphOf}
use Rattle.wf_check.proofs.UnitRoutes.{targets_same, targets_more}

empty_of : (xs : List ℕ) → ((x : ℕ) → IsIn x xs → ⊥) → xs ≡ []
empty_of [] none = refl
empty_of (x ∷ xs) none = absurd (none x (inl refl))

-- no edges are those of no unit productions
pub graph_none : (graph : List (Vec ℕ Global)) → ((a b : ℕ) → HasEdge graph a b → ⊥) → IsGraphOf [] graph
graph_none graph none m = empty_of (nexts graph m) (none m)

-- one unit production and one edge more
pub graph_more : (us : List UnitRule) (u : UnitRule) (graph : List (Vec ℕ Global)) (old new : Vec ℕ Global) → u.head.0 < length graph → old ≡ get_or graph u.head.0 old → new.items ≡ old.items ++ u.target.0 ∷ [] → IsGraphOf us graph → IsGraphOf (us ++ u ∷ []) (set graph u.head.0 new)
graph_more us u graph old new there was now same m = ⊎_elim
    (λ (e : u.head.0 ≡ m). ap (nexts (set graph u.head.0 new)) (sym e)
    ∙ (nexts-set_same graph u.head.0 new there
    ∙ (now
    ∙ (ap (λ l. l ++ u.target.0 ∷ []) (sym (nexts_read graph u.head.0 old there was) ∙ (same u.head.0 ∙ ap (targets_of us) e))
    ∙ sym (targets_more us u m e)))))
    (λ n. nexts-set_other graph u.head.0 m new (λ d. n (sym d)) ∙ (same m ∙ sym (targets_same us u m n)))
    (cases_eq u.head.0 m)
