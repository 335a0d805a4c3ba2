-- What is reached in a graph in which each module leads to those of its bodies.
use Rattle.std.proofs.Common.{◌≡◌, ◌↔◌, ℕ, ◌+◌, ◌<◌, ◌∙◌, ◌∷◌, ◌++◌, [], Bool, true, false, List, length, get_or, Vec}
use Rattle.std.specs.declared.alloc.Global.{Global}
use Rattle.wf_model.specs.Grammar.{Grammar}
use Rattle.wf_model.specs.Proper.{Makes}
use Rattle.wf_model.proofs.Positions.{each_more}
use Rattle.wf_recur.specs.Reaching.{IsRow}
use Rattle.wf_graph.specs.Graph.{HasEdge, IsReached}
use Rattle.wf_graph.proofs.Deriving.{derived_reached}

-- a row more
pub row_more : (g : Grammar) (graph : List (Vec ℕ Global)) (rows : List (List Bool)) (m : ℕ) (row : List Bool) → length graph ≡ length g.modules → ((a b : ℕ) → HasEdge graph a b ↔ Makes g a b) → length row ≡ length graph → ((v : ℕ) → (get_or row v false ≡ true) ↔ IsReached graph m v) → length rows ≡ m → ((k : ℕ) → k < m → IsRow g k (get_or rows k [])) → (k : ℕ) → k < m + 1 → IsRow g k (get_or (rows ++ row ∷ []) k [])
row_more g graph rows m row count edges across told len before =
    each_more (IsRow g) rows m row [] len before (record { across = across ∙ count; told = derived_reached g graph row m edges told })
