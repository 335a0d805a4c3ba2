-- Edges of a body that are read one by one.
use Rattle.std.proofs.Common.{◌≡◌, ℕ, ◌+◌, ◌<◌, List, [], ◌∷◌, ◌++◌, length, get_or, map, take, ap, ◌∙◌}
use Rattle.std.proofs.lemmas.List.{take_more, map-append}
use Rattle.wf_model.specs.Lists.{IsIn}
use Rattle.wf_model.specs.Meaning.{edge_of}
use Rattle.wf_model.specs.declared.body.Edge.{Edge as EdgeHeld}
use Rattle.wf_model.proofs.Lists.{in_map, at_in, is_at}

pub edge_there : (xs : List EdgeHeld) (k : ℕ) (d : EdgeHeld) → k < length xs → IsIn (edge_of (get_or xs k d)) (map edge_of xs)
edge_there xs k d h = in_map edge_of (get_or xs k d) xs (at_in (get_or xs k d) k xs (is_at k xs d h))

pub edges_more : (xs : List EdgeHeld) (k : ℕ) (d : EdgeHeld) → k < length xs → map edge_of (take (k + 1) xs) ≡ map edge_of (take k xs) ++ edge_of (get_or xs k d) ∷ []
edges_more xs k d h = ap (map edge_of) (take_more xs k d h) ∙ map-append edge_of (take k xs) (get_or xs k d ∷ [])
