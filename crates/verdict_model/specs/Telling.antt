-- What a label tells: where its item was made, which productions it names on the way, and where its item is consumed and produced.
use Rattle.std.specs.Prelude.{◌≡◌, ◌⊎◌, ℕ, List, [], ◌∷◌, ◌++◌}
use Rattle.wf_model.specs.Lists.{IsAt}
use Rattle.wf_model.specs.Grammar.{Grammar, Edge, production_at}
use Rattle.wf_model.specs.Reach.{Step}
use Rattle.label_model.specs.Labels.{Label, Input, Output, OfEdge}
use Rattle.label_model.specs.Places.{place_of, IsEnding}

-- the label is that of the edge e of the production p, by which the instance at the address a is expanded
pub record Tells (g : Grammar) (l : Label) (a : List Step) (p e : ℕ) : Type 0 where
  pub ending : IsEnding g g.start a p e
  pub is : l ≡ OfEdge (place_of g g.start a p e)

-- the label names the production r at the address c: it passes the instance there by a step of r, or ends in it by r
abbrev pub Names : Grammar → Label → List Step → ℕ → Type 0
Names g l c r =
    (a : List Step) × (p : ℕ) × (e : ℕ) × Tells g l a p e ×
    (((a ≡ c) × (p ≡ r)) ⊎ ((s : Step) × (rest : List Step) × (a ≡ c ++ s ∷ rest) × (s.production ≡ r)))

-- The item of the label is consumed at input i of the instance at the address a: an input of the root at the root, and the item of an edge one step below its maker. An output of the root is consumed nowhere
abbrev pub ConsumedAt : Grammar → Label → List Step → ℕ → Type 0
ConsumedAt g (Input p) a i = (a ≡ []) × (i ≡ p)
ConsumedAt g (Output p) a i = ⊥
ConsumedAt g (OfEdge q) a i =
    (c : List Step) × (p : ℕ) × (e : ℕ) × (x : Edge) × Tells g (OfEdge q) c p e × IsAt x e (production_at g p).edges ×
    (a ≡ c ++ record { production = p; position = x.to.position } ∷ []) × (i ≡ x.to.port)

-- The item of the label is produced at output o of the instance at the address a: an output of the root at the root, and the item of an edge one step below its maker. An input of the root is produced nowhere
abbrev pub ProducedAt : Grammar → Label → List Step → ℕ → Type 0
ProducedAt g (Input p) a o = ⊥
ProducedAt g (Output p) a o = (a ≡ []) × (o ≡ p)
ProducedAt g (OfEdge q) a o =
    (c : List Step) × (p : ℕ) × (e : ℕ) × (x : Edge) × Tells g (OfEdge q) c p e × IsAt x e (production_at g p).edges ×
    (a ≡ c ++ record { production = p; position = x.from.position } ∷ []) × (o ≡ x.from.port)
