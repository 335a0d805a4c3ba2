-- The steps of a chain along items that are told by number.
use Rattle.std.specs.Prelude.{ℕ, List, [], ◌∷◌}
use Rattle.wf_model.specs.Run.{Instance}
use Rattle.wf_model.specs.Items.{Item}
use Rattle.chain_model.specs.Chains.{ChainStep}

-- the steps from the item of one number to those of others, each through the instance that consumes the item before it
abbrev pub steps_by : (ℕ → Instance) → (ℕ → Item) → ℕ → List ℕ → List ChainStep
steps_by via item a [] = []
steps_by via item a (w ∷ ws) = record { via = via a; item = item w } ∷ steps_by via item w ws
