-- Chains of a run under a safe view.
use Rattle.std.specs.Prelude.{◌≡◌, List, [], ◌∷◌, map}
use Rattle.wf_model.specs.Lists.{IsIn}
use Rattle.wf_model.specs.Items.{Item}
use Rattle.chain_model.specs.Chains.{ChainStep, StepsLead, IsItemChain}
use Rattle.chain_model.specs.Shortest.{IsFirstShortestChain}
use Rattle.wf_flat.specs.declared.item.Item.{Item as ItemHeld}
use Rattle.wf_chain.specs.declared.chain.ChainStep.{ChainStep as StepHeld}
use Rattle.wf_chain.specs.declared.chain.Chain.{Chain}
use Rattle.wf_chain.specs.ViewedRuns.{ViewedRunValue, grammar_in, view_in, full_in, events_in, item_in, IsItemIn}
use Rattle.wf_chain.specs.Steps.{step_in, IsStepIn}

-- the steps that held steps are
abbrev pub steps_in : ViewedRunValue → List StepHeld → List ChainStep
steps_in v ss = map (step_in v) ss

-- the items and instances of a chain are the run's
pub record IsChainIn (v : ViewedRunValue) (c : Chain) : Type 0 where
  pub first : IsItemIn v c.first
  pub steps : (s : StepHeld) → IsIn s c.steps.items → IsStepIn v s

-- steps go on from an item, one after the other, and the last of them leads to an item, which is the first where there are none
abbrev pub AreStepsTo : ViewedRunValue → ItemHeld → List StepHeld → Item → Type 0
AreStepsTo v i ss y = StepsLead (grammar_in v) (view_in v) (full_in v) (grammar_in v).start (events_in v) (item_in v i) (steps_in v ss) y

-- steps from an item are a chain to an item
abbrev pub IsChainTo : ViewedRunValue → ItemHeld → List StepHeld → Item → Type 0
IsChainTo v i ss y = IsItemChain (grammar_in v) (view_in v) (full_in v) (grammar_in v).start (events_in v) (item_in v i) (steps_in v ss) y

-- the item to which held steps from an item lead in the end
abbrev pub end_in : ViewedRunValue → ItemHeld → List StepHeld → Item
end_in v i [] = item_in v i
end_in v i (s ∷ ss) = end_in v s.item ss

-- no chain leads from an item to an item
abbrev pub HasNoChain : ViewedRunValue → ItemHeld → ItemHeld → Type 0
HasNoChain v i j =
    (steps : List ChainStep) → ¬ IsItemChain (grammar_in v) (view_in v) (full_in v) (grammar_in v).start (events_in v) (item_in v i) steps (item_in v j)

-- a chain leads from the one item to the other, it is the first of the shortest, and its items and instances are the run's
pub record IsExplained (v : ViewedRunValue) (i j : ItemHeld) (c : Chain) : Type 0 where
  pub held : IsChainIn v c
  pub from : c.first ≡ i
  pub first : IsFirstShortestChain (grammar_in v) (view_in v) (full_in v) (grammar_in v).start (events_in v) (item_in v i) (steps_in v c.steps.items) (item_in v j)
