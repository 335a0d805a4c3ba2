-- The first of the shortest chains from one item to another.
use Rattle.std.specs.Prelude.{◌≡◌, ℕ, ◌<◌, ◌≤◌, ◌⊎◌, List, [], ◌∷◌, map, length}
use Rattle.wf_model.specs.Lists.{IsAt}
use Rattle.wf_model.specs.Grammar.{Grammar, Assignment}
use Rattle.wf_model.specs.View.{View}
use Rattle.wf_model.specs.declared.event.Event.{Event}
use Rattle.wf_model.specs.Items.{Item, items}
use Rattle.chain_model.specs.Chains.{ChainStep, IsItemChain}

-- the items of the steps, in order
abbrev pub items_along : List ChainStep → List Item
items_along steps = map (λ (s : ChainStep). s.item) steps

-- x stands before y in the list
abbrev pub StandsBefore : List Item → Item → Item → Type 0
StandsBefore list x y = (j : ℕ) × (k : ℕ) × IsAt x j list × IsAt y k list × (j < k)

-- of two lists as long, the first is the second, or where they first differ its item stands before the other's in the list of all
abbrev pub ComesFirst : List Item → List Item → List Item → Type 0
ComesFirst list [] ys = Unit {0}
ComesFirst list (x ∷ xs) [] = ⊥
ComesFirst list (x ∷ xs) (y ∷ ys) = StandsBefore list x y ⊎ ((x ≡ y) × ComesFirst list xs ys)

-- a chain with the fewest items; of all that have as few it is the first, as its items are compared one by one in order of making
pub record IsFirstShortestChain (g : Grammar) (u : View) (d : Assignment) (m : ℕ) (events : List Event) (x : Item) (steps : List ChainStep) (y : Item) : Type 0 where
  pub chain : IsItemChain g u d m events x steps y
  pub fewest : (others : List ChainStep) → IsItemChain g u d m events x others y → length steps ≤ length others
  pub first : (others : List ChainStep) → IsItemChain g u d m events x others y → length others ≡ length steps →
      ComesFirst (items g m events) (items_along steps) (items_along others)
