-- Which lines of a chain are right in a run under a view.
use Rattle.std.specs.Prelude.{◌≡◌, ℕ, ◌≤◌, List, [], ◌∷◌, ◌++◌, length, take}
use Rattle.wf_model.specs.Lists.{IsIn}
use Rattle.wf_model.specs.Grammar.{Grammar, Assignment}
use Rattle.wf_model.specs.View.{View}
use Rattle.wf_model.specs.declared.event.Event.{Event}
use Rattle.wf_model.specs.Run.{Instance}
use Rattle.wf_model.specs.Items.{Item, items, IsVisible}
use Rattle.chain_model.specs.Chains.{ChainStep, Consumes, StepsLead, IsItemChain}
use Rattle.wf_reason.specs.ChainLines.{ChainLine, ViaLine, lines_of}

-- lines are those of a visible item of the run and of steps that lead from it to the item y
pub record LeadToItem (g : Grammar) (u : View) (d : Assignment) (m : ℕ) (events : List Event) (lines : List ChainLine) (y : Item) : Type 0 where
  pub first : Item
  pub steps : List ChainStep
  pub there : IsIn first (items g m events)
  pub visible : IsVisible g u m events first
  pub steps_lead : StepsLead g u d m events first steps y
  pub are : lines ≡ lines_of first steps

-- lines lead so to an item, but for a last one, which names the instance n, and n consumes the item
pub record LeadToInstance (g : Grammar) (u : View) (d : Assignment) (m : ℕ) (events : List Event) (lines : List ChainLine) (n : Instance) : Type 0 where
  pub before : List ChainLine
  pub item : Item
  pub lead : LeadToItem g u d m events before item
  pub consumed : Consumes g u m events item n
  pub are : lines ≡ before ++ ViaLine n.name ∷ []

-- lines are right: there are none, or they lead to an item, or to an instance that consumes one
pub data AreRight (g : Grammar) (u : View) (d : Assignment) (m : ℕ) (events : List Event) (lines : List ChainLine) : Type 0 where
  none : lines ≡ [] → AreRight g u d m events lines
  to_item : (y : Item) → LeadToItem g u d m events lines y → AreRight g u d m events lines
  to_instance : (n : Instance) → LeadToInstance g u d m events lines n → AreRight g u d m events lines

-- so many lines, from the first one on, are right
abbrev pub IsRightUpTo : Grammar → View → Assignment → ℕ → List Event → List ChainLine → ℕ → Type 0
IsRightUpTo g u d m events lines k = AreRight g u d m events (take k lines)

-- lines are those of a chain
pub record AreOfChain (g : Grammar) (u : View) (d : Assignment) (m : ℕ) (events : List Event) (lines : List ChainLine) : Type 0 where
  pub from : Item
  pub steps : List ChainStep
  pub to : Item
  pub chain : IsItemChain g u d m events from steps to
  pub are : lines ≡ lines_of from steps

-- lines are not those of a chain, and k of them, and no more, are right
pub record IsFirstWrong (g : Grammar) (u : View) (d : Assignment) (m : ℕ) (events : List Event) (lines : List ChainLine) (k : ℕ) : Type 0 where
  pub no_chain : ¬ AreOfChain g u d m events lines
  pub within : k ≤ length lines
  pub right : IsRightUpTo g u d m events lines k
  pub most : (j : ℕ) → j ≤ length lines → IsRightUpTo g u d m events lines j → j ≤ k
