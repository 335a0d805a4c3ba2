-- Laws of chains of items: when there is one, what determines it, and which of them is told.
use Rattle.std.specs.Prelude.{◌≡◌, ◌↔◌, ℕ, List, ◌++◌}
use Rattle.wf_model.specs.Lists.{IsIn}
use Rattle.wf_model.specs.Grammar.{Grammar, Assignment}
use Rattle.wf_model.specs.WellFormed.{IsWellFormed}
use Rattle.wf_model.specs.Proper.{IsProper}
use Rattle.wf_model.specs.View.{View}
use Rattle.wf_model.specs.Safe.{IsFull}
use Rattle.wf_model.specs.declared.event.Event.{Event}
use Rattle.wf_model.specs.Run.{Instance, IsRun}
use Rattle.wf_model.specs.Finishing.{ExpandsComposites, IsFinishing}
use Rattle.wf_model.specs.Items.{Item, items, IsVisible, Depends}
use Rattle.chain_model.specs.Chains.{LeadsThrough, ChainStep, HasItemChain, IsItemChain}
use Rattle.chain_model.specs.Shortest.{items_along, IsFirstShortestChain}
use Rattle.chain_model.specs.ChainText.{chain_text}

-- two items of an unfinished run: a chain leads from the first to the second exactly if the second depends on the first in any one finishing of the run; so exactly if it does in each, and exactly if it does in one
pub record IsChained (g : Grammar) (u : View) (d : Assignment) (events : List Event) (x y : Item) : Type 0 where
  pub in_any : (more : List Event) → IsFinishing g u g.start events more → HasItemChain g u d g.start events x y ↔ Depends g u (events ++ more) x y
  pub in_each : HasItemChain g u d g.start events x y ↔ ((more : List Event) → IsFinishing g u g.start events more → Depends g u (events ++ more) x y)
  pub in_one : HasItemChain g u d g.start events x y ↔ ((more : List Event) × IsFinishing g u g.start events more × Depends g u (events ++ more) x y)

-- so it is for two visible items, where d is the full assignment of the view, which a safe view has
abbrev pub ChainLaw : Type 0
ChainLaw =
    (g : Grammar) (u : View) (d : Assignment) → IsWellFormed g → IsProper g → ExpandsComposites g u → IsFull g u d →
    (events : List Event) → IsRun g g.start events → (x y : Item) → IsIn x (items g g.start events) → IsIn y (items g g.start events) →
    IsVisible g u g.start events x → IsVisible g u g.start events y → IsChained g u d events x y

-- from a visible item a chain leads to another exactly if some list of steps is one
abbrev pub ChainListLaw : Type 0
ChainListLaw =
    (g : Grammar) (u : View) (d : Assignment) (m : ℕ) (events : List Event) (x y : Item) → IsIn x (items g m events) → IsVisible g u m events x →
    HasItemChain g u d m events x y ↔ ((steps : List ChainStep) × IsItemChain g u d m events x steps y)

-- One instance alone consumes an item, and one alone produces it: an item leads on through one instance, to whatever items, and it is led to through one. So either of two items determines the instance between them
abbrev pub ViaLaw : Type 0
ViaLaw =
    (g : Grammar) (u : View) (d : Assignment) (m : ℕ) (events : List Event) → IsRun g m events → (x y : Item) (n k : Instance) →
    record {
      consumed : (s t : Item) → LeadsThrough g u d m events x n s → LeadsThrough g u d m events x k t → n ≡ k;
      produced : (s t : Item) → LeadsThrough g u d m events s n y → LeadsThrough g u d m events t k y → n ≡ k;
    }

-- so a chain is determined by its items
abbrev pub ChainItemsLaw : Type 0
ChainItemsLaw =
    (g : Grammar) (u : View) (d : Assignment) (m : ℕ) (events : List Event) → IsRun g m events → (x y : Item) (steps others : List ChainStep) →
    IsItemChain g u d m events x steps y → IsItemChain g u d m events x others y → items_along steps ≡ items_along others → steps ≡ others

-- of the chains from one item to another one is the first of the shortest, if there are any, and no other is
abbrev pub FirstShortestLaw : Type 0
FirstShortestLaw =
    (g : Grammar) (u : View) (d : Assignment) → IsWellFormed g → (events : List Event) → IsRun g g.start events → (x y : Item) →
    record {
      some : (steps : List ChainStep) → IsItemChain g u d g.start events x steps y →
          (first : List ChainStep) × IsFirstShortestChain g u d g.start events x first y;
      one : (steps others : List ChainStep) → IsFirstShortestChain g u d g.start events x steps y →
          IsFirstShortestChain g u d g.start events x others y → steps ≡ others;
    }

-- two chains of a run with one text are one chain, from one item
abbrev pub ChainTextLaw : Type 0
ChainTextLaw =
    (g : Grammar) (u : View) (d : Assignment) → IsWellFormed g → (events : List Event) → IsRun g g.start events →
    (x y s t : Item) (steps others : List ChainStep) → IsItemChain g u d g.start events x steps y → IsItemChain g u d g.start events s others t →
    chain_text x steps ≡ chain_text s others → (x ≡ s) × (steps ≡ others)
