-- Why one item of a run rests on another.
use Rattle.std.specs.Prelude.{◌≡◌, ◌⊎◌, ℕ, List, codes}
use Rattle.wf_model.specs.Lists.{IsIn}
use Rattle.wf_model.specs.Grammar.{Grammar, Assignment}
use Rattle.wf_model.specs.View.{View}
use Rattle.wf_model.specs.Safe.{IsFull}
use Rattle.wf_model.specs.declared.event.Event.{Event}
use Rattle.wf_model.specs.Items.{Item, items, IsVisible}
use Rattle.wf_message.specs.Endings.{End, Done}
use Rattle.chain_model.specs.Chains.{ChainStep, IsItemChain}
use Rattle.chain_model.specs.Shortest.{IsFirstShortestChain}
use Rattle.chain_model.specs.ChainText.{chain_text}

-- no item of a run has this name
abbrev pub HasNoneNamed : Grammar → List Event → List ℕ → Type 0
HasNoneNamed g e name = (t : Item) → IsIn t (items g g.start e) → t.name ≡ name → ⊥

-- two items of a run have these names
pub record AreNamed (g : Grammar) (e : List Event) (first second : List ℕ) (x y : Item) : Type 0 where
  pub first_there : IsIn x (items g g.start e)
  pub first_is : x.name ≡ first
  pub second_there : IsIn y (items g g.start e)
  pub second_is : y.name ≡ second

-- the view shows both
abbrev pub AreShown : Grammar → View → List Event → Item → Item → Type 0
AreShown g u e x y = IsVisible g u g.start e x × IsVisible g u g.start e y

-- The text for two names on a run e, under a view whose full assignment is d: `unknown` where no item has one of them, and otherwise `hidden` where the view does not show both items. For two that it shows `no` where no chain leads from the first to the second, and otherwise the text of the first of the shortest chains
pub data IsReasonText (g : Grammar) (u : View) (d : Assignment) (e : List Event) (first second text : List ℕ) : Type 0 where
  unknown : HasNoneNamed g e first ⊎ HasNoneNamed g e second → text ≡ codes "unknown\n" → IsReasonText g u d e first second text
  hidden : (x : Item) → (y : Item) → AreNamed g e first second x y → (AreShown g u e x y → ⊥) → text ≡ codes "hidden\n" → IsReasonText g u d e first second text
  none : (x : Item) → (y : Item) → AreNamed g e first second x y → AreShown g u e x y → ((steps : List ChainStep) → IsItemChain g u d g.start e x steps y → ⊥) → text ≡ codes "no\n" → IsReasonText g u d e first second text
  chain : (x : Item) → (y : Item) → AreNamed g e first second x y → AreShown g u e x y → (steps : List ChainStep) → IsFirstShortestChain g u d g.start e x steps y → text ≡ chain_text x steps → IsReasonText g u d e first second text

-- it is written, and that is all
pub record IsReason (g : Grammar) (u : View) (e : List Event) (first second : List ℕ) (ending : End) (text : List ℕ) : Type 0 where
  pub done : ending ≡ Done
  pub d : Assignment
  pub full : IsFull g u d
  pub reason : IsReasonText g u d e first second text
