-- A run under a safe view.
use Rattle.std.specs.Prelude.{◌≡◌, ℕ, ◌<◌, Bool, false, List, [], length, get_or}
use Rattle.wf_model.specs.Grammar.{Grammar, Assignment}
use Rattle.wf_model.specs.View.{View}
use Rattle.wf_model.specs.Meaning.{pairs_of}
use Rattle.wf_model.specs.declared.event.Event.{Event}
use Rattle.wf_model.specs.Run.{opens, seen_in}
use Rattle.wf_model.specs.Items.{Item, IsVisible}
use Rattle.wf_safe.specs.SafeViews.{SafeViewValue, IsSafeView}
use Rattle.wf_flat.specs.declared.item.Item.{Item as ItemHeld}
use Rattle.wf_flat.specs.Table.{Table, IsTableOf, events_of, names_in}
use Rattle.wf_chain.specs.HeldItems.{item_of, IsHeldItem}

-- what contracts see of a run under a safe view
pub record ViewedRunValue : Type 0 where
  pub viewed : SafeViewValue
  pub run : Table

-- its grammar, its view, the pairs that every expansion of a seen module joins, and its events
abbrev pub grammar_in : ViewedRunValue → Grammar
grammar_in v = v.viewed.accepted.grammar.core

abbrev pub view_in : ViewedRunValue → View
view_in v = v.viewed.view.core

abbrev pub full_in : ViewedRunValue → Assignment
full_in v = pairs_of v.viewed.full

abbrev pub events_in : ViewedRunValue → List Event
events_in v = events_of v.run

-- the view is safe, the run is one of its grammar, and the flags tell which instances are open once they are expanded
pub record IsViewedRun (v : ViewedRunValue) (flags : List Bool) : Type 0 where
  pub safe : IsSafeView v.viewed
  pub run : IsTableOf (grammar_in v) v.run
  pub flagged : (k : ℕ) → k < length v.run.instances → get_or flags k false ≡ opens (view_in v) (seen_in (grammar_in v) (view_in v) (grammar_in v).start (events_in v)) (get_or (names_in v.run.instances) k [])

-- the item that a held item is
abbrev pub item_in : ViewedRunValue → ItemHeld → Item
item_in v i = item_of (grammar_in v) v.run i

-- a held item is an item of the run
abbrev pub IsItemIn : ViewedRunValue → ItemHeld → Type 0
IsItemIn v i = IsHeldItem (grammar_in v) v.run i

-- and the view shows it
pub record IsVisibleIn (v : ViewedRunValue) (i : ItemHeld) : Type 0 where
  pub held : IsItemIn v i
  pub visible : IsVisible (grammar_in v) (view_in v) (grammar_in v).start (events_in v) (item_in v i)
