-- The lines of a chain, by what they say.
use Rattle.std.specs.Prelude.{◌≡◌, ℕ, List, [], ◌∷◌, ◌++◌, flat_map, codes}
use Rattle.wf_model.specs.WellFormed.{IsShortName}
use Rattle.wf_model.specs.Items.{Item, IsItemName}
use Rattle.chain_model.specs.Chains.{ChainStep}
use Rattle.wf_reason.specs.declared.turn.Turn.{Turn}
use Rattle.wf_reason.specs.declared.turn.Turn.TheVariants.{Item as ItemTurn, Instance as ViaTurn}

-- what a line says: the name of an item, or that of the instance through which the item before it leads on
pub data ChainLine : Type 0 where
  ItemLine : List ℕ → ChainLine
  ViaLine : List ℕ → ChainLine

-- a line is the name of an item
abbrev pub IsItemLine : List ℕ → List ℕ → Type 0
IsItemLine text name = (text ≡ name) × IsItemName name

-- a line is the word `via`, a space and the name of an instance
abbrev pub IsViaLine : List ℕ → List ℕ → Type 0
IsViaLine text name = (text ≡ codes "via " ++ name) × IsShortName name

-- items and instances take turns
abbrev pub next_turn : Turn → Turn
next_turn ItemTurn = ViaTurn
next_turn ViaTurn = ItemTurn

-- the turn behind lines
abbrev pub turn_behind : {A : Type 0} → Turn → List A → Turn
turn_behind t [] = t
turn_behind t (x ∷ xs) = turn_behind (next_turn t) xs

-- a line has the form of its turn, and says this
abbrev pub Says : Turn → List ℕ → ChainLine → Type 0
Says ItemTurn text (ItemLine name) = IsItemLine text name
Says ItemTurn text (ViaLine name) = ⊥
Says ViaTurn text (ItemLine name) = ⊥
Says ViaTurn text (ViaLine name) = IsViaLine text name

-- what a line of a turn says by a name
abbrev pub line_at : Turn → List ℕ → ChainLine
line_at ItemTurn name = ItemLine name
line_at ViaTurn name = ViaLine name

-- a line has not the form of its turn
abbrev pub SaysNothing : Turn → List ℕ → Type 0
SaysNothing t text = (l : ChainLine) → Says t text l → ⊥

-- the lines of a step
abbrev pub lines_of_step : ChainStep → List ChainLine
lines_of_step s = ViaLine s.via.name ∷ ItemLine s.item.name ∷ []

-- the lines of an item and of steps from it on
abbrev pub lines_of : Item → List ChainStep → List ChainLine
lines_of x steps = ItemLine x.name ∷ flat_map lines_of_step steps
