-- The graph of the items of a run under a safe view: each leads to those to which it leads through an instance.
use Rattle.std.specs.Prelude.{◌≡◌, ℕ, ◌+◌, ◌-◌, ◌^◌, ◌<◌, ◌≤◌, ◌==◌, Bool, true, false, List, [], ◌∷◌, filter, length, get_or, Option, Some, None, MatchOption}
use Rattle.wf_model.specs.declared.numbers.Side.TheVariants.{Input, Output}
use Rattle.wf_model.specs.Lists.{numbers_from}
use Rattle.wf_model.specs.Items.{IsVisible}
use Rattle.wf_flat.specs.declared.graph.Port.{Port as PortHeld}
use Rattle.wf_flat.specs.declared.item.Item.{Item as ItemHeld}
use Rattle.wf_flat.specs.Table.{IsTableOf}
use Rattle.wf_flat.specs.Graph.{inst_at}
use Rattle.wf_safe.specs.SafeViews.{IsSafeView}
use Rattle.wf_chain.specs.declared.chain.ChainStep.{ChainStep as StepHeld}
use Rattle.wf_chain.specs.ViewedRuns.{ViewedRunValue, grammar_in, view_in, full_in, events_in, item_in}
use Rattle.wf_chain.specs.Steps.{IsInnerEnd, IsUnopened}
use Rattle.wf_chain.specs.ItemLists.{AreItemsOf}

-- the view shows a held item
abbrev pub IsShown : ViewedRunValue → ItemHeld → Type 0
IsShown v i = IsVisible (grammar_in v) (view_in v) (grammar_in v).start (events_in v) (item_in v i)

-- a visible item is consumed in the end at an input of an instance that is not open
pub record IsConsumedAt (v : ViewedRunValue) (i : ItemHeld) (q : PortHeld) : Type 0 where
  pub shown : IsShown v i
  pub port : PortHeld
  pub is : i.to ≡ Some port
  pub end : IsInnerEnd v port q
  pub unopened : IsUnopened v Input q

-- it is produced in the first place at an output of such an instance
pub record IsProducedAt (v : ViewedRunValue) (i : ItemHeld) (q : PortHeld) : Type 0 where
  pub shown : IsShown v i
  pub port : PortHeld
  pub is : i.from ≡ Some port
  pub end : IsInnerEnd v port q
  pub unopened : IsUnopened v Output q

-- the input at which an item is consumed in the end: none, if the view does not show the item, or it is an output of the root
abbrev pub IsConsumerOf : ViewedRunValue → ItemHeld → Option PortHeld → Type 0
IsConsumerOf v i o = MatchOption o (IsShown v i → i.to ≡ None) (IsConsumedAt v i)

-- the output at which an item is produced in the first place: none, if the view does not show the item, or it is an input of the root
abbrev pub IsProducerOf : ViewedRunValue → ItemHeld → Option PortHeld → Type 0
IsProducerOf v i o = MatchOption o (IsShown v i → i.from ≡ None) (IsProducedAt v i)

abbrev pub no_item : ItemHeld
no_item = record { maker = None; from = None; to = None }

-- for each of the first n items of a list something that is so of it
pub record AreEach (P : ItemHeld → Option PortHeld → Type 0) (is : List ItemHeld) (n : ℕ) (os : List (Option PortHeld)) : Type 0 where
  pub count : length os ≡ n
  pub each : (k : ℕ) → k < n → P (get_or is k no_item) (get_or os k None)

-- an output, if it is there, is one of the instance of a number
abbrev pub is_made_at : ℕ → Option PortHeld → Bool
is_made_at m None = false
is_made_at m (Some q) = q.instance == m

-- of the items whose outputs are told, those from one on that are produced at the instance of a number, in order
abbrev pub made_behind : List (Option PortHeld) → ℕ → ℕ → List ℕ
made_behind produced m a = filter (λ w. is_made_at m (get_or produced w None)) (numbers_from a (length produced - a))

-- those from one on that are produced at the instance of an output, if this is there
abbrev pub made_with : List (Option PortHeld) → Option PortHeld → ℕ → List ℕ
made_with produced None a = []
made_with produced (Some q) a = made_behind produced q.instance a

-- of the items from one on, the first that is produced at the instance of a number is this one; none is where it is past the last
pub record IsNextMade (produced : List (Option PortHeld)) (m a j : ℕ) : Type 0 where
  pub behind : a ≤ j
  pub none : (w : ℕ) → a ≤ w → w < j → is_made_at m (get_or produced w None) ≡ false
  pub made : j < length produced → is_made_at m (get_or produced j None) ≡ true

-- for each instance the first item from one on that is produced at it, and for each item from this one on the next behind it that is produced at the same instance
pub record AreMadeFrom (produced : List (Option PortHeld)) (k : ℕ) (first next : List ℕ) : Type 0 where
  pub each : length next ≡ length produced
  pub firsts : (m : ℕ) → m < length first → IsNextMade produced m k (get_or first m 0)
  pub nexts : (w : ℕ) (q : PortHeld) → k ≤ w → get_or produced w None ≡ Some q → IsNextMade produced q.instance (w + 1) (get_or next w 0)

-- whether every expansion of the module of an instance joins an input of it and an output, if this is there
abbrev pub is_joined : ViewedRunValue → PortHeld → Option PortHeld → Bool
is_joined v p None = false
is_joined v p (Some q) = full_in v (inst_at v.run.instances p.instance).module_no p.port.0 q.port.0

-- the items among those of a list to which an input leads
abbrev pub led_in : ViewedRunValue → List (Option PortHeld) → PortHeld → List ℕ → List ℕ
led_in v produced p ws = filter (λ w. is_joined v p (get_or produced w None)) ws

-- the items to which an input, if it is there, leads: those that are produced at its instance
abbrev pub led_to : ViewedRunValue → List (Option PortHeld) → Option PortHeld → List ℕ
led_to v produced None = []
led_to v produced (Some p) = led_in v produced p (made_behind produced p.instance 0)

-- those to which the item of a number leads
abbrev pub led_from : ViewedRunValue → List (Option PortHeld) → List (Option PortHeld) → ℕ → List ℕ
led_from v consumed produced k = led_to v produced (get_or consumed k None)

-- the items to which an input leads, of those from a mark on that are produced where the item of the mark is
abbrev pub led_on : ViewedRunValue → List (Option PortHeld) → PortHeld → ℕ → List ℕ
led_on v produced p mark = led_in v produced p (made_with produced (get_or produced mark None) mark)

-- none, if the input is not there
abbrev pub led_behind : ViewedRunValue → List (Option PortHeld) → Option PortHeld → ℕ → List ℕ
led_behind v produced None mark = []
led_behind v produced (Some p) mark = led_on v produced p mark

-- the numbers that are used are in range, and those of the items that are produced at each instance are told
pub record IsGraphInRange (instances : ℕ) (consumed produced : List (Option PortHeld)) (first next : List ℕ) : Type 0 where
  pub few : length produced < 2 ^ 32
  pub count : length first ≡ instances
  pub inputs : (k : ℕ) (p : PortHeld) → get_or consumed k None ≡ Some p → p.instance < instances
  pub outputs : (k : ℕ) (q : PortHeld) → get_or produced k None ≡ Some q → q.port.0 < 64
  pub made : AreMadeFrom produced 0 first next

-- the instance of an input, if it is there
abbrev pub via_of : Option PortHeld → ℕ
via_of None = 0
via_of (Some p) = p.instance

-- the steps from the item of a number to those of others, each through the instance at which the item before it is consumed
abbrev pub steps_held : List ItemHeld → List (Option PortHeld) → ℕ → List ℕ → List StepHeld
steps_held is consumed a [] = []
steps_held is consumed a (w ∷ ws) = record { via = via_of (get_or consumed a None); item = get_or is w no_item } ∷ steps_held is consumed w ws

-- items, and where each is consumed and produced, are those of a run under a safe view
pub record IsGraphOf (v : ViewedRunValue) (is : List ItemHeld) (consumed produced : List (Option PortHeld)) : Type 0 where
  pub safe : IsSafeView v.viewed
  pub run : IsTableOf (grammar_in v) v.run
  pub items : AreItemsOf (grammar_in v) v.run is
  pub consumers : AreEach (IsConsumerOf v) is (length is) consumed
  pub producers : AreEach (IsProducerOf v) is (length is) produced
