-- Chains of items: each item behind the first rests on the one before it, through one instance that is seen and not open.
use Rattle.std.specs.Prelude.{◌≡◌, ℕ, ◌<◌, IsTrue, cond, List, [], ◌∷◌, length, Option, Some}
use Rattle.wf_model.specs.Lists.{IsIn, Walk}
use Rattle.wf_model.specs.Grammar.{Grammar, Assignment, production_at, inputs_of, outputs_of}
use Rattle.wf_model.specs.View.{View, expands, shows}
use Rattle.wf_model.specs.declared.event.Event.{Event}
use Rattle.wf_model.specs.Run.{Instance, Expanded, expanded_by, seen_in, IsOpen}
use Rattle.wf_model.specs.Links.{Port, Link, input, output, entry_links, exit_links, instance_at, move_link}
use Rattle.wf_model.specs.Items.{Item, items, IsVisible}

-- the entries of a production, as links of its body
abbrev pub entries_in : Grammar → ℕ → List (Link (Option ℕ))
entries_in g p = entry_links 0 (production_at g p).entries

-- its exits, likewise
abbrev pub exits_in : Grammar → ℕ → List (Link (Option ℕ))
exits_in g p = exit_links 0 (production_at g p).exits

-- a link of an open instance: one of the links that are listed for the production by which it is expanded
pub record IsOfOpen (g : Grammar) (u : View) (m : ℕ) (events : List Event) (listed : ℕ → List (Link (Option ℕ))) (x y : Port (List ℕ)) : Type 0 where
  pub owner : Instance
  pub is_open : IsOpen g u m events owner
  pub by : Expanded
  pub told : expanded_by events owner.name ≡ Some by
  pub inner : Link (Option ℕ)
  pub in_body : IsIn inner (listed by.production)
  pub is : record { from = x; to = y } ≡ move_link (instance_at owner.name by.names) inner

-- an entry leads from an input of an open instance to an input of a child of it
abbrev pub IsEntry : Grammar → View → ℕ → List Event → Port (List ℕ) → Port (List ℕ) → Type 0
IsEntry g u m events = IsOfOpen g u m events (entries_in g)

-- an exit leads from an output of a child to an output of the open instance
abbrev pub IsExit : Grammar → View → ℕ → List Event → Port (List ℕ) → Port (List ℕ) → Type 0
IsExit g u m events = IsOfOpen g u m events (exits_in g)

-- the pairs of an instance that is not open: the perceived pairs of its module where the view does not expand it, and those of the full assignment d where the instance is pending
abbrev pub unopened_pairs : View → Assignment → Assignment
unopened_pairs u d m i o = cond (expands u m) (d m i o) (shows u m i o)

-- The instance n consumes the item x: n is seen and not open, and entries, maybe none, lead from the port that consumes x to an input of n
pub record Consumes (g : Grammar) (u : View) (m : ℕ) (events : List Event) (x : Item) (n : Instance) : Type 0 where
  pub seen : IsIn n (seen_in g u m events)
  pub not_open : ¬ IsOpen g u m events n
  pub from : Port (List ℕ)
  pub i : ℕ
  pub consumed : x.consumed ≡ Some from
  pub entries : Walk (IsEntry g u m events) from (input n.name i)
  pub input_there : i < inputs_of g n.module_no

-- The item x leads through the instance n to the item y: n is seen and not open; entries, maybe none, lead from the port that consumes x to an input of n; exits, maybe none, lead from an output of n to the port that produces y; and the input and the output are a pair of n
pub record LeadsThrough (g : Grammar) (u : View) (d : Assignment) (m : ℕ) (events : List Event) (x : Item) (n : Instance) (y : Item) : Type 0 where
  pub seen : IsIn n (seen_in g u m events)
  pub not_open : ¬ IsOpen g u m events n
  pub from : Port (List ℕ)
  pub to : Port (List ℕ)
  pub i : ℕ
  pub o : ℕ
  pub consumed : x.consumed ≡ Some from
  pub entries : Walk (IsEntry g u m events) from (input n.name i)
  pub input_there : i < inputs_of g n.module_no
  pub output_there : o < outputs_of g n.module_no
  pub pair : IsTrue (unopened_pairs u d n.module_no i o)
  pub exits : Walk (IsExit g u m events) (output n.name o) to
  pub produced : y.produced ≡ Some to

-- a step of a chain: through an instance to an item
pub record ChainStep : Type 0 where
  pub via : Instance
  pub item : Item

-- a step goes on from the item x: the next item is a visible item of the run, and x leads to it through the instance
pub record IsStepFrom (g : Grammar) (u : View) (d : Assignment) (m : ℕ) (events : List Event) (x : Item) (s : ChainStep) : Type 0 where
  pub there : IsIn s.item (items g m events)
  pub visible : IsVisible g u m events s.item
  pub through : LeadsThrough g u d m events x s.via s.item

-- some step goes on from x to y
abbrev pub LeadsOn : Grammar → View → Assignment → ℕ → List Event → Item → Item → Type 0
LeadsOn g u d m events x y = (n : Instance) × IsStepFrom g u d m events x (record { via = n; item = y })

-- a chain leads from x to y: one such step, or more
abbrev pub HasItemChain : Grammar → View → Assignment → ℕ → List Event → Item → Item → Type 0
HasItemChain g u d m events x y = (t : Item) × LeadsOn g u d m events x t × Walk (LeadsOn g u d m events) t y

-- the steps go on from x, one after the other, and the last of them leads to y
abbrev pub StepsLead : Grammar → View → Assignment → ℕ → List Event → Item → List ChainStep → Item → Type 0
StepsLead g u d m events x [] y = x ≡ y
StepsLead g u d m events x (s ∷ steps) y = IsStepFrom g u d m events x s × StepsLead g u d m events s.item steps y

-- a chain from x to y as the list of its steps, of which there is at least one: from x, a visible item of the run, they lead to y
pub record IsItemChain (g : Grammar) (u : View) (d : Assignment) (m : ℕ) (events : List Event) (x : Item) (steps : List ChainStep) (y : Item) : Type 0 where
  pub there : IsIn x (items g m events)
  pub visible : IsVisible g u m events x
  pub some : 0 < length steps
  pub steps_lead : StepsLead g u d m events x steps y
