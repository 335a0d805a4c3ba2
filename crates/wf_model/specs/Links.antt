-- The links of a run and of one body, and paths.
use Rattle.std.specs.Prelude.{ℕ, suc, false, cond, List, [], ◌∷◌, ◌++◌, map, get_or, flat_map, Option, Some, None}
use Rattle.wf_model.specs.Lists.{IsIn, numbers_from, Walk}
use Rattle.wf_model.specs.Grammar.{Grammar, Assignment, Inner, Edge, production_at, inputs_of, outputs_of, body_of}
use Rattle.wf_model.specs.declared.numbers.Side.{Side}
use Rattle.wf_model.specs.declared.numbers.Side.TheVariants.{Input, Output}
use Rattle.wf_model.specs.View.{View, expands, shows}
use Rattle.wf_model.specs.declared.event.Event.{Event}
use Rattle.wf_model.specs.Run.{Instance, Expanded, expanded_by, seen_in}

-- a port of something, of an instance or of a place in a body: its owner, a side and a number
pub record Port (A : Type 0) : Type 0 where
  pub owner : A
  pub side : Side
  pub number : ℕ

-- a link from one port to another
pub record Link (A : Type 0) : Type 0 where
  pub from : Port A
  pub to : Port A

-- the n-th input of an owner
abbrev pub input : {A : Type 0} → A → ℕ → Port A
input a n = record { owner = a; side = Input; number = n }

-- the n-th output of an owner
abbrev pub output : {A : Type 0} → A → ℕ → Port A
output a n = record { owner = a; side = Output; number = n }

-- The ports of a body are those of its head, whose owner is None, and those of its positions.
-- An edge leads from an output to an input of positions
abbrev pub edge_link : Edge → Link (Option ℕ)
edge_link e = record { from = output (Some e.from.position) e.from.port; to = input (Some e.to.position) e.to.port }

-- the k-th entry leads from the k-th input of the head to an input of a position
abbrev pub entry_links : ℕ → List Inner → List (Link (Option ℕ))
entry_links k [] = []
entry_links k (i ∷ is) = record { from = input None k; to = input (Some i.position) i.port } ∷ entry_links (suc k) is

-- the k-th exit leads from an output of a position to the k-th output of the head
abbrev pub exit_links : ℕ → List Inner → List (Link (Option ℕ))
exit_links k [] = []
exit_links k (i ∷ is) = record { from = output (Some i.position) i.port; to = output None k } ∷ exit_links (suc k) is

-- the edges, entries and exits of a body
abbrev pub wiring : Grammar → ℕ → List (Link (Option ℕ))
wiring g p =
    let r = production_at g p in
    map edge_link r.edges ++ (entry_links 0 r.entries ++ exit_links 0 r.exits)

-- the pairs of a module, as links of one of its owners, by input and output
abbrev pub pair_links : {A : Type 0} → Grammar → Assignment → ℕ → A → List (Link A)
pair_links g d m a =
    flat_map (λ i. flat_map (λ o. cond (d m i o) (record { from = input a i; to = output a o } ∷ []) []) (numbers_from 0 (outputs_of g m)))
    (numbers_from 0 (inputs_of g m))

-- the pairs of the modules of a list, each owned by its place in the list, from k on
abbrev pub place_links : Grammar → Assignment → ℕ → List ℕ → List (Link (Option ℕ))
place_links g d k [] = []
place_links g d k (m ∷ ms) = pair_links g d m (Some k) ++ place_links g d (suc k) ms

-- the links of one body under an assignment of pairs to modules: its edges, entries and exits, and the pairs of each position
abbrev pub body_links : Grammar → Assignment → ℕ → List (Link (Option ℕ))
body_links g d p = wiring g p ++ place_links g d 0 (body_of g p)

-- the instance at a place of an expansion: the head, or the position's
abbrev pub instance_at : List ℕ → List (List ℕ) → Option ℕ → List ℕ
instance_at n names None = n
instance_at n names (Some k) = get_or names k []

-- a port with another owner
abbrev pub move_port : {A B : Type 0} → (A → B) → Port A → Port B
move_port f x = record { owner = f x.owner; side = x.side; number = x.number }

-- a link whose ports have other owners
abbrev pub move_link : {A B : Type 0} → (A → B) → Link A → Link B
move_link f l = record { from = move_port f l.from; to = move_port f l.to }

-- the edges, entries and exits of an instance that is expanded; of one that is not, the pairs of its module
abbrev pub opened_links : Grammar → Assignment → Instance → Option Expanded → List (Link (List ℕ))
opened_links g leaf i None = pair_links g leaf i.module_no i.name
opened_links g leaf i (Some x) = map (move_link (instance_at i.name x.names)) (wiring g x.production)

-- the links of a seen instance: its edges, entries and exits if it is open, and else the pairs of its module
abbrev pub links_of : Grammar → View → Assignment → List Event → Instance → List (Link (List ℕ))
links_of g u leaf events i =
    cond (expands u i.module_no) (opened_links g leaf i (expanded_by events i.name)) (pair_links g leaf i.module_no i.name)

-- the links of a run from module m, where each seen instance that is not open has these pairs
abbrev pub links_with : Grammar → View → Assignment → ℕ → List Event → List (Link (List ℕ))
links_with g u leaf m events = flat_map (links_of g u leaf events) (seen_in g u m events)

-- the perceived pairs of modules that are not expanded, and none of the others
abbrev pub perceived : View → Assignment
perceived u m i o = cond (expands u m) false (shows u m i o)

-- The links of a run from module m under a view, for each seen instance in order of making: edges, entries and exits of an open one, perceived pairs of one whose module the view does not expand, and none of a pending one
abbrev pub links : Grammar → View → ℕ → List Event → List (Link (List ℕ))
links g u m events = links_with g u (perceived u) m events

-- one port is linked to the next
abbrev pub IsLinked : {A : Type 0} → List (Link A) → Port A → Port A → Type 0
IsLinked ls x y = IsIn (record { from = x; to = y }) ls

-- A path in the links: a nonempty list of ports, each linked to the next. A single port is a path, so a path joins each port to itself
abbrev pub Path : {A : Type 0} → List (Link A) → Port A → Port A → Type 0
Path ls = Walk (IsLinked ls)
