-- Runs of a grammar, as lists of events, and what is seen of a run under a view.
use Rattle.std.specs.Prelude.{◌≡◌, ℕ, ◌<◌, ◌≤◌, ◌⊎◌, Bool, cond, ◌&&◌, List, [], ◌∷◌, ◌++◌, map, length, flat_map, IsTrue, Option, Some, None, bytes_eq}
use Rattle.wf_model.specs.Lists.{IsIn, AllDiffer, some}
use Rattle.wf_model.specs.Grammar.{Grammar, head_of, body_of}
use Rattle.wf_model.specs.declared.event.Event.{Event}
use Rattle.wf_model.specs.declared.event.Event.TheVariants.{Start, Expand}
use Rattle.wf_model.specs.View.{View, expands}

-- an instance is known by its name, in whatever run it stands; its module goes with it
pub record Instance : Type 0 where
  pub name : List ℕ
  pub module_no : ℕ

-- how an instance was expanded: by which production, and with which name for each position
pub record Expanded : Type 0 where
  pub production : ℕ
  pub names : List (List ℕ)

-- a letter, a digit, `_` or `-`
abbrev pub IsNameByte : ℕ → Type 0
IsNameByte b = ((97 ≤ b) × (b ≤ 122)) ⊎ (((65 ≤ b) × (b ≤ 90)) ⊎ (((48 ≤ b) × (b ≤ 57)) ⊎ ((b ≡ 95) ⊎ (b ≡ 45))))

-- a name of an instance: a nonempty list of such bytes, of any length
abbrev pub IsName : List ℕ → Type 0
IsName name = (0 < length name) × ((b : ℕ) → IsIn b name → IsNameByte b)

-- the instances that get these names, each with the module of its position
abbrev pub named : List (List ℕ) → List ℕ → List Instance
named [] ms = []
named (n ∷ ns) [] = []
named (n ∷ ns) (m ∷ ms) = record { name = n; module_no = m } ∷ named ns ms

-- the instances that an event makes, in a run from module m
abbrev pub made_by : Grammar → ℕ → Event → List Instance
made_by g m (Start r) = record { name = r; module_no = m } ∷ []
made_by g m (Expand i p names) = named names (body_of g p)

-- the instances of a run from module m, in order of making
abbrev pub made : Grammar → ℕ → List Event → List Instance
made g m events = flat_map (made_by g m) events

-- the names of these instances, in order
abbrev pub names_of : List Instance → List (List ℕ)
names_of is = map (λ (i : Instance). i.name) is

-- how the events expand the instance of this name, and None where they do not
abbrev pub expanded_by : List Event → List ℕ → Option Expanded
expanded_by [] n = None
expanded_by (Start r ∷ events) n = expanded_by events n
expanded_by (Expand i p names ∷ events) n = cond (bytes_eq i n) (Some (record { production = p; names = names })) (expanded_by events n)

-- an expand event extends a run where its instance stands and is not expanded, its production is one of the instance's module, and it has one new name per position
pub record CanExpand (g : Grammar) (m : ℕ) (before : List Event) (i : List ℕ) (p : ℕ) (names : List (List ℕ)) : Type 0 where
  pub in_range : p < length g.productions
  pub stands : IsIn (record { name = i; module_no = head_of g p }) (made g m before)
  pub open_end : expanded_by before i ≡ None
  pub one_each : length names ≡ length (body_of g p)
  pub good : (n : List ℕ) → IsIn n names → IsName n
  pub differ : AllDiffer names
  pub new : (n : List ℕ) → IsIn n names → IsIn n (names_of (made g m before)) → ⊥

-- an event extends the run before it: a start event where nothing is before it, an expand event where it can be
abbrev pub Extends : Grammar → ℕ → List Event → Event → Type 0
Extends g m before (Start r) = (before ≡ []) × IsName r
Extends g m before (Expand i p names) = CanExpand g m before i p names

-- each of the events extends those before it
abbrev pub AllExtend : Grammar → ℕ → List Event → List Event → Type 0
AllExtend g m before [] = Unit {0}
AllExtend g m before (e ∷ events) = Extends g m before e × AllExtend g m (before ++ e ∷ []) events

-- a run from module m: the empty list, or a start event and expand events, each of which extends those before it
abbrev pub IsRun : Grammar → ℕ → List Event → Type 0
IsRun g m events = AllExtend g m [] events

-- an accepted run with a limit on its instances: the names have at most 64 bytes
abbrev pub IsAccepted : Grammar → ℕ → List Event → Type 0
IsAccepted g limit events =
    IsRun g g.start events × (length (made g g.start events) ≤ limit) × ((n : List ℕ) → IsIn n (names_of (made g g.start events)) → length n ≤ 64)

-- an instance of this name is among those seen, and the view expands its module: once it is expanded, it is open
abbrev pub opens : View → List Instance → List ℕ → Bool
opens u seen n = some (λ (i : Instance). bytes_eq i.name n && expands u i.module_no) seen

-- what an event brings into sight: the root, and the children of an instance that is opened
abbrev pub newly_seen : Grammar → View → ℕ → List Instance → Event → List Instance
newly_seen g u m seen (Start r) = made_by g m (Start r)
newly_seen g u m seen (Expand i p names) = cond (opens u seen i) (named names (body_of g p)) []

-- what is seen after these events, where seen was before them
abbrev pub see_all : Grammar → View → ℕ → List Instance → List Event → List Instance
see_all g u m seen [] = seen
see_all g u m seen (e ∷ events) = see_all g u m (seen ++ newly_seen g u m seen e) events

-- the instances of a run that are seen under the view, in order of making: the root, and the children of open instances
abbrev pub seen_in : Grammar → View → ℕ → List Event → List Instance
seen_in g u m events = see_all g u m [] events

-- an instance is open where it is seen and expanded, and the view expands its module
abbrev pub IsOpen : Grammar → View → ℕ → List Event → Instance → Type 0
IsOpen g u m events i = IsIn i (seen_in g u m events) × IsTrue (expands u i.module_no) × ((x : Expanded) × (expanded_by events i.name ≡ Some x))

-- a seen instance that is not expanded, but whose module the view expands
abbrev pub IsPending : Grammar → View → ℕ → List Event → Instance → Type 0
IsPending g u m events i = IsIn i (seen_in g u m events) × IsTrue (expands u i.module_no) × (expanded_by events i.name ≡ None)

-- a run is finished under the view where nothing is pending
abbrev pub IsFinished : Grammar → View → ℕ → List Event → Type 0
IsFinished g u m events = (i : Instance) → IsPending g u m events i → ⊥

-- the name of the root, and no name before the start
abbrev pub root_of : List Event → List ℕ
root_of [] = []
root_of (Start r ∷ events) = r
root_of (Expand i p names ∷ events) = []

-- the names of a family with those of the children, if the instance belongs to it
abbrev pub with_children : List (List ℕ) → List ℕ → List (List ℕ) → List (List ℕ)
with_children names i new = cond (some (bytes_eq i) names) (names ++ new) names

-- the expand events of instances with these names and of instances below them
abbrev pub below : List (List ℕ) → List Event → List Event
below names [] = []
below names (Start r ∷ events) = below names events
below names (Expand i p new ∷ events) = cond (some (bytes_eq i) names) (Expand i p new ∷ []) [] ++ below (with_children names i new) events

-- these names and those of the instances below them
abbrev pub family : List (List ℕ) → List Event → List (List ℕ)
family names [] = names
family names (Start r ∷ events) = family names events
family names (Expand i p new ∷ events) = family (with_children names i new) events

-- the run of the instance n: a start event that names it, and the expand events of n and of the instances below it
abbrev pub sub_run : List ℕ → List Event → List Event
sub_run n events = Start n ∷ below (n ∷ []) events
