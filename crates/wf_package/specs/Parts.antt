-- The parts of a package as they are made, in the order of the modules and productions that are shown.
use Rattle.std.specs.Prelude.{◌≡◌, ℕ, suc, ◌≤◌, Bool, false, cond, List, [], ◌∷◌, ◌++◌, map, length, get_or, None, option_map}
use Rattle.std.specs.List.{list_all}
use Rattle.wf_model.specs.Lists.{IsIn, numbers_from}
use Rattle.wf_model.specs.Grammar.{Grammar, Module, Position, Production, Given, production_at, inputs_of, outputs_of, head_of, body_of}
use Rattle.wf_model.specs.declared.body.Position.{Position as PositionHeld}
use Rattle.wf_model.specs.View.{View, expands, shows}
use Rattle.wf_model.specs.Steps.{step_of}
use Rattle.label_model.specs.Continuing.{continuing}
use Rattle.version_model.specs.Standing.{renumbered_step}
use Rattle.wf_view.specs.Held.{HeldView, flagged}
use Rattle.wf_safe.specs.Choosing.{is_seen_expanded}
use Rattle.package_model.specs.Shown.{AreSeen, place_in, pairs_within}
use Rattle.package_model.specs.Packages.{LoopEntry, numbered, module_name, package_module, package_production, entry_if}
use Rattle.package_model.specs.Laws.{packaged}
use Rattle.wf_package.specs.declared.places.PlacedNumbers.{PlacedNumbers}
use Rattle.wf_package.specs.declared.loops.Loop.{Loop}

-- what is made of each element and its place, from place k on, one behind the other
abbrev pub made_by_place : {A B : Type 0} → (ℕ → A → List B) → ℕ → List A → List B
made_by_place make k [] = []
made_by_place make k (x ∷ xs) = make k x ++ made_by_place make (suc k) xs

-- the numbers whose flags are set, in order, and the place of each among them
pub record ArePlaces (flags : List Bool) (p : PlacedNumbers) : Type 0 where
  pub numbers : p.numbers.items ≡ flagged flags
  pub one_each : length p.places.items ≡ length flags
  pub places : (m : ℕ) → IsIn m p.numbers.items → get_or p.places.items m 0 ≡ place_in p.numbers.items m

-- a flag for each module, that is set where the module is seen
abbrev pub seen_module_flags : Grammar → HeldView → List Bool
seen_module_flags g v = map (λ m. get_or v.seen m false) (numbers_from 0 (length g.modules))

-- a flag for each production, that is set where the head is seen and expanded
abbrev pub open_production_flags : Grammar → HeldView → List Bool
open_production_flags g v = map (λ p. is_seen_expanded v (head_of g p)) (numbers_from 0 (length g.productions))

-- a module of a package
abbrev pub module_part : Grammar → ℕ → ℕ → List Module
module_part g k m = package_module k (record { ins = inputs_of g m; outs = outputs_of g m; pairs = None; loop = None }) ∷ []

-- a position of a body in a package, whose modules have these places
abbrev pub position_part : List ℕ → ℕ → PositionHeld → List Position
position_part places k q = record { name = numbered 112 k; module_no = get_or places q.«module».0 0 } ∷ []

-- a production of a package, whose modules have these places
abbrev pub production_part : Grammar → (ℕ → ℕ) → ℕ → Production
production_part g place p =
    package_production (record {
      head = place (head_of g p);
      body = map place (body_of g p);
      edges = (production_at g p).edges;
      entries = (production_at g p).entries;
      exits = (production_at g p).exits;
    })

-- whether each pair passes the test
abbrev pub all_pairs_pass : ℕ → ℕ → (ℕ → ℕ → Bool) → Bool
all_pairs_pass ins outs test = list_all (λ i. list_all (test i) (numbers_from 0 outs)) (numbers_from 0 ins)

-- the pairs of a module, unless they are all
abbrev pub pairs_part : ℕ → ℕ → ℕ → (ℕ → ℕ → Bool) → List Given
pairs_part k ins outs test = cond (all_pairs_pass ins outs test) [] (record { module_no = k; pairs = pairs_within ins outs test } ∷ [])

-- what is given to a module: its pairs, if the view does not expand it and they are not all
abbrev pub given_part : Grammar → View → ℕ → ℕ → List Given
given_part g u k m = cond (expands u m) [] (pairs_part k (inputs_of g m) (outputs_of g m) (shows u m))

-- the entry of a module in the loops, if the view expands it and it has a continuing step; productions have these places
abbrev pub loop_part : Grammar → View → List ℕ → ℕ → ℕ → List LoopEntry
loop_part g u places k m = cond (expands u m) (entry_if k (option_map (renumbered_step (λ p. get_or places p 0)) (continuing g m)) []) []

-- an entry of the loops as it is held
abbrev pub loop_entry_of : Loop → LoopEntry
loop_entry_of l = record { module_name = module_name l.«module»; step = step_of l.step }

-- the entries of the loops as they are held
abbrev pub held_loops : List Loop → List LoopEntry
held_loops loops = map loop_entry_of loops

-- what stands past the end of what is given, and of the loops
abbrev pub no_given_part : Given
no_given_part = record { module_no = 0; pairs = [] }

abbrev pub no_loop_entry : LoopEntry
no_loop_entry = record { module_name = []; step = record { production = 0; position = 0 } }

-- the grammar without the pairs that are given
abbrev pub without_given : Grammar → Grammar
without_given g = record { start = g.start; modules = g.modules; productions = g.productions; given = [] }

-- the grammar with these pairs given, in place of its own
abbrev pub with_given : List Given → Grammar → Grammar
with_given given g = record { start = g.start; modules = g.modules; productions = g.productions; given = given }

-- the grammar of the package of a view that shows these modules and productions, without the pairs that are given
abbrev pub bare_package : Grammar → View → PlacedNumbers → PlacedNumbers → Grammar
bare_package g u modules productions = without_given (packaged g u modules.numbers.items productions.numbers.items)

-- what is shown of a grammar: its modules and its productions, in order, and their places
pub record AreShownParts (g : Grammar) (u : View) (modules productions : PlacedNumbers) : Type 0 where
  pub seen : AreSeen g u modules.numbers.items productions.numbers.items
  pub few : length modules.numbers.items ≤ length g.modules
  pub module_each : length modules.places.items ≡ length g.modules
  pub module_places : (m : ℕ) → IsIn m modules.numbers.items → get_or modules.places.items m 0 ≡ place_in modules.numbers.items m
  pub production_each : length productions.places.items ≡ length g.productions
  pub production_places : (p : ℕ) → IsIn p productions.numbers.items → get_or productions.places.items p 0 ≡ place_in productions.numbers.items p
