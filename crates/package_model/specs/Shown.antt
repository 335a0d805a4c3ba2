-- What a view shows of a grammar, named by places alone.
use Rattle.std.specs.Prelude.{ℕ, ◌<◌, ◌↔◌, Bool, cond, ◌==◌, IsTrue, List, [], ◌∷◌, map, flat_map, length, Option, Some, None, option_map}
use Rattle.std.specs.List.{position_or_len}
use Rattle.wf_model.specs.Lists.{IsIn, IsAt, numbers_from}
use Rattle.wf_model.specs.Grammar.{Grammar, Inner, Edge, production_at, inputs_of, outputs_of, head_of, body_of}
use Rattle.wf_model.specs.View.{View, expands, shows, IsSeenModule}
use Rattle.wf_model.specs.Reach.{Step}
use Rattle.label_model.specs.Continuing.{continuing}
use Rattle.version_model.specs.Standing.{renumbered_step}

-- a production of a seen module that the view expands
abbrev pub IsOpenProduction : Grammar → View → ℕ → Type 0
IsOpenProduction g u p = (p < length g.productions) × IsSeenModule g u (head_of g p) × IsTrue (expands u (head_of g p))

-- the seen modules, and the productions of those that the view expands, each in order
pub record AreSeen (g : Grammar) (u : View) (ms ps : List ℕ) : Type 0 where
  pub modules_in_order : (j k a b : ℕ) → j < k → IsAt a j ms → IsAt b k ms → a < b
  pub modules : (m : ℕ) → IsIn m ms ↔ IsSeenModule g u m
  pub productions_in_order : (j k a b : ℕ) → j < k → IsAt a j ps → IsAt b k ps → a < b
  pub productions : (p : ℕ) → IsIn p ps ↔ IsOpenProduction g u p

-- the first place of a number in a list
abbrev pub place_in : List ℕ → ℕ → ℕ
place_in ks m = position_or_len (λ k. k == m) ks

-- a step, its production named by its place
abbrev pub placed_step : List ℕ → Step → Step
placed_step ps s = renumbered_step (place_in ps) s

-- a seen module: its numbers of ports, its perceived pairs, by input and output, if the view does not expand it, and its continuing step, if the view expands it and it has one
pub record ShownModule : Type 0 where
  pub ins : ℕ
  pub outs : ℕ
  pub pairs : Option (List (ℕ × ℕ))
  pub loop : Option Step

-- a production without names
pub record ShownProduction : Type 0 where
  pub head : ℕ
  pub body : List ℕ
  pub edges : List Edge
  pub entries : List Inner
  pub exits : List Inner

-- what a view shows: each module is named by its place among the seen modules, and each production by its place among those of the seen modules that the view expands
pub record Shown : Type 0 where
  pub start : ℕ
  pub modules : List ShownModule
  pub productions : List ShownProduction

-- the pairs of an input with the outputs that pass a test
abbrev pub pairs_of_input : ℕ → ℕ → (ℕ → Bool) → List (ℕ × ℕ)
pairs_of_input i outs test = flat_map (λ o. cond (test o) ((i, o) ∷ []) []) (numbers_from 0 outs)

-- the pairs that pass a test, by input and output
abbrev pub pairs_within : ℕ → ℕ → (ℕ → ℕ → Bool) → List (ℕ × ℕ)
pairs_within ins outs test = flat_map (λ i. pairs_of_input i outs (test i)) (numbers_from 0 ins)

-- the perceived pairs of a module that the view does not expand
abbrev pub perceived : Grammar → View → ℕ → Option (List (ℕ × ℕ))
perceived g u m = cond (expands u m) None (Some (pairs_within (inputs_of g m) (outputs_of g m) (shows u m)))

abbrev pub shown_module : Grammar → View → List ℕ → ℕ → ShownModule
shown_module g u ps m =
    record {
      ins = inputs_of g m;
      outs = outputs_of g m;
      pairs = perceived g u m;
      loop = cond (expands u m) (option_map (placed_step ps) (continuing g m)) None;
    }

abbrev pub shown_production : Grammar → List ℕ → ℕ → ShownProduction
shown_production g ms p =
    record {
      head = place_in ms (head_of g p);
      body = map (place_in ms) (body_of g p);
      edges = (production_at g p).edges;
      entries = (production_at g p).entries;
      exits = (production_at g p).exits;
    }

-- what is shown of a grammar, where these are the seen modules and the productions of those that are expanded
abbrev pub shown_of : Grammar → View → List ℕ → List ℕ → Shown
shown_of g u ms ps = record { start = place_in ms g.start; modules = map (shown_module g u ps) ms; productions = map (shown_production g ms) ps }
