-- The view that shows all: it expands every composite module, and an atomic one keeps the pairs of the grammar.
use Rattle.std.specs.Prelude.{ℕ, cond, List, [], ◌∷◌, map, length, flat_map}
use Rattle.wf_model.specs.Lists.{numbers_from}
use Rattle.wf_model.specs.Grammar.{Grammar, Production, inputs_of, outputs_of, is_given}
use Rattle.wf_model.specs.View.{View}

-- the modules that head a production
abbrev pub composites : Grammar → List ℕ
composites g = map (λ (r : Production). r.head) g.productions

-- the pairs of a module by the grammar, by input and output
abbrev pub given_pairs : Grammar → ℕ → List (ℕ × ℕ)
given_pairs g m =
    flat_map (λ i. flat_map (λ o. cond (is_given g.given m i o) ((i, o) ∷ []) []) (numbers_from 0 (outputs_of g m)))
    (numbers_from 0 (inputs_of g m))

-- the default view of a grammar
abbrev pub default_view : Grammar → View
default_view g = record { expanded = composites g; shown = map (given_pairs g) (numbers_from 0 (length g.modules)) }
