-- The view that parts describe: which modules it expands, and the pairs that it shows of the others.
use Rattle.std.specs.Prelude.{ℕ, Bool, cond, ◌&&◌, List, [], ◌∷◌, map, length, get_or, Option, Some, None, bytes_eq}
use Rattle.std.specs.List.{filter, flat_map}
use Rattle.wf_model.specs.declared.parts.ViewParts.{ViewParts}
use Rattle.wf_model.specs.declared.parts.DepsPart.{DepsPart}
use Rattle.wf_model.specs.declared.parts.PairPart.{PairPart}
use Rattle.wf_model.specs.Lists.{some, numbers_from}
use Rattle.wf_model.specs.Composite.{is_composite}
use Rattle.wf_model.specs.Grammar.{Grammar, module_at, inputs_of, outputs_of, is_given}
use Rattle.wf_model.specs.View.{View}
pub use Rattle.grammar_text.specs.Names.{name_of, input_name, output_name}

-- a module is among those that a list names; where there is no list, it is composite
abbrev pub is_among : Grammar → Option (List (List ℕ)) → ℕ → Bool
is_among g None m = is_composite g m
is_among g (Some names) m = some (bytes_eq (name_of g m)) names

-- parts of a view expand a module: they name it, or name none at all and it is composite
abbrev pub is_expanded : Grammar → ViewParts → ℕ → Bool
is_expanded g parts m = is_among g parts.expand m

-- a deps part is about a module
abbrev pub is_about : Grammar → ℕ → DepsPart → Bool
is_about g m d = bytes_eq (name_of g m) d.«module»

-- a pair names these two ports of a module
abbrev pub is_pair : Grammar → ℕ → ℕ → ℕ → PairPart → Bool
is_pair g m i o e = bytes_eq (input_name g m i) e.input && bytes_eq (output_name g m o) e.output

-- The pairs that are shown of a module: those that its deps part names. Where no part is about it, an atomic module keeps the pairs of the grammar and a composite one has all pairs; no pairs are given to a composite module, so both are the pairs of the grammar
abbrev pub is_shown : Grammar → List DepsPart → ℕ → ℕ → ℕ → Bool
is_shown g deps m i o =
    cond (some (is_about g m) deps)
    (some (λ (d : DepsPart). is_about g m d && some (is_pair g m i o) d.pairs) deps)
    (is_given g.given m i o)

-- pairs of a module that pass a test, by input and output
abbrev pub pairs_by : Grammar → ℕ → (ℕ → ℕ → Bool) → List (ℕ × ℕ)
pairs_by g m test =
    flat_map (λ i. flat_map (λ o. cond (test i o) ((i, o) ∷ []) []) (numbers_from 0 (outputs_of g m)))
    (numbers_from 0 (inputs_of g m))

-- the pairs that parts of a view show of a module; none of a module that they expand
abbrev pub shown_pairs : Grammar → ViewParts → ℕ → List (ℕ × ℕ)
shown_pairs g parts m = cond (is_expanded g parts m) [] (pairs_by g m (is_shown g parts.deps m))

-- the view that parts describe
abbrev pub view_of : Grammar → ViewParts → View
view_of g parts = record {
  expanded = filter (is_expanded g parts) (numbers_from 0 (length g.modules));
  shown = map (shown_pairs g parts) (numbers_from 0 (length g.modules));
}
