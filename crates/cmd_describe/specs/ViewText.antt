-- The text that `view` writes of a safe view.
use Rattle.std.specs.Prelude.{◌↔◌, ◌<◌, ℕ, Bool, cond, IsTrue, List, [], ◌++◌, length, codes}
use Rattle.std.specs.List.{filter, flat_map}
use Rattle.wf_model.specs.Lists.{numbers_from}
use Rattle.wf_model.specs.Grammar.{Grammar, Assignment, inputs_of, outputs_of}
use Rattle.wf_model.specs.View.{View, expands, IsSeenModule}
use Rattle.grammar_text.specs.Names.{name_of, input_name, output_name}

-- a pair of ports of a module, by their names, behind a space
abbrev pub pair_text : Grammar → ℕ → ℕ → ℕ → List ℕ
pair_text g m i o = (codes " " ++ input_name g m i) ++ (codes ">" ++ output_name g m o)

-- the pairs of a module with this input, by output
abbrev pub row_text : Grammar → Assignment → ℕ → ℕ → List ℕ
row_text g d m i = flat_map (λ o. cond (d m i o) (pair_text g m i o) []) (numbers_from 0 (outputs_of g m))

-- the pairs of a module, by input and output
abbrev pub pairs_text : Grammar → Assignment → ℕ → List ℕ
pairs_text g d m = flat_map (row_text g d m) (numbers_from 0 (inputs_of g m))

-- whether a module is expanded or shown
abbrev pub state_text : Bool → List ℕ
state_text expanded = cond expanded (codes " expanded") (codes " shown")

-- the line of a seen module: its name, whether it is expanded or shown, and its pairs
abbrev pub module_line : Grammar → View → Assignment → ℕ → List ℕ
module_line g u d m = (name_of g m ++ state_text (expands u m)) ++ (pairs_text g d m ++ codes "\n")

-- a test tells which modules are seen
abbrev pub IsSeenTest : Grammar → View → (ℕ → Bool) → Type 0
IsSeenTest g u seen = (m : ℕ) → m < length g.modules → IsTrue (seen m) ↔ IsSeenModule g u m

-- the lines of the seen modules, in order
abbrev pub view_text_of : Grammar → View → (ℕ → Bool) → Assignment → List ℕ
view_text_of g u seen d = flat_map (module_line g u d) (filter seen (numbers_from 0 (length g.modules)))
