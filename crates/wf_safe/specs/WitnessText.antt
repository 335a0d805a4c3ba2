-- How a witness that a view is not safe is told.
use Rattle.std.specs.Prelude.{ℕ, Bool, true, false, List, ◌++◌, flat_map, codes, decimal}
use Rattle.wf_model.specs.Grammar.{Grammar}
use Rattle.grammar_text.specs.Names.{name_of, input_name, output_name}
use Rattle.wf_safe.specs.declared.witness.Choice.{Choice}
use Rattle.wf_safe.specs.declared.witness.Witness.{Witness}

-- the module of a witness and its two productions
abbrev pub productions_text : Grammar → Witness → List ℕ
productions_text g w = (codes "Unsafe module " ++ name_of g w.«module».0) ++ ((codes " one " ++ decimal w.one.0) ++ (codes " other " ++ decimal w.other.0))

-- the pair of a witness: the names of its ports
abbrev pub ports_text : Grammar → Witness → List ℕ
ports_text g w = (codes " input " ++ input_name g w.«module».0 w.input.0) ++ (codes " output " ++ output_name g w.«module».0 w.output.0)

-- which of the two expansions of a witness joins the pair
abbrev pub joined_text : Bool → List ℕ
joined_text true = codes " joined one"
joined_text false = codes " joined other"

-- a choice behind a space: the name of the module and the number of its production
abbrev pub choice_text : Grammar → Choice → List ℕ
choice_text g c = (codes " " ++ name_of g c.«module».0) ++ (codes "=" ++ decimal c.production.0)

-- choices, each behind a space
abbrev pub choices_text : Grammar → List Choice → List ℕ
choices_text g = flat_map (choice_text g)

-- which expansion of a witness joins the pair, and its choice
abbrev pub joined_choice_text : Grammar → Witness → List ℕ
joined_choice_text g w = joined_text w.joined_by_one ++ (codes " choice" ++ choices_text g w.choice)

-- why a view is not safe: the name of the fault, and the witness
abbrev pub unsafe_text : Grammar → Witness → List ℕ
unsafe_text g w = productions_text g w ++ (ports_text g w ++ joined_choice_text g w)
