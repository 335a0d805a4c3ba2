-- The canonical text of a grammar: its specification in JSON without the given pairs, on one line without spaces, with every member written.
use Rattle.std.specs.Prelude.{ℕ, List, [], ◌++◌, get_or, codes}
use Rattle.std.specs.List.{join_by, zip}
use Rattle.wf_model.specs.Grammar.{Grammar, Module, Position, Inner, Edge, Production, module_at}
use Rattle.wf_model.specs.Items.{dotted}

-- a text in quotes
abbrev pub text_in_quotes : List ℕ → List ℕ
text_in_quotes t = codes "\"" ++ t ++ codes "\""

-- the texts of the items in brackets, with commas between
abbrev pub list_of : {A : Type 0} → (A → List ℕ) → List A → List ℕ
list_of text xs = codes "[" ++ join_by text (codes ",") xs ++ codes "]"

-- two texts in brackets, with a comma between
abbrev pub pair_text : List ℕ → List ℕ → List ℕ
pair_text a b = codes "[" ++ a ++ codes "," ++ b ++ codes "]"

-- the position of this number in a body, and one with no name past the end
abbrev pub position_at : Production → ℕ → Position
position_at r i = get_or r.positions i (record { name = []; module_no = 0 })

-- the module that stands at a position of a body
abbrev pub module_there : Grammar → Production → ℕ → Module
module_there g r i = module_at g (position_at r i).module_no

-- an input of a position, as "position.port"
abbrev pub input_text : Grammar → Production → Inner → List ℕ
input_text g r i = text_in_quotes (dotted (position_at r i.position).name (get_or (module_there g r i.position).inputs i.port []))

-- an output of a position, as "position.port"
abbrev pub output_text : Grammar → Production → Inner → List ℕ
output_text g r i = text_in_quotes (dotted (position_at r i.position).name (get_or (module_there g r i.position).outputs i.port []))

-- a position, as ["position","module"]
abbrev pub position_text : Grammar → Position → List ℕ
position_text g q = pair_text (text_in_quotes q.name) (text_in_quotes (module_at g q.module_no).name)

-- an edge, as ["position.output","position.input"]
abbrev pub edge_text : Grammar → Production → Edge → List ℕ
edge_text g r e = pair_text (output_text g r e.from) (input_text g r e.to)

-- an input of the head and the input to which it leads, as ["input","position.input"]
abbrev pub entry_text : Grammar → Production → List ℕ × Inner → List ℕ
entry_text g r e = pair_text (text_in_quotes e.0) (input_text g r e.1)

-- an output of the head and the output from which it comes, as ["position.output","output"]
abbrev pub exit_text : Grammar → Production → List ℕ × Inner → List ℕ
exit_text g r e = pair_text (output_text g r e.1) (text_in_quotes e.0)

-- a module, with its members `name`, `in` and `out`
abbrev pub module_text : Module → List ℕ
module_text m =
    codes "{\"name\":" ++ text_in_quotes m.name
    ++ codes ",\"in\":" ++ list_of text_in_quotes m.inputs
    ++ codes ",\"out\":" ++ list_of text_in_quotes m.outputs
    ++ codes "}"

-- the inputs of the head, each with the input of a position to which it leads
abbrev pub entries_of : Grammar → Production → List (List ℕ × Inner)
entries_of g r = zip (module_at g r.head).inputs r.entries

-- the outputs of the head, each with the output of a position from which it comes
abbrev pub exits_of : Grammar → Production → List (List ℕ × Inner)
exits_of g r = zip (module_at g r.head).outputs r.exits

-- a production, with its members `head`, `body`, `edges`, `in` (in the order of the head's inputs) and `out` (in the order of its outputs)
abbrev pub production_text : Grammar → Production → List ℕ
production_text g r =
    codes "{\"head\":" ++ text_in_quotes (module_at g r.head).name
    ++ codes ",\"body\":" ++ list_of (position_text g) r.positions
    ++ codes ",\"edges\":" ++ list_of (edge_text g r) r.edges
    ++ codes ",\"in\":" ++ list_of (entry_text g r) (entries_of g r)
    ++ codes ",\"out\":" ++ list_of (exit_text g r) (exits_of g r)
    ++ codes "}"

-- the members `start`, `modules` and `productions` of a grammar
abbrev pub members_of : Grammar → List ℕ
members_of g =
    codes "\"start\":" ++ text_in_quotes (module_at g g.start).name
    ++ codes ",\"modules\":" ++ list_of module_text g.modules
    ++ codes ",\"productions\":" ++ list_of (production_text g) g.productions

-- a grammar, with these members
abbrev pub canonical_of : Grammar → List ℕ
canonical_of g = codes "{" ++ members_of g ++ codes "}"
