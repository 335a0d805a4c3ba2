-- Texts that are written piece by piece.
use Rattle.std.specs.Prelude.{◌<◌, ℕ, List, [], ◌++◌, get_or, take, codes, OnOk}
use Rattle.std.specs.List.{join_by}
use Rattle.std.specs.Borrow.{MutBor}
use Rattle.std.specs.declared.result.Result.{Result}
use Rattle.wf_model.specs.Grammar.{Grammar, Edge, Inner, Production, module_at}
use Rattle.wf_model.specs.Items.{dotted}
use Rattle.wf_model.specs.Lists.{numbers_from}
use Rattle.wf_json.specs.Canonical.{entries_of, exits_of, list_of, module_text, module_there, position_at, production_text, text_in_quotes}

-- what had taken a text has taken it with this piece behind it
pub record Takes {S : Type 0} (holds : S → List ℕ → Type 0) (old new : S) (piece : List ℕ) : Type 0 where
  pub taken : (text : List ℕ) → holds old text → holds new (text ++ piece)

-- each call at a number below count writes the text of the number, where it ends well
abbrev pub TakesTexts : {S E : Type 0} → (S → List ℕ → Type 0) → (MutBor S → ℕ → Result (Unit {0}) E → MutBor S → Type 0) → ℕ → (ℕ → List ℕ) → Type 0
TakesTexts {S} {E} holds post count text = (v : MutBor S) (k : ℕ) (r : Result (Unit {0}) E) (w : MutBor S) → k < count → post v k r w → OnOk r (Takes holds v.now w.now (text k))

-- the texts of the numbers below count, with commas between
abbrev pub joined_texts : (ℕ → List ℕ) → ℕ → List ℕ
joined_texts text count = join_by text (codes ",") (numbers_from 0 count)

-- the texts of the numbers below count, as a list
abbrev pub listed_texts : (ℕ → List ℕ) → ℕ → List ℕ
listed_texts text count = list_of text (numbers_from 0 count)

-- the first port of the first position
abbrev pub first_port : Inner
first_port = record { position = 0; port = 0 }

-- the edge of this number, and one between first ports past the end
abbrev pub edge_at : Production → ℕ → Edge
edge_at r k = get_or r.edges k (record { from = first_port; to = first_port })

-- the entry of this number with the head's input, and one from no name past the end
abbrev pub entry_at : Grammar → Production → ℕ → List ℕ × Inner
entry_at g r k = get_or (entries_of g r) k ([], first_port)

-- the exit of this number with the head's output, and one to no name past the end
abbrev pub exit_at : Grammar → Production → ℕ → List ℕ × Inner
exit_at g r k = get_or (exits_of g r) k ([], first_port)

-- an input of a position, by the names of both with a dot between
abbrev pub input_name : Grammar → Production → Inner → List ℕ
input_name g r i = dotted (position_at r i.position).name (get_or (module_there g r i.position).inputs i.port [])

-- an output of a position, by the names of both with a dot between
abbrev pub output_name : Grammar → Production → Inner → List ℕ
output_name g r i = dotted (position_at r i.position).name (get_or (module_there g r i.position).outputs i.port [])

-- the members of a grammar with its first m modules and its first p productions alone
abbrev pub first_members : Grammar → ℕ → ℕ → List ℕ
first_members g m p =
    codes "\"start\":" ++ text_in_quotes (module_at g g.start).name
    ++ codes ",\"modules\":" ++ list_of module_text (take m g.modules)
    ++ codes ",\"productions\":" ++ list_of (production_text g) (take p g.productions)

-- its canonical text
abbrev pub first_text : Grammar → ℕ → ℕ → List ℕ
first_text g m p = codes "{" ++ first_members g m p ++ codes "}"
