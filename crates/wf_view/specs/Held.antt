-- What contracts see of a view, and when it is one of a grammar.
use Rattle.std.specs.Prelude.{◌≡◌, ◌↔◌, ◌<◌, ◌^◌, ℕ, Bool, false, cond, IsTrue, List, [], ◌∷◌, map, length, get_or, ◌==◌}
use Rattle.std.specs.List.{All, filter, flat_map}
use Rattle.wf_model.specs.Lists.{numbers_from}
use Rattle.wf_model.specs.Grammar.{Grammar, inputs_of, outputs_of}
use Rattle.wf_model.specs.View.{View, expands, shows, IsSeenModule, IsViewOf}
use Rattle.std.specs.Int.{bit_at}

-- a view, with a flag for each module that tells whether it is seen, and the rows of the pairs that are shown of each
pub record HeldView : Type 0 where
  pub core : View
  pub seen : List Bool
  pub rows : List (List ℕ)

-- rows of bits that say which pairs a view shows of a module: a row for each input, a bit for each output, and no further bits
pub record AreShownRows (g : Grammar) (u : View) (m : ℕ) (rows : List ℕ) : Type 0 where
  pub one_each : length rows ≡ inputs_of g m
  pub bits : (i o : ℕ) → i < inputs_of g m → o < outputs_of g m → (bit_at (get_or rows i 0) o == 1) ≡ shows u m i o
  pub no_more : All (λ r. r < 2 ^ outputs_of g m) rows

-- the view is one of the grammar, and its flags and rows are those of the modules
pub record IsHeldFor (g : Grammar) (v : HeldView) : Type 0 where
  pub is_view : IsViewOf g v.core
  pub one_flag_each : length v.seen ≡ length g.modules
  pub seen : (m : ℕ) → m < length g.modules → IsTrue (get_or v.seen m false) ↔ IsSeenModule g v.core m
  pub rows_each : length v.rows ≡ length g.modules
  pub rows : (m : ℕ) → m < length g.modules → expands v.core m ≡ false → AreShownRows g v.core m (get_or v.rows m [])

-- the numbers of the flags that are set
abbrev pub flagged : List Bool → List ℕ
flagged flags = filter (λ m. get_or flags m false) (numbers_from 0 (length flags))

-- the pairs whose bits are set, by input and output; a row has 64 bits
abbrev pub pairs_in : List ℕ → List (ℕ × ℕ)
pairs_in rows =
    flat_map (λ i. flat_map (λ o. cond (bit_at (get_or rows i 0) o == 1) ((i, o) ∷ []) []) (numbers_from 0 64))
    (numbers_from 0 (length rows))

-- the view that expands the flagged modules, and shows of each module the pairs in its rows
abbrev pub view_of_rows : List Bool → List (List ℕ) → View
view_of_rows flags rows = record { expanded = flagged flags; shown = map pairs_in rows }

-- this view as contracts see it, with flags of the modules that are seen
abbrev pub held_by : List Bool → List Bool → List (List ℕ) → HeldView
held_by flags seen rows = record { core = view_of_rows flags rows; seen = seen; rows = rows }
