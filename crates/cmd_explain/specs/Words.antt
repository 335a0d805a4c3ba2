-- The words of `lineage`, `impact`, `explain` and `verify`.
use Rattle.std.specs.Prelude.{ℕ, Bool, false, cond, ◌==◌, ◌&&◌, List, [], ◌∷◌, ◌++◌, Option, Some, None, bytes_eq, codes}
use Rattle.wf_model.specs.Faults.{is_short_name}

-- bytes, behind those of an instance so far, are the name of an item: at their first dot two names meet
abbrev pub is_item_behind : List ℕ → List ℕ → Bool
is_item_behind instance [] = false
is_item_behind instance (b ∷ bs) = cond (b == 46) (is_short_name instance && is_short_name bs) (is_item_behind (instance ++ b ∷ []) bs)

-- a word is the name of an item
abbrev pub is_item_name : List ℕ → Bool
is_item_name word = is_item_behind [] word

-- a command, by the names of the files that it reads, and the names of items
pub data Command : Type 0 where
  Lineage : List ℕ → List ℕ → List ℕ → List ℕ → Command
  Impact : List ℕ → List ℕ → List ℕ → List ℕ → Command
  Explain : List ℕ → List ℕ → List ℕ → List ℕ → List ℕ → Command
  Verify : List ℕ → List ℕ → List ℕ → List ℕ → Command

-- the command of five words that lists, if they are one: its name, a word for each file, and the name of an item
abbrev pub listing_of : List ℕ → List ℕ → List ℕ → List ℕ → List ℕ → Option Command
listing_of c s v l x =
    cond (is_item_name x) (cond (bytes_eq c (codes "lineage")) (Some (Lineage s v l x)) (cond (bytes_eq c (codes "impact")) (Some (Impact s v l x)) None)) None

-- the command of five words
abbrev pub of_five : List ℕ → List ℕ → List ℕ → List ℕ → List ℕ → Option Command
of_five c s v l x = cond (bytes_eq c (codes "verify")) (Some (Verify s v l x)) (listing_of c s v l x)

-- that of six words: the names of two items
abbrev pub explaining_of : List ℕ → List ℕ → List ℕ → List ℕ → List ℕ → List ℕ → Option Command
explaining_of c s v e x y = cond (bytes_eq c (codes "explain")) (cond (is_item_name x) (cond (is_item_name y) (Some (Explain s v e x y)) None) None) None

-- the command that words are, if they are one of these
abbrev pub command_of : List (List ℕ) → Option Command
command_of [] = None
command_of (c ∷ []) = None
command_of (c ∷ s ∷ []) = None
command_of (c ∷ s ∷ v ∷ []) = None
command_of (c ∷ s ∷ v ∷ l ∷ []) = None
command_of (c ∷ s ∷ v ∷ l ∷ x ∷ []) = of_five c s v l x
command_of (c ∷ s ∷ v ∷ e ∷ x ∷ y ∷ []) = explaining_of c s v e x y
command_of (c ∷ s ∷ v ∷ e ∷ x ∷ y ∷ w ∷ ws) = None

-- the names of the files that a command reads, in their order
abbrev pub files_of : Command → List (List ℕ)
files_of (Lineage s v l x) = s ∷ v ∷ l ∷ []
files_of (Impact s v l x) = s ∷ v ∷ l ∷ []
files_of (Explain s v e x y) = s ∷ v ∷ e ∷ []
files_of (Verify s v e c) = s ∷ v ∷ e ∷ c ∷ []
