-- Routes from one vertex to another, and the first of the shortest.
use Rattle.std.specs.Prelude.{◌≡◌, ℕ, suc, ◌<◌, ◌≤◌, ◌==◌, ◌⊎◌, cond, List, [], ◌∷◌, length}
use Rattle.wf_model.specs.Lists.{IsIn}

-- vertices that follow one another behind a, up to b; each is one of those to which the vertex before it leads
abbrev pub IsRoute : (ℕ → List ℕ) → ℕ → List ℕ → ℕ → Type 0
IsRoute row a [] b = a ≡ b
IsRoute row a (w ∷ ws) b = IsIn w (row a) × IsRoute row w ws b

-- each vertex leads to vertices alone, of which there are so many
abbrev pub AreInRange : (ℕ → List ℕ) → ℕ → Type 0
AreInRange row count = (v w : ℕ) → IsIn w (row v) → w < count

-- how many elements stand before the first x
abbrev pub place_of : ℕ → List ℕ → ℕ
place_of x [] = 0
place_of x (y ∷ ys) = cond (x == y) 0 (suc (place_of x ys))

-- the choices of a route: at each vertex, the place of the next one among those to which it leads
abbrev pub choices_of : (ℕ → List ℕ) → ℕ → List ℕ → List ℕ
choices_of row a [] = []
choices_of row a (w ∷ ws) = place_of w (row a) ∷ choices_of row w ws

-- the one list is the other, or has the lesser number where they first differ
abbrev pub IsFirstOf : List ℕ → List ℕ → Type 0
IsFirstOf [] qs = Unit {0}
IsFirstOf (p ∷ ps) [] = ⊥
IsFirstOf (p ∷ ps) (q ∷ qs) = (p < q) ⊎ ((p ≡ q) × IsFirstOf ps qs)

-- a route of at least one step from a to b: no other is shorter, and of those as short it is the first by its choices
pub record IsFirstShortest (row : ℕ → List ℕ) (a b : ℕ) (ws : List ℕ) : Type 0 where
  pub some : 0 < length ws
  pub route : IsRoute row a ws b
  pub shortest : (us : List ℕ) → 0 < length us → IsRoute row a us b → length ws ≤ length us
  pub first : (us : List ℕ) → IsRoute row a us b → length us ≡ length ws → IsFirstOf (choices_of row a ws) (choices_of row a us)
