-- Bytes of which each piece stands behind the piece before, cut where the pieces end.
use Rattle.std.specs.Prelude.{◌≡◌, ℕ, ◌-◌, ◌≤◌, List, [], ◌∷◌, take, drop}

-- the pieces of bytes from a place on, each of which ends at one of these places
abbrev pub pieces : List ℕ → ℕ → List ℕ → List (List ℕ)
pieces bytes from [] = []
pieces bytes from (end ∷ ends) = take (end - from) (drop from bytes) ∷ pieces bytes end ends

-- no piece ends before it begins, and the last ends where the bytes end
abbrev pub AreEnds : ℕ → List ℕ → ℕ → Type 0
AreEnds from [] size = from ≡ size
AreEnds from (end ∷ ends) size = (from ≤ end) × AreEnds end ends size
