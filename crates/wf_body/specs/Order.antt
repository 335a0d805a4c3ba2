-- Orders of the positions of a body.
use Rattle.std.specs.Prelude.{◌↔◌, ℕ, ◌<◌, IsTrue, List, map, length, get_or, take}
use Rattle.wf_model.specs.declared.numbers.PosNo.{PosNo}
use Rattle.wf_model.specs.Lists.{IsIn}
use Rattle.wf_model.specs.Grammar.{Grammar, body_of}
use Rattle.wf_model.specs.WellFormed.{IsFollowedBy}
use Rattle.bool_mat.specs.Matrix.{has}

-- the numbers of positions
abbrev pub positions_of : List PosNo → List ℕ
positions_of = map (λ k. k.0)

-- bit a of word k tells that an edge leads from position a to position k
abbrev pub AreFeeders : Grammar → ℕ → List ℕ → Type 0
AreFeeders g p words = (k a : ℕ) → IsTrue (has (get_or words k 0) a) ↔ IsFollowedBy g p a k

-- the position is not placed, and each of its feeders is
pub record IsNext (feeders : List ℕ) (placed k : ℕ) : Type 0 where
  pub new : IsTrue (has placed k) → ⊥
  pub ready : (a : ℕ) → IsTrue (has (get_or feeders k 0) a) → IsTrue (has placed a)

-- an order of positions of a body in which each comes after those that edges lead to it from
pub record IsForward (g : Grammar) (p : ℕ) (order : List ℕ) : Type 0 where
  pub within : (n : ℕ) → n < length order → get_or order n 0 < length (body_of g p)
  pub forward : (n a : ℕ) → n < length order → IsFollowedBy g p a (get_or order n 0) → IsIn a (take n order)

-- an order of all positions
pub record IsOrder (g : Grammar) (p : ℕ) (order : List ℕ) : Type 0 where
  pub each : IsForward g p order
  pub whole : (k : ℕ) → k < length (body_of g p) → IsIn k order
