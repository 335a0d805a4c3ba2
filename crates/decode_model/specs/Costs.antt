-- How many row products a way takes at most, and what is left of a way.
use Rattle.std.specs.Prelude.{◌≡◌, ℕ, ◌+◌, ◌<◌, ◌≤◌, List, [], ◌∷◌, ◌++◌, length}
use Rattle.wf_model.specs.Reach.{Step}
use Rattle.decode_model.specs.Legs.{Leg, One, Chain, Part}

-- the most row products of a leg, where no cycle is longer than l
abbrev pub leg_cost : ℕ → Leg → ℕ
leg_cost l (One s) = 1
leg_cost l (Chain m round c) = 23 + l
leg_cost l (Part m steps) = 23 + l

-- the most row products of a way
abbrev pub cost : ℕ → List Leg → ℕ
cost l [] = 0
cost l (leg ∷ legs) = leg_cost l leg + cost l legs

-- the round of a chain has at most l steps, and so have continuing steps one by one
abbrev pub IsShortLeg : ℕ → Leg → Type 0
IsShortLeg l (One s) = Unit {0}
IsShortLeg l (Chain m round c) = (0 < length round) × (length round ≤ l)
IsShortLeg l (Part m steps) = length steps ≤ l

-- so it is with each leg of a way
abbrev pub AreShort : ℕ → List Leg → Type 0
AreShort l [] = Unit {0}
AreShort l (leg ∷ legs) = IsShortLeg l leg × AreShort l legs

-- What is left of legs after their beginning: all of them, or what is left of the later ones; or the first is a chain of which a chain with as long a round and no more steps is left, or steps one by one of which the later ones are left
pub data IsLeft : List Leg → List Leg → Type 0 where
  all : {legs : List Leg} → IsLeft legs legs
  later : {leg : Leg} {rest legs : List Leg} → IsLeft rest legs → IsLeft rest (leg ∷ legs)
  of_chain : {m n c k : ℕ} {round turned : List Step} {legs : List Leg} → length turned ≡ length round → k ≤ c → IsLeft (Chain n turned k ∷ legs) (Chain m round c ∷ legs)
  of_part : {m n : ℕ} {steps : List Step} {legs : List Leg} (gone : List Step) → IsLeft (Part n steps ∷ legs) (Part m (gone ++ steps) ∷ legs)
