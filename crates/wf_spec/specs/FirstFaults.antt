-- Rules that are tried in order, each at its places, and the fault that is told where one is broken.
use Rattle.std.specs.Prelude.{◌≡◌, ◌⊎◌, ℕ, ◌<◌, List, [], ◌∷◌, length, Option, MatchOption}
use Rattle.wf_model.specs.Lists.{IsAt}

-- a rule: what it asks at each of its places, in order, and the fault that is told where this does not hold
pub record Rule (F : Type 0) : Type 1 where
  pub places : ℕ
  pub holds : ℕ → Type 0
  pub fault : ℕ → F

-- a rule that is asked of each element of a list
abbrev pub each : {A F : Type 0} → List A → (A → Type 0) → (ℕ → F) → Rule F
each list Holds told = record { places = length list; holds = λ k. (x : _) → IsAt x k list → Holds x; fault = told }

-- a rule that is asked once
abbrev pub once : {F : Type 0} → Type 0 → F → Rule F
once Holds told = record { places = 1; holds = λ k. Holds; fault = λ k. told }

-- a rule holds at each of its places
abbrev pub HoldsThroughout : {F : Type 0} → Rule F → Type 0
HoldsThroughout r = (k : ℕ) → k < r.places → r.holds k

-- it holds at the places before k, and not at k
pub record FailsFirstAt (places : ℕ) (Holds : ℕ → Type 0) (k : ℕ) : Type 0 where
  pub is_place : k < places
  pub before : (j : ℕ) → j < k → Holds j
  pub fails : ¬ Holds k

-- the answer of a search for the first place at which a rule does not hold
abbrev pub IsFirstFailing : {F : Type 0} → Rule F → Option ℕ → Type 0
IsFirstFailing r answer = MatchOption answer (HoldsThroughout r) (FailsFirstAt r.places r.holds)

-- all rules hold
abbrev pub AllHold : {F : Type 0} → List (Rule F) → Type 0
AllHold [] = Unit {0}
AllHold (r ∷ rs) = HoldsThroughout r × AllHold rs

-- the first place at which one of the rules does not hold has this fault
abbrev pub IsFirstFault : {F : Type 0} → List (Rule F) → F → Type 0
IsFirstFault [] f = ⊥
IsFirstFault (r ∷ rs) f =
    ((k : ℕ) × FailsFirstAt r.places r.holds k × (f ≡ r.fault k)) ⊎
    (HoldsThroughout r × IsFirstFault rs f)
