-- The legs of an address in a grammar, and numbers of its components and cycles.
use Rattle.std.specs.Prelude.{◌≡◌, ℕ, ◌+◌, ◌*◌, ◌<◌, List, [], ◌∷◌}
use Rattle.wf_model.specs.Grammar.{Grammar}
use Rattle.wf_model.specs.Proper.{Derives}
use Rattle.wf_model.specs.Reach.{Step, target_of}
use Rattle.wf_model.specs.Linear.{IsStepOf, Continues, IsOnCycle}
use Rattle.label_model.specs.Bound.{components, cycles}
use Rattle.decode_model.specs.Legs.{Leg, One, Chain, Part}

-- The legs of a place from the module m, with the last step into the position where its item is consumed or produced. They are steps that do not continue, but for the last, which may; before each of them there may be one chain, from a module on a cycle to a module of that cycle
pub data IsLegsOfPlace (g : Grammar) : ℕ → List Leg → Type 0 where
  ends : {m : ℕ} (s : Step) → IsStepOf g m s → IsLegsOfPlace g m (One s ∷ [])
  goes : {m : ℕ} {legs : List Leg} (s : Step) → IsStepOf g m s → (Continues g m s → ⊥) → IsLegsOfPlace g (target_of g s) legs → IsLegsOfPlace g m (One s ∷ legs)
  ends_after : {m : ℕ} {round : List Step} {c : ℕ} (n : ℕ) (s : Step) → IsOnCycle g m → Derives g m n → Derives g n m → IsStepOf g n s → IsLegsOfPlace g m (Chain m round c ∷ One s ∷ [])
  goes_after : {m : ℕ} {round : List Step} {c : ℕ} {legs : List Leg} (n : ℕ) (s : Step) → IsOnCycle g m → Derives g m n → Derives g n m → IsStepOf g n s → (Continues g n s → ⊥) → IsLegsOfPlace g (target_of g s) legs → IsLegsOfPlace g m (Chain m round c ∷ One s ∷ legs)
  ends_part : {m : ℕ} {steps : List Step} (n : ℕ) (s : Step) → IsOnCycle g m → Derives g m n → Derives g n m → IsStepOf g n s → IsLegsOfPlace g m (Part m steps ∷ One s ∷ [])
  goes_part : {m : ℕ} {steps : List Step} {legs : List Leg} (n : ℕ) (s : Step) → IsOnCycle g m → Derives g m n → Derives g n m → IsStepOf g n s → (Continues g n s → ⊥) → IsLegsOfPlace g (target_of g s) legs → IsLegsOfPlace g m (Part m steps ∷ One s ∷ legs)

-- numbers below h for the modules of a kind, two with one number deriving each other
pub record Numbers (g : Grammar) (Kind : ℕ → Type 0) (number : ℕ → ℕ) (h : ℕ) : Type 0 where
  pub below : (m : ℕ) → Kind m → number m < h
  pub same : (m n : ℕ) → Kind m → Kind n → number m ≡ number n → Derives g m n

-- the most row products of a query, where no cycle is longer than l: twice one more than there are strong components, and for each cycle twice 24 and l
abbrev pub most_products : Grammar → ℕ → ℕ
most_products g l = 2 * (components g + 1) + 2 * cycles g * (24 + l)
