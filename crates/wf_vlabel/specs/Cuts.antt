-- Where a chain of continuing steps leaves what a view expands.
use Rattle.std.specs.Prelude.{◌≡◌, ◌<◌, ◌+◌, ℕ, Bool, true, false, IsTrue, Option, Some, None}
use Rattle.wf_model.specs.Grammar.{Grammar}
use Rattle.label_model.specs.Continuing.{after}

-- How many continuing steps lead from the module m to the first module that is not expanded; none where none of them leads to one
abbrev pub IsCut : Grammar → (ℕ → Bool) → ℕ → Option ℕ → Type 0
IsCut g expanded m None = (k : ℕ) → IsTrue (expanded (after g k m))
IsCut g expanded m (Some n) = (expanded (after g n m) ≡ false) × ((k : ℕ) → k < n → IsTrue (expanded (after g k m)))

-- the same for the modules to which fewer than so many steps lead
abbrev pub IsCutWithin : Grammar → (ℕ → Bool) → ℕ → ℕ → Option ℕ → Type 0
IsCutWithin g expanded m bound None = (k : ℕ) → k < bound → IsTrue (expanded (after g k m))
IsCutWithin g expanded m bound (Some n) = (n < bound) × (expanded (after g n m) ≡ false) × ((k : ℕ) → k < n → IsTrue (expanded (after g k m)))

-- what it is for a module that is expanded or not, from what it is for the next
abbrev pub cut_before : Bool → Option ℕ → Option ℕ
cut_before false next = Some 0
cut_before true None = None
cut_before true (Some n) = Some (n + 1)
