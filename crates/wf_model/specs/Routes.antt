-- Addresses without a run, and runs that have them.
use Rattle.std.specs.Prelude.{◌≡◌, ℕ, ◌<◌, List, [], ◌∷◌, length, get_or, Some}
use Rattle.wf_model.specs.Grammar.{Grammar, body_of, head_of}
use Rattle.wf_model.specs.WellFormed.{IsWellFormed}
use Rattle.wf_model.specs.declared.event.Event.{Event}
use Rattle.wf_model.specs.Run.{IsRun, expanded_by, root_of}
use Rattle.wf_model.specs.Reach.{Step, target_of}

-- in the run, the steps lead from the instance n to the instance c
abbrev pub IsAddress : List Event → List ℕ → List Step → List ℕ → Type 0
IsAddress events n [] c = n ≡ c
IsAddress events n (s ∷ steps) c =
    (names : List (List ℕ)) × (expanded_by events n ≡ Some (record { production = s.production; names = names })) × (s.position < length names) × IsAddress events (get_or names s.position []) steps c

-- steps that an instance of m could be left by
abbrev pub IsRoute : Grammar → ℕ → List Step → Type 0
IsRoute g m [] = Unit {0}
IsRoute g m (s ∷ steps) =
    (s.production < length g.productions) × (head_of g s.production ≡ m) × (s.position < length (body_of g s.production)) × IsRoute g (target_of g s) steps

-- two lists of steps that name one production wherever both leave one instance
abbrev pub Agree : List Step → List Step → Type 0
Agree [] b = Unit {0}
Agree (s ∷ a) [] = Unit {0}
Agree (s ∷ a) (t ∷ b) = (s.production ≡ t.production) × (s.position ≡ t.position → Agree a b)

-- one address in a run for each instance
abbrev pub AddressLaw : Type 0
AddressLaw =
    (g : Grammar) → IsWellFormed g → (m : ℕ) (events : List Event) → IsRun g m events → (a b : List Step) (x : List ℕ) →
    IsAddress events (root_of events) a x → IsAddress events (root_of events) b x → a ≡ b

-- some run has both of two routes that agree
abbrev pub RoutesLaw : Type 0
RoutesLaw =
    (g : Grammar) → IsWellFormed g → (m : ℕ) (a b : List Step) → IsRoute g m a → IsRoute g m b → Agree a b →
    (events : List Event) × IsRun g m events × ((x : List ℕ) × IsAddress events (root_of events) a x) × ((y : List ℕ) × IsAddress events (root_of events) b y)
