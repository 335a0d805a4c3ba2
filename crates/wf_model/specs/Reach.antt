-- Reachability between ports far apart in a run, told by their addresses and the pairs assigned to modules alone.
use Rattle.std.specs.Prelude.{◌≡◌, ℕ, ◌<◌, ◌⊎◌, ◌≢◌, ◌↔◌, IsTrue, List, [], ◌∷◌, ◌++◌, length, get_or, Some, None}
use Rattle.wf_model.specs.Grammar.{Grammar, Assignment, inputs_of, outputs_of, head_of, body_of}
use Rattle.wf_model.specs.WellFormed.{IsWellFormed}
use Rattle.wf_model.specs.View.{View, expands, IsSeenModule}
use Rattle.wf_model.specs.declared.event.Event.{Event}
use Rattle.wf_model.specs.Run.{IsRun, expanded_by, root_of}
use Rattle.wf_model.specs.Finishing.{IsFinishing}
use Rattle.wf_model.specs.Links.{input, output, body_links, links_with, links, Path}
use Rattle.wf_model.specs.Safe.{IsExpansion, IsInduced}

-- a step from an instance to a child: a production and a position
pub record Step : Type 0 where
  pub production : ℕ
  pub position : ℕ

-- the module to which a step leads
abbrev pub target_of : Grammar → Step → ℕ
target_of g s = get_or (body_of g s.production) s.position 0

-- the module to which a list of steps leads from m
abbrev pub module_along : Grammar → ℕ → List Step → ℕ
module_along g m [] = m
module_along g m (s ∷ steps) = module_along g (target_of g s) steps

-- in the run, a list of steps leads from the instance n to the instance c, and each instance that it leaves is open
abbrev pub IsAlong : Grammar → View → List Event → List ℕ → List Step → List ℕ → Type 0
IsAlong g u events n [] c = n ≡ c
IsAlong g u events n (s ∷ steps) c =
    (names : List (List ℕ)) × (expanded_by events n ≡ Some (record { production = s.production; names = names })) × (s.position < length names) × IsTrue (expands u (head_of g s.production)) × IsAlong g u events (get_or names s.position []) steps c

-- in a body: a path from an input of the head to an input of a position
abbrev pub Into : Grammar → Assignment → Step → ℕ → ℕ → Type 0
Into g d s i j = (j < inputs_of g (target_of g s)) × Path (body_links g d s.production) (input None i) (input (Some s.position) j)

-- in a body: a path from an output of a position to an output of the head
abbrev pub OutOf : Grammar → Assignment → Step → ℕ → ℕ → Type 0
OutOf g d s j o = (j < outputs_of g (target_of g s)) × Path (body_links g d s.production) (output (Some s.position) j) (output None o)

-- in a body: a path from an output of one position to an input of another. In a well-formed body none leads from a position back to it
abbrev pub Between : Grammar → Assignment → Step → ℕ → ℕ → ℕ → Type 0
Between g d s to j i = Path (body_links g d s.production) (output (Some s.position) j) (input (Some to) i)

-- from input i of m down to output o of what the steps lead to
abbrev pub Down : Grammar → Assignment → ℕ → List Step → ℕ → ℕ → Type 0
Down g d m [] i o = IsTrue (d m i o)
Down g d m (s ∷ steps) i o = (j : ℕ) × Into g d s i j × Down g d (target_of g s) steps j o

-- from input i of what the steps lead to up to output o of m
abbrev pub Up : Grammar → Assignment → ℕ → List Step → ℕ → ℕ → Type 0
Up g d m [] i o = IsTrue (d m i o)
Up g d m (s ∷ steps) i o = (j : ℕ) × OutOf g d s j o × Up g d (target_of g s) steps i j

-- From input i of what the first steps lead to, to output o of what the second steps lead to.
-- The two have a longest common beginning; then it goes up, across one body, and down
abbrev pub Reaches : Grammar → Assignment → ℕ → List Step → List Step → ℕ → ℕ → Type 0
Reaches g d m [] b i o = Down g d m b i o
Reaches g d m (s ∷ a) [] i o = Up g d m (s ∷ a) i o
Reaches g d m (s ∷ a) (t ∷ b) i o =
    ((s.position ≡ t.position) × Reaches g d (target_of g s) a b i o) ⊎
    ((s.position ≢ t.position) × ((j : ℕ) × (k : ℕ) × (j < outputs_of g (target_of g s)) × (k < inputs_of g (target_of g t)) × Up g d (target_of g s) a i j × Between g d s t.position j k × Down g d (target_of g t) b k o))

-- a path in an expansion leads from an input of one instance to an output of another exactly if the addresses and the assigned pairs tell so
abbrev pub CrossingLaw : Type 0
CrossingLaw =
    (g : Grammar) (u : View) (d : Assignment) → IsWellFormed g → IsInduced g u d →
    (m : ℕ) → IsSeenModule g u m → (e : List Event) → IsExpansion g u m e →
    (a b : List Step) (x y : List ℕ) → IsAlong g u e (root_of e) a x → IsAlong g u e (root_of e) b y →
    (i o : ℕ) → i < inputs_of g (module_along g m a) → o < outputs_of g (module_along g m b) →
    Path (links g u m e) (input x i) (output y o) ↔ Reaches g d m a b i o

-- Let pending instances have the pairs assigned to their modules. Then an unfinished run has the paths of each of its finishings
abbrev pub PendingLaw : Type 0
PendingLaw =
    (g : Grammar) (u : View) (d : Assignment) → IsWellFormed g → IsInduced g u d →
    (m : ℕ) → IsSeenModule g u m → (e more : List Event) → e ≢ [] → IsRun g m e → IsFinishing g u m e more →
    (a b : List Step) (x y : List ℕ) → IsAlong g u e (root_of e) a x → IsAlong g u e (root_of e) b y →
    (i o : ℕ) → i < inputs_of g (module_along g m a) → o < outputs_of g (module_along g m b) →
    Path (links_with g u d m e) (input x i) (output y o) ↔ Path (links g u m (e ++ more)) (input x i) (output y o)
