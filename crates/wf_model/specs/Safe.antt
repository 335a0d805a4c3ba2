-- Expansions of a module, safe views, and the full assignment.
use Rattle.std.specs.Prelude.{◌≡◌, ℕ, zero, suc, ◌<◌, ◌↔◌, ◌⊎◌, IsTrue, true, false, List, [], length, ◌≢◌, Some, None}
use Rattle.wf_model.specs.Grammar.{Grammar, Assignment, inputs_of, outputs_of, head_of, body_of, IsProductionOf}
use Rattle.wf_model.specs.WellFormed.{IsWellFormed}
use Rattle.wf_model.specs.View.{View, expands, shows, IsSeenModule}
use Rattle.wf_model.specs.Lists.{IsIn}
use Rattle.wf_model.specs.declared.event.Event.{Event}
use Rattle.wf_model.specs.Run.{Instance, Expanded, expanded_by, seen_in, IsRun, IsFinished, root_of}
use Rattle.wf_model.specs.Links.{links, body_links, Path, input, output}

-- an expansion of m: a finished run from m that has its start event
pub record IsExpansion (g : Grammar) (u : View) (m : ℕ) (events : List Event) : Type 0 where
  pub run : IsRun g m events
  pub started : events ≢ []
  pub finished : IsFinished g u m events

-- a run joins an input to an output of its module where a path joins these ports of its root
abbrev pub Joins : Grammar → View → ℕ → List Event → ℕ → ℕ → Type 0
Joins g u m events i o = Path (links g u m events) (input (root_of events) i) (output (root_of events) o)

-- a body joins an input to an output of its head, where its positions have the pairs assigned
abbrev pub BodyJoins : Grammar → Assignment → ℕ → ℕ → ℕ → Type 0
BodyJoins g d p i o = Path (body_links g d p) (input None i) (output None o)

-- a view is safe where, for each seen module, all its expansions join the same inputs to the same outputs
abbrev pub IsSafe : Grammar → View → Type 0
IsSafe g u =
    (m : ℕ) → IsSeenModule g u m → (e f : List Event) → IsExpansion g u m e → IsExpansion g u m f → (i o : ℕ) → i < inputs_of g m → o < outputs_of g m → Joins g u m e i o → Joins g u m f i o

-- the full assignment: each expansion of each seen module joins exactly the pairs assigned to it
abbrev pub IsFull : Grammar → View → Assignment → Type 0
IsFull g u d =
    (m : ℕ) → IsSeenModule g u m → (e : List Event) → IsExpansion g u m e → (i o : ℕ) → i < inputs_of g m → o < outputs_of g m → IsTrue (d m i o) ↔ Joins g u m e i o

-- an assignment that the productions induce: the perceived pairs for a seen module that is not expanded, and for an expanded one the pairs that each of its bodies joins
pub record IsInduced (g : Grammar) (u : View) (d : Assignment) : Type 0 where
  pub shown : (m : ℕ) → IsSeenModule g u m → expands u m ≡ false → (i o : ℕ) → i < inputs_of g m → o < outputs_of g m → d m i o ≡ shows u m i o
  pub induced : (p : ℕ) → p < length g.productions → IsSeenModule g u (head_of g p) → IsTrue (expands u (head_of g p)) → (i o : ℕ) → i < inputs_of g (head_of g p) → o < outputs_of g (head_of g p) → IsTrue (d (head_of g p) i o) ↔ BodyJoins g d p i o

-- a choice of productions for modules: the pairs (module, production)
abbrev pub IsChosen : List (ℕ × ℕ) → ℕ → ℕ → Type 0
IsChosen choice m p = IsIn (m, p) choice

-- each open instance of the run is expanded as chosen
abbrev pub IsBy : Grammar → View → ℕ → (ℕ → ℕ → Type 0) → List Event → Type 0
IsBy g u m Chosen events =
    (j : Instance) → IsIn j (seen_in g u m events) → IsTrue (expands u j.module_no) → (x : Expanded) → expanded_by events j.name ≡ Some x → Chosen j.module_no x.production

-- an assignment that passes the tests of the chosen productions
pub record IsInducedBy (g : Grammar) (u : View) (Chosen : ℕ → ℕ → Type 0) (d : Assignment) : Type 0 where
  pub shown : (m : ℕ) → IsSeenModule g u m → expands u m ≡ false → (i o : ℕ) → i < inputs_of g m → o < outputs_of g m → d m i o ≡ shows u m i o
  pub induced : (p : ℕ) → p < length g.productions → Chosen (head_of g p) p → IsSeenModule g u (head_of g p) → IsTrue (expands u (head_of g p)) → (i o : ℕ) → i < inputs_of g (head_of g p) → o < outputs_of g (head_of g p) → IsTrue (d (head_of g p) i o) ↔ BodyJoins g d p i o

-- A run in which each seen instance that is not open has the pairs assigned to its module: nothing is pending, or pending modules have them too
pub record IsFilled (g : Grammar) (u : View) (leaf d : Assignment) (m : ℕ) (e : List Event) : Type 0 where
  pub run : IsRun g m e
  pub started : e ≢ []
  pub filled : IsFinished g u m e ⊎ ((m : ℕ) → IsSeenModule g u m → expands u m ≡ true → (i o : ℕ) → i < inputs_of g m → o < outputs_of g m → d m i o ≡ leaf m i o)

-- an assignment that has the leaves' pairs, and passes the tests of the chosen productions
pub record Passes (g : Grammar) (u : View) (leaf : Assignment) (Chosen : ℕ → ℕ → Type 0) (d : Assignment) : Type 0 where
  pub shown : (m : ℕ) → IsSeenModule g u m → expands u m ≡ false → (i o : ℕ) → i < inputs_of g m → o < outputs_of g m → d m i o ≡ leaf m i o
  pub induced : (p : ℕ) → p < length g.productions → Chosen (head_of g p) p → IsSeenModule g u (head_of g p) → IsTrue (expands u (head_of g p)) → (i o : ℕ) → i < inputs_of g (head_of g p) → o < outputs_of g (head_of g p) → IsTrue (d (head_of g p) i o) ↔ BodyJoins g d p i o

-- by chosen productions a module is expanded whole in n rounds at most
abbrev pub Ends : Grammar → View → (ℕ → ℕ → Type 0) → ℕ → ℕ → Type 0
Ends g u Chosen zero m = expands u m ≡ false
Ends g u Chosen (suc n) m = (expands u m ≡ false) ⊎ ((p : ℕ) × Chosen m p × IsProductionOf g p m × ((k : ℕ) → IsIn k (body_of g p) → Ends g u Chosen n k))

-- one test per production suffices
abbrev pub OneTestSuffices : Type 0
OneTestSuffices = (g : Grammar) (u : View) (d : Assignment) → IsWellFormed g → IsInduced g u d → IsFull g u d

-- Let the assignment be what chosen productions induce, by which each seen module ends. The view is safe exactly if all other productions induce it too
abbrev pub SafetyLaw : Type 0
SafetyLaw =
    (g : Grammar) (u : View) (d : Assignment) (choice : List (ℕ × ℕ)) → IsWellFormed g →
    ((m : ℕ) → IsSeenModule g u m → (n : ℕ) × Ends g u (IsChosen choice) n m) →
    IsInducedBy g u (IsChosen choice) d → IsSafe g u ↔ IsInduced g u d
