-- Witnesses that a view is not safe: two expansions of one module that disagree on a pair.
use Rattle.std.specs.Prelude.{◌≡◌, ◌↔◌, ◌⊎◌, ◌<◌, ℕ, Bool, true, false, IsTrue, List, map, get_or}
use Rattle.wf_model.specs.Lists.{IsIn, IsAt}
use Rattle.wf_model.specs.Grammar.{Grammar, Assignment, inputs_of, outputs_of, head_of, IsProductionOf}
use Rattle.wf_model.specs.WellFormed.{IsWellFormed}
use Rattle.wf_model.specs.View.{View, expands, IsSeenModule}
use Rattle.wf_model.specs.declared.event.Event.{Event}
use Rattle.wf_model.specs.Safe.{IsExpansion, Joins, BodyJoins, IsBy, IsInducedBy, IsChosen, IsSafe}
use Rattle.wf_laws.specs.Chosen.{IsByOther}
use Rattle.wf_check.specs.Proper.{Ranking, IsRankingOf}
use Rattle.wf_safe.specs.declared.witness.Choice.{Choice}
use Rattle.wf_safe.specs.declared.witness.Witness.{Witness}
use Rattle.wf_safe.specs.declared.fault.SafeFault.{SafeFault}
use Rattle.wf_safe.specs.declared.fault.SafeFault.TheVariants.{Unsafe, NoMemory}

-- the pairs (module, production) of a list of choices
abbrev pub chosen_in : List Choice → List (ℕ × ℕ)
chosen_in = map (λ (c : Choice). (c.«module».0, c.production.0))

abbrev pub modules_in : List (ℕ × ℕ) → List ℕ
modules_in = map (λ (c : ℕ × ℕ). c.0)

-- a list of choices names each seen, expanded module once, in order, each with a production of it
pub record IsChoiceOf (g : Grammar) (u : View) (choice : List (ℕ × ℕ)) : Type 0 where
  pub in_order : (j k a b : ℕ) → j < k → IsAt a j (modules_in choice) → IsAt b k (modules_in choice) → a < b
  pub all : (m : ℕ) → IsSeenModule g u m → IsTrue (expands u m) → IsIn m (modules_in choice)
  pub seen : (m p : ℕ) → IsChosen choice m p → IsSeenModule g u m × IsTrue (expands u m)
  pub productions : (m p : ℕ) → IsChosen choice m p → IsProductionOf g p m

-- one of two holds and the other does not: the first where the flag is set, and else the second
abbrev pub Disagree : Bool → Type 0 → Type 0 → Type 0
Disagree true A B = A × (¬ B)
Disagree false A B = (¬ A) × B

-- an expansion of a module in which every open instance is expanded by the choice
pub record IsChosenRun (g : Grammar) (u : View) (choice : List (ℕ × ℕ)) (m : ℕ) (events : List Event) : Type 0 where
  pub expansion_of : IsExpansion g u m events
  pub by : IsBy g u m (IsChosen choice) events

-- an expansion of a module whose root is expanded by another production, and in which every other open instance is expanded by the choice
pub record IsOtherRun (g : Grammar) (u : View) (choice : List (ℕ × ℕ)) (m other : ℕ) (events : List Event) : Type 0 where
  pub expansion_of : IsExpansion g u m events
  pub by : IsByOther g u m (IsChosen choice) other events

-- Two expansions of a module, the one by the choice and the other begun by another production, disagree on a pair
pub record AreDisagreeing (g : Grammar) (u : View) (choice : List (ℕ × ℕ)) (m other i o : ℕ) (joined : Bool) : Type 0 where
  pub one_run : List Event
  pub is_one : IsChosenRun g u choice m one_run
  pub other_run : List Event
  pub is_other : IsOtherRun g u choice m other other_run
  pub disagree : Disagree joined (Joins g u m one_run i o) (Joins g u m other_run i o)

-- A witness that a view is not safe: a choice, a module that it names with its production, another production of the module, and a pair of the module's ports on which the two expansions disagree
pub record IsWitness (g : Grammar) (u : View) (w : Witness) : Type 0 where
  pub choice : IsChoiceOf g u (chosen_in w.choice)
  pub one : IsChosen (chosen_in w.choice) w.«module».0 w.one.0
  pub other : IsProductionOf g w.other.0 w.«module».0
  pub input : w.input.0 < inputs_of g w.«module».0
  pub output : w.output.0 < outputs_of g w.«module».0
  pub runs : AreDisagreeing g u (chosen_in w.choice) w.«module».0 w.other.0 w.input.0 w.output.0 w.joined_by_one

-- the pair (i, o) comes before another, by input and then output
abbrev pub ComesBefore : ℕ → ℕ → ℕ → ℕ → Type 0
ComesBefore i o input output = (i < input) ⊎ ((i ≡ input) × (o < output))

-- a production joins a pair of its head exactly if the pair is assigned to it
abbrev pub AgreesOn : Grammar → Assignment → ℕ → ℕ → ℕ → Type 0
AgreesOn g d p i o = IsTrue (d (head_of g p) i o) ↔ BodyJoins g d p i o

-- so it does on all pairs of its head
abbrev pub Agrees : Grammar → Assignment → ℕ → Type 0
Agrees g d p = (i o : ℕ) → i < inputs_of g (head_of g p) → o < outputs_of g (head_of g p) → AgreesOn g d p i o

-- The witness that is told of a view that is not safe. Each seen, expanded module is chosen the production that attains its rank. By this choice each seen module has the pairs that its chosen expansion joins. The other production is the least one that does not join the pairs of its head, and the pair is the first, by input and then output, on which the two disagree
pub record IsFirstWitness (g : Grammar) (u : View) (r : Ranking) (w : Witness) : Type 0 where
  pub witness : IsWitness g u w
  pub ranked : (m p : ℕ) → IsChosen (chosen_in w.choice) m p → p ≡ get_or r.choices m 0
  pub pairs : Assignment
  pub induced : IsInducedBy g u (IsChosen (chosen_in w.choice)) pairs
  pub least : (p : ℕ) → p < w.other.0 → IsSeenModule g u (head_of g p) → IsTrue (expands u (head_of g p)) → Agrees g pairs p
  pub first : (i o : ℕ) → i < inputs_of g w.«module».0 → o < outputs_of g w.«module».0 → ComesBefore i o w.input.0 w.output.0 → AgreesOn g pairs w.other.0 i o

-- what a fault says: the view is not safe, and the witness is the one that is told; want of memory says nothing
abbrev pub IsFault : Grammar → View → Ranking → SafeFault → Type 0
IsFault g u r (Unsafe w) = (¬ IsSafe g u) × IsFirstWitness g u r w
IsFault g u r NoMemory = Unit {0}

-- a view with a witness is not safe
abbrev pub WitnessLaw : Type 0
WitnessLaw = (g : Grammar) (u : View) (w : Witness) → IsWitness g u w → ¬ IsSafe g u

-- by one ranking a view of a grammar has one first witness
abbrev pub OneWitnessLaw : Type 0
OneWitnessLaw = (g : Grammar) (u : View) (r : Ranking) (w v : Witness) → IsWellFormed g → IsRankingOf g r → IsFirstWitness g u r w → IsFirstWitness g u r v → w ≡ v
