-- The law of expansions by chosen productions: what a view that is not safe can be shown by.
use Rattle.std.specs.Prelude.{◌≡◌, ◌≢◌, ◌↔◌, ◌<◌, ℕ, IsTrue, List, length, Some}
use Rattle.wf_model.specs.Lists.{IsIn}
use Rattle.wf_model.specs.Grammar.{Grammar, Assignment, inputs_of, outputs_of, head_of}
use Rattle.wf_model.specs.WellFormed.{IsWellFormed}
use Rattle.wf_model.specs.View.{View, expands, IsSeenModule}
use Rattle.wf_model.specs.declared.event.Event.{Event}
use Rattle.wf_model.specs.Run.{Instance, Expanded, expanded_by, seen_in, root_of}
use Rattle.wf_model.specs.Safe.{IsExpansion, Joins, BodyJoins, IsBy, IsInducedBy, IsChosen, Ends}

-- the root of the run is expanded by the production p, and every other open instance by a chosen one
pub record IsByOther (g : Grammar) (u : View) (m : ℕ) (Chosen : ℕ → ℕ → Type 0) (p : ℕ) (events : List Event) : Type 0 where
  pub root : (x : Expanded) → expanded_by events (root_of events) ≡ Some x → x.production ≡ p
  pub others : (j : Instance) → IsIn j (seen_in g u m events) → j.name ≢ root_of events → IsTrue (expands u j.module_no) → (x : Expanded) → expanded_by events j.name ≡ Some x → Chosen j.module_no x.production

-- an expansion in which all is chosen, and it joins the pairs that the chosen productions induce
pub record ChosenExpansion (g : Grammar) (u : View) (d : Assignment) (Chosen : ℕ → ℕ → Type 0) (m : ℕ) : Type 0 where
  pub events : List Event
  pub expansion_of : IsExpansion g u m events
  pub by : IsBy g u m Chosen events
  pub joins : (i o : ℕ) → i < inputs_of g m → o < outputs_of g m → IsTrue (d m i o) ↔ Joins g u m events i o

-- an expansion whose root is expanded by p and in which all else is chosen, and it joins the pairs that the body of p joins
pub record OtherExpansion (g : Grammar) (u : View) (d : Assignment) (Chosen : ℕ → ℕ → Type 0) (p : ℕ) : Type 0 where
  pub events : List Event
  pub expansion_of : IsExpansion g u (head_of g p) events
  pub by : IsByOther g u (head_of g p) Chosen p events
  pub joins : (i o : ℕ) → BodyJoins g d p i o ↔ Joins g u (head_of g p) events i o

-- The two kinds of expansions. Each seen module has one in which all is chosen, and each production of a seen, expanded module has one that begins with it
pub record HasBothExpansions (g : Grammar) (u : View) (d : Assignment) (choice : List (ℕ × ℕ)) : Type 0 where
  pub chosen : (m : ℕ) → IsSeenModule g u m → ChosenExpansion g u d (IsChosen choice) m
  pub other : (p : ℕ) → p < length g.productions → IsSeenModule g u (head_of g p) → IsTrue (expands u (head_of g p)) → OtherExpansion g u d (IsChosen choice) p

-- where chosen productions, by which each seen module ends, induce an assignment, there are expansions of both kinds
abbrev pub ChosenLaw : Type 0
ChosenLaw =
    (g : Grammar) (u : View) (d : Assignment) (choice : List (ℕ × ℕ)) → IsWellFormed g →
    ((m : ℕ) → IsSeenModule g u m → (n : ℕ) × Ends g u (IsChosen choice) n m) →
    IsInducedBy g u (IsChosen choice) d → HasBothExpansions g u d choice
