-- The law of modules that are settled: by a choice of productions an expansion of the module ends.
use Rattle.std.specs.Prelude.{◌≡◌, ◌↔◌, ◌<◌, ℕ, false, IsTrue, List, length}
use Rattle.wf_model.specs.Lists.{IsIn}
use Rattle.wf_model.specs.Grammar.{Grammar, Assignment, inputs_of, outputs_of, head_of, body_of}
use Rattle.wf_model.specs.WellFormed.{IsWellFormed}
use Rattle.wf_model.specs.View.{View, expands, shows, IsSeenModule}
use Rattle.wf_model.specs.declared.event.Event.{Event}
use Rattle.wf_model.specs.Safe.{IsExpansion, Joins, BodyJoins, IsBy, IsChosen, Ends}
use Rattle.wf_laws.specs.Chosen.{IsByOther}

-- by chosen productions an expansion of the module ends
abbrev pub IsSettled : Grammar → View → (ℕ → ℕ → Type 0) → ℕ → Type 0
IsSettled g u Chosen m = (n : ℕ) × Ends g u Chosen n m

-- so does one of each module in the body of p
abbrev pub IsSettledBody : Grammar → View → (ℕ → ℕ → Type 0) → ℕ → Type 0
IsSettledBody g u Chosen p = (k : ℕ) → IsIn k (body_of g p) → IsSettled g u Chosen k

-- an assignment that passes the tests of those chosen productions whose bodies are settled: the perceived pairs for a seen module that is not expanded, and for the head of such a production the pairs that its body joins
pub record IsInducedWhereSettled (g : Grammar) (u : View) (Chosen : ℕ → ℕ → Type 0) (d : Assignment) : Type 0 where
  pub shown : (m : ℕ) → IsSeenModule g u m → expands u m ≡ false → (i o : ℕ) → i < inputs_of g m → o < outputs_of g m → d m i o ≡ shows u m i o
  pub induced : (p : ℕ) → p < length g.productions → Chosen (head_of g p) p → IsSeenModule g u (head_of g p) → IsTrue (expands u (head_of g p)) → IsSettledBody g u Chosen p → (i o : ℕ) → i < inputs_of g (head_of g p) → o < outputs_of g (head_of g p) → IsTrue (d (head_of g p) i o) ↔ BodyJoins g d p i o

-- What a choice of productions tells of expansions. A seen module has an expansion by the choice exactly if it is settled. The head of a production has one that begins with the production and goes on by the choice exactly if the body of the production is settled. The first joins the pairs that settled chosen productions induce for the module, the second those that the body joins
pub record IsToldOfChoice (g : Grammar) (u : View) (choice : List (ℕ × ℕ)) : Type 0 where
  pub ends : (m : ℕ) → IsSeenModule g u m → (e : List Event) → IsExpansion g u m e → IsBy g u m (IsChosen choice) e → IsSettled g u (IsChosen choice) m
  pub other_ends : (p : ℕ) → IsSeenModule g u (head_of g p) → IsTrue (expands u (head_of g p)) → (e : List Event) → IsExpansion g u (head_of g p) e → IsByOther g u (head_of g p) (IsChosen choice) p e → IsSettledBody g u (IsChosen choice) p
  pub run : (m : ℕ) → IsSeenModule g u m → IsSettled g u (IsChosen choice) m → (e : List Event) × IsExpansion g u m e × IsBy g u m (IsChosen choice) e
  pub other_run : (p : ℕ) → p < length g.productions → IsSeenModule g u (head_of g p) → IsTrue (expands u (head_of g p)) → IsSettledBody g u (IsChosen choice) p → (e : List Event) × IsExpansion g u (head_of g p) e × IsByOther g u (head_of g p) (IsChosen choice) p e
  pub joins : (d : Assignment) → IsInducedWhereSettled g u (IsChosen choice) d → (m : ℕ) → IsSeenModule g u m → (e : List Event) → IsExpansion g u m e → IsBy g u m (IsChosen choice) e → (i o : ℕ) → i < inputs_of g m → o < outputs_of g m → IsTrue (d m i o) ↔ Joins g u m e i o
  pub other_joins : (d : Assignment) → IsInducedWhereSettled g u (IsChosen choice) d → (p : ℕ) → IsSeenModule g u (head_of g p) → IsTrue (expands u (head_of g p)) → (e : List Event) → IsExpansion g u (head_of g p) e → IsByOther g u (head_of g p) (IsChosen choice) p e → (i o : ℕ) → BodyJoins g d p i o ↔ Joins g u (head_of g p) e i o

-- so it is with each choice, whether or not all modules have expansions by it
abbrev pub SettledLaw : Type 0
SettledLaw = (g : Grammar) (u : View) (choice : List (ℕ × ℕ)) → IsWellFormed g → IsToldOfChoice g u choice
