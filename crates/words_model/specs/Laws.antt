-- Laws of paths with accepted words, and of the lifted grammar, in which they are found.
use Rattle.std.specs.Prelude.{◌≡◌, ◌↔◌, ℕ, ◌<◌, ◌≤◌, List}
use Rattle.wf_model.specs.Lists.{IsIn}
use Rattle.wf_model.specs.Grammar.{Grammar, Assignment}
use Rattle.wf_model.specs.WellFormed.{IsWellFormed}
use Rattle.wf_model.specs.Proper.{IsProper, RankWithin}
use Rattle.wf_model.specs.Linear.{Continues, IsLinear, AreCycles}
use Rattle.wf_model.specs.View.{View, IsViewOf}
use Rattle.wf_model.specs.declared.event.Event.{Event}
use Rattle.wf_model.specs.Run.{IsRun}
use Rattle.wf_model.specs.Links.{Port, links, Path}
use Rattle.wf_model.specs.Safe.{IsExpansion, IsInduced, IsSafe}
use Rattle.wf_model.specs.Finishing.{ExpandsComposites}
use Rattle.wf_model.specs.Items.{Item}
use Rattle.wf_model.specs.Reach.{Step, Reaches}
use Rattle.wf_model.specs.Depends.{IsConsumedAt, IsProducedAt}
use Rattle.label_model.specs.Labels.{Label, IsLabel}
use Rattle.verdict_model.specs.declared.verdict.Verdict.{Verdict}
use Rattle.verdict_model.specs.declared.verdict.Verdict.TheVariants.{Yes}
use Rattle.verdict_model.specs.Telling.{Tells}
use Rattle.verdict_model.specs.Verdicts.{IsHidden, AreShown, AreClashing}
use Rattle.words_model.specs.Automata.{Automaton, IsAutomaton, state_after}
use Rattle.words_model.specs.Words.{WordPath, Accepts}
use Rattle.words_model.specs.Lifting.{in_state, lift_port, lift, HasFewStates, lift_view, lift_label}
use Rattle.words_model.specs.Verdicts.{AlwaysAccepts, NeverAccepts, AcceptsOnce, IsWordVerdict, IsLiftedYes}

-- each path has a word, and a path with a word is one
abbrev pub WordLaw : Type 0
WordLaw = (g : Grammar) (u : View) (m : ℕ) (events : List Event) (x y : Port (List ℕ)) → Path (links g u m events) x y ↔ ((word : List ℕ) × WordPath g u m events x y word)

-- a grammar that is well-formed is so lifted, and it keeps its ranks, its continuing steps and its cycles
pub record IsLiftedGrammar (g : Grammar) (k : ℕ) : Type 0 where
  pub formed : IsWellFormed (lift g k)
  pub proper : IsProper g → IsProper (lift g k)
  pub ranks : (n m : ℕ) → RankWithin g n m ↔ RankWithin (lift g k) n m
  pub continues : (m : ℕ) (s : Step) → Continues g m s ↔ Continues (lift g k) m s
  pub linear : IsLinear g → IsLinear (lift g k)
  pub cycles : (leasts : List ℕ) → AreCycles g leasts ↔ AreCycles (lift g k) leasts

-- so it is with few states
abbrev pub LiftedGrammarLaw : Type 0
LiftedGrammarLaw = (g : Grammar) (k : ℕ) → IsWellFormed g → 0 < k → k ≤ 64 → HasFewStates g k → IsLiftedGrammar g k

-- the runs of the lifted grammar are those of the grammar, and they are finished alike
pub record AreLiftedRuns (g : Grammar) (u : View) (a : Automaton) (m : ℕ) (events : List Event) : Type 0 where
  pub run : IsRun g m events ↔ IsRun (lift g a.states) m events
  pub whole : IsExpansion g u m events ↔ IsExpansion (lift g a.states) (lift_view a u) m events

-- so it is with each list of events
abbrev pub LiftedRunLaw : Type 0
LiftedRunLaw = (g : Grammar) (u : View) (a : Automaton) (m : ℕ) (events : List Event) → AreLiftedRuns g u a m events

-- a view of the grammar is, lifted, one of the lifted grammar
abbrev pub LiftedViewLaw : Type 0
LiftedViewLaw = (g : Grammar) (u : View) (a : Automaton) → IsAutomaton a → IsViewOf g u → IsViewOf (lift g a.states) (lift_view a u)

-- a path in the lifted links leads from x in the state s to y in the state t exactly if a path leads from x to y whose word leads from s to t
abbrev pub LiftedPathLaw : Type 0
LiftedPathLaw =
    (g : Grammar) (u : View) (a : Automaton) → IsAutomaton a → (m : ℕ) (events : List Event) (x y : Port (List ℕ)) (s t : ℕ) → s < a.states → t < a.states →
    Path (links (lift g a.states) (lift_view a u) m events) (lift_port a.states s x) (lift_port a.states t y) ↔
    ((word : List ℕ) × WordPath g u m events x y word × (state_after a s word ≡ t))

-- so whether a path with an accepted word joins two items is told by their addresses and the pairs that the productions induce in the lifted view, whatever the finished run
abbrev pub AcceptedLaw : Type 0
AcceptedLaw =
    (g : Grammar) (u : View) (a : Automaton) (d : Assignment) → IsAutomaton a → IsWellFormed (lift g a.states) → IsInduced (lift g a.states) (lift_view a u) d →
    (events : List Event) → IsExpansion g u g.start events → (x y : Item) (p q : List Step) (i o : ℕ) → IsConsumedAt g u g.start events x p i → IsProducedAt g u g.start events y q o →
    Accepts g u a events x y ↔ ((t : ℕ) × IsIn t a.accept × Reaches (lift g a.states) d g.start p q (in_state a.states a.start i) (in_state a.states t o))

-- an automaton with at most 64 states, and so few that a module has at most 64 ports on a side, with each in every state
pub record Fits (g : Grammar) (a : Automaton) : Type 0 where
  pub automaton : IsAutomaton a
  pub states : a.states ≤ 64
  pub ports : HasFewStates g a.states

-- A label in a state is a label of the lifted grammar, and tells the same address and production there, with the edge in the state. It is hidden under the lifted view exactly if the label is under the view
pub record IsLiftedLabel (g : Grammar) (u : View) (a : Automaton) (s : ℕ) (l : Label) : Type 0 where
  pub label : IsLabel (lift g a.states) (lift_label a.states s l)
  pub tells : (w : List Step) (p e : ℕ) → Tells g l w p e ↔ Tells (lift g a.states) (lift_label a.states s l) w p (in_state a.states s e)
  pub hidden : IsHidden g u l ↔ IsHidden (lift g a.states) (lift_view a u) (lift_label a.states s l)

-- so it is with each label and each state; and two labels clash exactly if they do so lifted, in whatever states
abbrev pub LiftedLabelLaw : Type 0
LiftedLabelLaw =
    (g : Grammar) (u : View) (a : Automaton) → IsWellFormed g → Fits g a → (x y : Label) → IsLabel g x → IsLabel g y → (s t : ℕ) → s < a.states → t < a.states →
    record {
      one : IsLiftedLabel g u a s x;
      clash : AreClashing g x y ↔ AreClashing (lift g a.states) (lift_label a.states s x) (lift_label a.states t y);
    }

-- what is asked of a grammar, a view and an automaton: the grammar is well-formed and proper, the view expands composite modules only, the automaton fits, and the lifted view is safe
pub record LiftSafely (g : Grammar) (u : View) (a : Automaton) : Type 0 where
  pub formed : IsWellFormed g
  pub proper : IsProper g
  pub composites : ExpandsComposites g u
  pub fits : Fits g a
  pub safe : IsSafe (lift g a.states) (lift_view a u)

-- Let neither label be hidden, and let them not clash. A path with an accepted word joins their items in one finishing of one run that has both exactly if one does in every finishing of every such run, and exactly if the verdict in the lifted grammar is yes; so where one does not in all of them, none does in any
abbrev pub WordAnswerLaw : Type 0
WordAnswerLaw =
    (g : Grammar) (u : View) (a : Automaton) → LiftSafely g u a → (x y : Label) → IsLabel g x → IsLabel g y → AreShown g u x y → (AreClashing g x y → ⊥) →
    record {
      once : AcceptsOnce g u a x y ↔ AlwaysAccepts g u a x y;
      lifted : AlwaysAccepts g u a x y ↔ IsLiftedYes g u a x y;
      never : (AlwaysAccepts g u a x y → ⊥) → NeverAccepts g u a x y;
    }

-- So the verdict by the automaton is yes exactly if the verdict in the lifted grammar is. Two labels have one verdict, and no more
abbrev pub WordVerdictLaw : Type 0
WordVerdictLaw =
    (g : Grammar) (u : View) (a : Automaton) → LiftSafely g u a → (x y : Label) → IsLabel g x → IsLabel g y →
    record {
      yes : IsWordVerdict g u a x y Yes ↔ IsLiftedYes g u a x y;
      some : (v : Verdict) × IsWordVerdict g u a x y v;
      one : (v w : Verdict) → IsWordVerdict g u a x y v → IsWordVerdict g u a x y w → v ≡ w;
    }
