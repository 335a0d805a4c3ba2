-- Paths with their words, and the items that a path with an accepted word joins.
use Rattle.std.specs.Prelude.{ℕ, List, [], ◌∷◌, Option, Some, None}
use Rattle.wf_model.specs.Lists.{IsIn}
use Rattle.wf_model.specs.Grammar.{Grammar}
use Rattle.wf_model.specs.View.{View}
use Rattle.wf_model.specs.declared.event.Event.{Event}
use Rattle.wf_model.specs.Run.{Instance, seen_in}
use Rattle.wf_model.specs.Links.{Port, wiring, pair_links, perceived, IsLinked}
use Rattle.wf_model.specs.Items.{Item}
use Rattle.chain_model.specs.Chains.{IsOfOpen}
use Rattle.words_model.specs.Automata.{Automaton, IsAcceptedWord}

-- an edge, an entry or an exit of an open instance
abbrev pub IsWire : Grammar → View → ℕ → List Event → Port (List ℕ) → Port (List ℕ) → Type 0
IsWire g u m events = IsOfOpen g u m events (wiring g)

-- a perceived pair of the instance n, which is seen
abbrev pub IsPairOf : Grammar → View → ℕ → List Event → Instance → Port (List ℕ) → Port (List ℕ) → Type 0
IsPairOf g u m events n x y = IsIn n (seen_in g u m events) × IsLinked (pair_links g (perceived u) n.module_no n.name) x y

-- A path and its word. It stays at a port, or goes on by an edge, an entry or an exit, or by a perceived pair. The word has the modules of these pairs, in order
pub data WordPath (g : Grammar) (u : View) (m : ℕ) (events : List Event) : Port (List ℕ) → Port (List ℕ) → List ℕ → Type 0 where
  stay : {x : Port (List ℕ)} → WordPath g u m events x x []
  by_wire : {x y z : Port (List ℕ)} {word : List ℕ} → IsWire g u m events x y → WordPath g u m events y z word → WordPath g u m events x z word
  by_pair : {x y z : Port (List ℕ)} {word : List ℕ} (n : Instance) → IsPairOf g u m events n x y → WordPath g u m events y z word → WordPath g u m events x z (n.module_no ∷ word)

-- a path with an accepted word, between ports that may not be there
abbrev pub AcceptsBetween : Grammar → View → Automaton → ℕ → List Event → Option (Port (List ℕ)) → Option (Port (List ℕ)) → Type 0
AcceptsBetween g u a m events None y = ⊥
AcceptsBetween g u a m events (Some x) None = ⊥
AcceptsBetween g u a m events (Some x) (Some y) = (word : List ℕ) × WordPath g u m events x y word × IsAcceptedWord a word

-- a path with an accepted word leads from the port that consumes x to the port that produces y
abbrev pub Accepts : Grammar → View → Automaton → List Event → Item → Item → Type 0
Accepts g u a events x y = AcceptsBetween g u a g.start events x.consumed y.produced
