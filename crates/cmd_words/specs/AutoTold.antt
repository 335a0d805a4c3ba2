-- What the bytes of AUTO tell under a view: an automaton whose lifted view is safe, or why they are refused.
use Rattle.std.specs.Prelude.{◌≡◌, ◌⊎◌, ℕ, List, [], codes}
use Rattle.wf_model.specs.Grammar.{Grammar}
use Rattle.wf_model.specs.View.{View}
use Rattle.wf_model.specs.Safe.{IsSafe}
use Rattle.wf_check.specs.Proper.{Ranking, IsRankingOf}
use Rattle.wf_safe.specs.declared.witness.Witness.{Witness}
use Rattle.wf_safe.specs.Witness.{IsFirstWitness}
use Rattle.words_model.specs.Automata.{Automaton}
use Rattle.words_model.specs.Lifting.{lift, lift_view}
use Rattle.wf_automaton.specs.declared.fault.AutoFault.{AutoFault}
use Rattle.wf_automaton.specs.Rules.{TellsAutomaton, IsAutoFault}
use Rattle.wf_automaton.specs.FaultText.{auto_text}
use Rattle.wf_lift.specs.WitnessText.{lifted_unsafe_text}
use Rattle.wf_io.specs.Told.{File}
use Rattle.wf_message.specs.Endings.{End}
use Rattle.wf_stage.specs.Kinds.{Kind}
use Rattle.wf_stage.specs.Stages.{Stage, OfWhole}

-- an automaton
abbrev pub auto_kind : Kind
auto_kind = record { word = codes "auto"; most = 16777216; long_fault = codes "TooLong" }

-- the lifted view of a view of the grammar, by an automaton, is safe
abbrev pub IsSafeLifted : Grammar → View → Automaton → Type 0
IsSafeLifted g u a = IsSafe (lift g a.states) (lift_view a u)

-- the bytes describe this automaton over the modules of the grammar, and the lifted view is safe
pub record TellsAuto (g : Grammar) (u : View) (bytes : List ℕ) (a : Automaton) : Type 0 where
  pub automaton : TellsAutomaton g bytes a
  pub safe : IsSafeLifted g u a

-- why bytes are refused as an automaton: they break a rule
abbrev pub RefusesAutomaton : Grammar → List ℕ → List ℕ → Type 0
RefusesAutomaton g bytes fault = (f : AutoFault) × IsAutoFault g bytes f × (fault ≡ auto_text f)

-- why an automaton is refused: the lifted view is not safe, and its first witness is told, by the ranks of the grammar and by the ports before lifting and their states
abbrev pub RefusesLifted : Grammar → View → Automaton → List ℕ → Type 0
RefusesLifted g u a fault =
    (¬ IsSafeLifted g u a) ×
    ((r : Ranking) × (w : Witness) × IsRankingOf g r × IsFirstWitness (lift g a.states) (lift_view a u) r w × (fault ≡ lifted_unsafe_text g a.states w))

-- why bytes are refused under a view: they break a rule; or they describe an automaton that is refused
abbrev pub RefusesAuto : Grammar → View → List ℕ → List ℕ → Type 0
RefusesAuto g u bytes fault =
    RefusesAutomaton g bytes fault ⊎
    ((a : Automaton) × TellsAutomaton g bytes a × RefusesLifted g u a fault)

-- AUTO under a view, as `words` takes it
abbrev pub AutoStage : Grammar → View → File → (Automaton → End → List ℕ → Type 0) → End → List ℕ → Type 0
AutoStage g u file = Stage auto_kind [] file (TellsAuto g u) (OfWhole (RefusesAuto g u))
