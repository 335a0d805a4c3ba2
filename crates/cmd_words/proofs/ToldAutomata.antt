-- What is known of an automaton that AUTO tells under a view, and of the lifted grammar and the lifted view.
use Rattle.std.proofs.Common.{ℕ, List, sym, subst}
use Rattle.wf_model.specs.Grammar.{Grammar}
use Rattle.wf_model.specs.WellFormed.{IsWellFormed}
use Rattle.wf_model.specs.Proper.{IsProper}
use Rattle.wf_model.specs.View.{View}
use Rattle.wf_model.specs.Finishing.{ExpandsComposites}
use Rattle.words_model.specs.Automata.{Automaton}
use Rattle.words_model.specs.Lifting.{lift, lift_view}
use Rattle.words_model.specs.Laws.{Fits, LiftSafely}
use Rattle.words_model.proofs.SameShape.{composite_there}
use Rattle.words_model.proofs.LiftedParts.{lifted_shape}
use Rattle.wf_automaton.specs.Rules.{TellsAutomaton}
use Rattle.wf_automaton.proofs.Ruled.{fits}
use Rattle.cmd_words.specs.AutoTold.{TellsAuto}

module _ (g : Grammar) (bytes : List ℕ) (a : Automaton) where
  -- an automaton that bytes describe fits the grammar
  pub told_fits : TellsAutomaton g bytes a → Fits g a
  told_fits t = let all = t.2 in subst (Fits g) (sym t.3) (fits g t.0 (all.0, (all.1.0, (all.1.1.0, (all.1.1.1.0, tt)))) all.1.1.1.1.1.1.0)

  -- so paths with words that it accepts are told by labels
  pub told_safely : (u : View) → IsWellFormed g → IsProper g → ExpandsComposites g u → TellsAuto g u bytes a → LiftSafely g u a
  told_safely u formed proper composites t = record { formed = formed; proper = proper; composites = composites; fits = told_fits t.automaton; safe = t.safe }

-- the lifted view expands composite modules only
pub lifted_composites : (g : Grammar) (u : View) (a : Automaton) → ExpandsComposites g u → ExpandsComposites (lift g a.states) (lift_view a u)
lifted_composites g u a composites m e = composite_there g (lift g a.states) (lifted_shape g a.states) m (composites m e)
