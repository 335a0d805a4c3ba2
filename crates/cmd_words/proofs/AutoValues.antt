-- Bytes tell one automaton under a view, and then they are not refused.
use Rattle.std.proofs.Common.{◌≡◌, ℕ, List, subst, inl, inr}
use Rattle.wf_model.specs.Grammar.{Grammar}
use Rattle.wf_model.specs.View.{View}
use Rattle.words_model.specs.Automata.{Automaton}
use Rattle.wf_automaton.proofs.OneAutomaton.{one_automaton, no_auto_fault}
use Rattle.cmd_words.specs.AutoTold.{IsSafeLifted, TellsAuto, RefusesAuto}

module _ (g : Grammar) (u : View) (bytes : List ℕ) where
  pub one_auto : (a b : Automaton) → TellsAuto g u bytes a → TellsAuto g u bytes b → b ≡ a
  one_auto a b p q = one_automaton bytes g b a q.automaton p.automaton

  pub no_refusal_of_auto : (a : Automaton) (fault : List ℕ) → TellsAuto g u bytes a → RefusesAuto g u bytes fault → ⊥
  no_refusal_of_auto a fault t (inl r) = no_auto_fault bytes g a r.0 t.automaton r.1
  no_refusal_of_auto a fault t (inr r) = r.2.0 (subst (IsSafeLifted g u) (one_automaton bytes g a r.0 t.automaton r.1) t.safe)
