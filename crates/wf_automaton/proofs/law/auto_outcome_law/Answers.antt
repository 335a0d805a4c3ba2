use Rattle.wf_automaton.proofs.OneAutomaton.{one_automaton, one_auto_fault, no_auto_fault, never_memory}
use Rattle.wf_automaton.proofs.SomeAutomaton.{some_automaton}
use Rattle.wf_automaton.proofs.law.auto_outcome_law.Goals as goal

pub returns : goal.returns
returns c = λ g bytes. record {
  some = some_automaton g bytes;
  one_automaton = one_automaton bytes g;
  one_fault = one_auto_fault bytes g;
  not_both = no_auto_fault bytes g;
  not_memory = never_memory g bytes;
}
