use Rattle.wf_laws.proofs.TwistingGrammar
use Rattle.wf_laws.proofs.examples.twisting_grammar_is_worked.Goals as goal

pub returns : goal.returns
returns c = TwistingGrammar.twisting_grammar_is_worked
