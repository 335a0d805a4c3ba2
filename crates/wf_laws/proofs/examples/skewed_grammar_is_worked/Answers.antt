use Rattle.wf_laws.proofs.SkewedGrammar
use Rattle.wf_laws.proofs.examples.skewed_grammar_is_worked.Goals as goal

pub returns : goal.returns
returns c = SkewedGrammar.skewed_grammar_is_worked
