use Rattle.wf_laws.proofs.LineGrammar
use Rattle.wf_laws.proofs.examples.line_grammar_is_worked.Goals as goal

pub returns : goal.returns
returns c = LineGrammar.line_grammar_is_worked
