use Rattle.std.proofs.lemmas.Result.{IfErr-weaker}
use Rattle.package_file.proofs.ReadParts.{grammar_bad, loops_bad, package_if, described_if}
use Rattle.package_file.proofs.reading.package_of_grammar.Goals as goal

pub returns-in-Err-clause-refused : goal.returns-in-Err-clause-refused
returns-in-Err-clause-refused c = grammar_bad (record { grammar = c.args.grammar; loops = c.args.loops.now }) c.in-Err.fault c.in-Err.ensures.refused

pub returns-in-Ok-clause-described : goal.returns-in-Ok-clause-described
returns-in-Ok-clause-described c =
    described_if (record { grammar = c.args.grammar; loops = c.args.loops.now }) c.in-Ok.accepted c.in-Ok.ensures.grammar c.package_of_accepted.result c.package_of_accepted.ensures.accepted c.package_of_accepted.ensures.loops

pub returns-in-Ok-clause-good : goal.returns-in-Ok-clause-good
returns-in-Ok-clause-good c =
    package_if (record { grammar = c.args.grammar; loops = c.args.loops.now }) c.in-Ok.accepted c.in-Ok.ensures.grammar c.package_of_accepted.result c.in-Ok.ensures.good c.package_of_accepted.ensures.good

pub returns-in-Ok-clause-refused : goal.returns-in-Ok-clause-refused
returns-in-Ok-clause-refused c =
    IfErr-weaker c.package_of_accepted.result _ _ (loops_bad (record { grammar = c.args.grammar; loops = c.args.loops.now }) c.in-Ok.accepted c.in-Ok.ensures.grammar) c.package_of_accepted.ensures.refused
