use Rattle.wf_spec.proofs.Heads.{composite_told, composite_tested}
use Rattle.wf_spec.proofs.grammar.Grammar.is_composite.Goals as goal

pub returns-clause-test : goal.returns-clause-test
returns-clause-test c = composite_tested c.args.self.now.core c.args.m.0 c.alternatives.result.now c.is_empty.result c.is_empty.ensures c.alternatives.ensures

pub returns-clause-composite : goal.returns-clause-composite
returns-clause-composite c = composite_told c.args.self.now.core c.args.m.0 c.alternatives.result.now c.is_empty.result c.is_empty.ensures c.alternatives.ensures
