use Rattle.std.proofs.Common.{IfOk, List, subst}
use Rattle.package_file.specs.declared.parts.LoopPart.{LoopPart}
use Rattle.package_file.specs.Packed.{IsDescribedBy}
use Rattle.package_file.proofs.reading.package_of_parts.Goals as goal

pub returns-clause-described : goal.returns-clause-described
returns-clause-described c =
    subst (λ (ls : List LoopPart). IfOk c.package_of_grammar.result (IsDescribedBy (record { grammar = c.args.parts.grammar; loops = ls }))) c.items.ensures c.package_of_grammar.ensures.described
