use Rattle.std.proofs.Common.{◌≡◌, ◌++◌}
use Rattle.std.specs.Prelude.{filter, flat_map}
use Rattle.wf_model.specs.Lists.{numbers_from}
use Rattle.wf_model.specs.Composite.{is_composite}
use Rattle.cmd_describe.specs.CheckText.{check_line}
use Rattle.cmd_describe.proofs.check_text.add_lines.Given as goal

abbrev pub invariant-loop-k : goal.invariant-loop-k
invariant-loop-k l = l.out.items ≡ l.initial.out.items ++ flat_map (check_line l.spec.grammar.core l.spec.ranking l.spec.cycles) (filter (is_composite l.spec.grammar.core) (numbers_from 0 l.k))
