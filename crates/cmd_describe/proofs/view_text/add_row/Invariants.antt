use Rattle.std.proofs.Common.{◌≡◌, ◌++◌, cond, []}
use Rattle.std.specs.Prelude.{flat_map}
use Rattle.wf_model.specs.Lists.{numbers_from}
use Rattle.wf_model.specs.Meaning.{pairs_of}
use Rattle.cmd_describe.specs.ViewText.{pair_text}
use Rattle.cmd_describe.proofs.view_text.add_row.Given as goal

abbrev pub invariant-loop-o : goal.invariant-loop-o
invariant-loop-o l = l.line.items ≡ l.initial.line.items ++ flat_map (λ o. cond (pairs_of l.v.full l.m.0 l.i.0 o) (pair_text l.v.accepted.grammar.core l.m.0 l.i.0 o) []) (numbers_from 0 l.o)
