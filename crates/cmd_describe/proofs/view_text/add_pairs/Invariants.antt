use Rattle.std.proofs.Common.{◌≡◌, ◌++◌}
use Rattle.std.specs.Prelude.{flat_map}
use Rattle.wf_model.specs.Lists.{numbers_from}
use Rattle.wf_model.specs.Meaning.{pairs_of}
use Rattle.cmd_describe.specs.ViewText.{row_text}
use Rattle.cmd_describe.proofs.view_text.add_pairs.Given as goal

abbrev pub invariant-loop-i : goal.invariant-loop-i
invariant-loop-i l = l.line.items ≡ l.initial.line.items ++ flat_map (row_text l.v.accepted.grammar.core (pairs_of l.v.full) l.m.0) (numbers_from 0 l.i)
