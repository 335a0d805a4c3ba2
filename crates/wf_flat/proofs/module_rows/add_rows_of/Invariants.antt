use Rattle.std.proofs.Common.{◌≡◌, ◌++◌, map}
use Rattle.std.specs.Prelude.{option_map}
use Rattle.wf_model.specs.Lists.{numbers_from}
use Rattle.wf_flat.specs.Leading.{row_of}
use Rattle.wf_flat.proofs.module_rows.add_rows_of.Given as goal

abbrev pub invariant-loop-i : goal.invariant-loop-i
invariant-loop-i l = l.rows.items ≡ l.initial.rows.items ++ map (row_of l.g.core l.m.0 (option_map (λ r. r.now) l.list)) (numbers_from 0 l.i)
