use Rattle.std.proofs.Common.{take, map}
use Rattle.wf_model.specs.Meaning.{inner_of}
use Rattle.wf_form.specs.Ends.{IsTable}
use Rattle.wf_form.proofs.links.tables.table.Given as goal

abbrev pub invariant-loop-i : goal.invariant-loop-i
invariant-loop-i l = IsTable l.positions l.marks.items (map inner_of (take l.i-index l.ends))
