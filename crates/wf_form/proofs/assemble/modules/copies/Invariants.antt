use Rattle.std.proofs.Common.{◌≡◌, take}
use Rattle.wf_form.proofs.assemble.modules.copies.Given as goal

abbrev pub invariant-loop-name : goal.invariant-loop-name
invariant-loop-name l = l.list.items ≡ take l.name-index l.names
