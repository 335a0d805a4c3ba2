use Rattle.std.proofs.Common.{◌≡◌, map, take}
use Rattle.wf_form.specs.Forming.{version_in}
use Rattle.wf_form.proofs.versions.versions_from.Given as goal

abbrev pub invariant-loop-part : goal.invariant-loop-part
invariant-loop-part l = l.list.items ≡ map version_in (take l.part-index l.parts)
