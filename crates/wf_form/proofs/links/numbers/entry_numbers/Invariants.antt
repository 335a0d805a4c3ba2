use Rattle.std.proofs.Common.{◌≡◌, map, take}
use Rattle.wf_model.specs.declared.parts.EntryPart.{EntryPart}
use Rattle.wf_model.specs.Lists.{IsIn}
use Rattle.wf_model.specs.Meaning.{position_of}
use Rattle.wf_form.specs.Wiring.{entry_of, entry_link, IsEntryIn}
use Rattle.wf_form.proofs.links.numbers.entry_numbers.Given as goal

abbrev pub invariant-loop-part : goal.invariant-loop-part
invariant-loop-part l = record {
  numbered : map entry_of l.list.items ≡ map (entry_link l.modules (map position_of l.body) l.head) (take l.part-index l.parts);
  all : (e : EntryPart) → IsIn e (take l.part-index l.parts) → IsEntryIn l.modules (map position_of l.body) l.head e;
}
