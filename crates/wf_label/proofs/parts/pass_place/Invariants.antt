use Rattle.std.proofs.Common.{◌<◌, length}
use Rattle.label_model.specs.Reading.{IsPlaceLeft}
use Rattle.wf_label.specs.Parts.{IsPassed}
use Rattle.wf_label.proofs.parts.pass_place.Given as goal

abbrev pub invariant-loop-next : goal.invariant-loop-next
invariant-loop-next l = record {
  in_range : l.m.0 < length l.g.grammar.now.core.modules;
  passed : IsPassed (IsPlaceLeft l.g.grammar.now.core l.g.grammar.now.core.start) (IsPlaceLeft l.g.grammar.now.core l.m.0) l.initial.reader l.reader;
}

abbrev pub decreases-loop-next : goal.decreases-loop-next
decreases-loop-next l = length l.reader.left
