use Rattle.std.proofs.Common.{◌≡◌, ◌<◌, length}
use Rattle.std.specs.Option.{IfSome}
use Rattle.wf_model.specs.declared.numbers.ModNo.{ModNo}
use Rattle.label_model.specs.Reading.{IsLabelLeft}
use Rattle.wf_label.specs.Parts.{IsPassed, IsNextLeft, at_front}
use Rattle.wf_label.proofs.checker.Checker.pass_rest.Given as goal

abbrev pub invariant-loop-next : goal.invariant-loop-next
invariant-loop-next l = record {
  same : l.self ≡ l.fn.self;
  in_range : IfSome l.next (λ (m : ModNo). m.0 < length l.self.modules);
  passed : IsPassed (IsLabelLeft l.self) (IsNextLeft l.self l.next) (at_front l.fn.short.bytes.now) l.reader;
}

abbrev pub decreases-loop-next : goal.decreases-loop-next
decreases-loop-next l = length l.reader.left
