use Rattle.label_model.specs.Reading.{IsPadding, IsPortLeft}
use Rattle.wf_label.proofs.Passes.{passed_number}
use Rattle.wf_label.proofs.PartsLeft.{port_left}
use Rattle.wf_label.proofs.parts.pass_port.Goals as goal

pub returns-clause-passed : goal.returns-clause-passed
returns-clause-passed c =
    passed_number (IsPortLeft c.args.ports) IsPadding c.in_ok-read_number.field-0 _ _ c.in_ok-read_number.ensures.read
    (port_left c.args.ports c.in_ok-read_number.field-0 c.in_ok-read_number.ensures.below)
