use Rattle.std.proofs.Common.{map}
use Rattle.wf_model.specs.Meaning.{inner_of}
use Rattle.wf_form.proofs.Meeting.{table_told}
use Rattle.wf_form.proofs.links.tables.differ.Goals as goal

pub returns : goal.returns
returns c = table_told c.args.positions (map inner_of c.args.ends.now) c.in_ok-marks.marks c.is_some.result (λ i h. (c.requires.small i h).1) c.is_some.ensures c.in_ok-marks.ensures
