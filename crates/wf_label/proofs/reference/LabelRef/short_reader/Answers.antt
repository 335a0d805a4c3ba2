use Rattle.std.proofs.Common.{false, replicate, ap, ◌∙◌}
use Rattle.bit_pack.specs.Bits.{bits_of}
use Rattle.bit_pack.specs.Reading.{Reading}
use Rattle.wf_label.proofs.reference.LabelRef.short_reader.Goals as goal

pub returns : goal.returns
returns c = let holds = c.bytes.ensures.holds in (replicate holds.padding false, ap (λ (r : Reading). r.left) c.new.ensures ∙ (ap bits_of c.in_ok-short.ensures ∙ holds.is))
