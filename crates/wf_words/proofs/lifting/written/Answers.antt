use Rattle.std.proofs.Common.{◌∙◌}
use Rattle.wf_words.proofs.LiftedBits.{packed_whole, packed_read}
use Rattle.wf_words.proofs.lifting.written.Goals as goal

pub new-requires : goal.new-requires
new-requires c = packed_whole c.args.w.now.bits c.bytes.result.now c.length.result c.requires c.bytes.ensures.packed c.length.ensures

pub returns : goal.returns
returns c = c.new.ensures ∙ packed_read c.args.w.now.bits c.bytes.result.now c.length.result c.bytes.ensures.packed c.length.ensures
