use Rattle.std.proofs.Common.{◌∙◌}
use Rattle.wf_labeller.proofs.Cutting.{added_ends, added_is}
use Rattle.wf_labeller.proofs.labels.add_piece.Goals as goal

pub returns-in-Ok-clause-ends : goal.returns-in-Ok-clause-ends
returns-in-Ok-clause-ends c = added_ends c.args.bytes.now.items c.args.piece.now c.args.ends.now.items c.requires _ _ _ (c.len-end.ensures ∙ c.extend_from_slice.new.self.ok.0) c.in_ok-extend_from_slice.ensures.items c.in-Ok.ensures.items

pub returns-in-Ok-clause-ok : goal.returns-in-Ok-clause-ok
returns-in-Ok-clause-ok c = added_is c.args.bytes.now.items c.args.piece.now c.args.ends.now.items c.requires _ _ _ (c.len-end.ensures ∙ c.extend_from_slice.new.self.ok.0) c.in_ok-extend_from_slice.ensures.items c.in-Ok.ensures.items
