use Rattle.std.proofs.Common.{◌≡◌, ◌∙◌, true, ap}
use Rattle.wf_events.specs.Plain.{is_plain_text}
use Rattle.wf_events.proofs.Cuts.{cut_whole}
use Rattle.wf_events.proofs.text.cut_text.Goals as goal

pub returns-clause-whole : goal.returns-clause-whole
returns-clause-whole c = cut_whole c.args.bytes.now c.split_at.result.0.now c.split_at.result.1.now c.in_ok-rest.rest.now c.plain_length.result c.split_at.ensures.front c.split_at.ensures.back c.in_ok-rest.ensures

pub returns-clause-plain : goal.returns-clause-plain
returns-clause-plain c = ap is_plain_text c.split_at.ensures.front ∙ c.plain_length.ensures.plain
