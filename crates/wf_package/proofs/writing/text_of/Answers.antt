use Rattle.std.proofs.Common.{[]}
use Rattle.wf_package.proofs.writing.text_of.Goals as goal

pub returns : goal.returns
returns c = c.in_ok-put_package.ensures.taken [] c.new-text.ensures.items
