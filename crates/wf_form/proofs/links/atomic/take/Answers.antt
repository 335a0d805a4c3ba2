use Rattle.std.proofs.Common.{◌∙◌, sym}
use Rattle.wf_form.proofs.Heads.{taken, added}
use Rattle.wf_form.proofs.links.atomic.take.Goals as goal

pub returns-then-holds : goal.returns-then-holds
returns-then-holds c = taken c.args.names.now c.args.name.now (sym c.holds.ensures ∙ c.if-holds.true)

pub returns : goal.returns
returns c = added c.args.names.now c.add.new.self c.args.name.now c.in_ok-add.ensures.added
