use Rattle.std.proofs.Common.{◌∙◌, sym, inl}
use Rattle.wf_recur.proofs.Opening.{place_read}
use Rattle.wf_recur.proofs.rounds.open_step.Goals as goal

pub returns-then-is_some : goal.returns-then-is_some
returns-then-is_some c = inl (place_read c.args.on.now c.args.m.0 (sym c.is_some.ensures ∙ c.if-is_some.true))
