use Rattle.std.proofs.Common.{ap, sym, ◌∙◌, true≢false}
use Rattle.std.specs.Prelude.{is_some}
use Rattle.wf_flat.proofs.table.PlainRun.place.Goals as goal

pub unreachable-requires : goal.unreachable-requires
unreachable-requires c = true≢false (sym c.in_default.ensures.there ∙ ap is_some c.in_default-found.is)
