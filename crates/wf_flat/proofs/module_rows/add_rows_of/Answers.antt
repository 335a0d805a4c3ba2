use Rattle.std.proofs.Common.{◌++◌, ◌∷◌, [], ◌∙◌, ap}
use Rattle.std.specs.Prelude.{option_map}
use Rattle.wf_flat.specs.Leading.{row_of}
use Rattle.wf_flat.proofs.Numbered.{numbered_more}
use Rattle.wf_flat.proofs.module_rows.add_rows_of.Goals as goal

pub loop-i-preserved : goal.loop-i-preserved
loop-i-preserved c =
    let rows = c.loop-i.rows.items in
    numbered_more (row_of c.args.g.now.core c.args.m.0 (option_map (λ r. r.now) c.args.list)) c.loop-i.i c.args.rows.now.items rows _ c.loop-i.invariant
    (c.in_ok-push.ensures.items ∙ ap (λ r. rows ++ r ∷ []) c.row_of.ensures)
