use Rattle.std.proofs.Common.{◌≡◌, List, Option, ◌++◌, ◌∙◌, ap, map, length, arith}
use Rattle.std.specs.Prelude.{ℕ}
use Rattle.wf_model.specs.Lists.{numbers_from}
use Rattle.wf_flat.specs.Leading.{row_of}
use Rattle.wf_flat.proofs.RowSteps.{rows_from, module_more, are_rows}
use Rattle.wf_flat.proofs.module_rows.rows_of.Goals as goal

pub loop-m-preserved : goal.loop-m-preserved
loop-m-preserved c =
    let g = c.args.g.now.core in
    let leaf = c.args.leaf.now in
    let m = c.loop-m.m in
    let rows = c.loop-m.rows.items in
    module_more g leaf m rows _ c.loop-m.invariant
    (c.in_ok-add_rows_of.ensures ∙ ap (λ (list : Option (List ℕ)). rows ++ map (row_of g m list) (numbers_from 0 64)) c.rows.ensures)

pub returns : goal.returns
returns c =
    let g = c.args.g.now.core in
    let leaf = c.args.leaf.now in
    let n = ap length c.modules-count.ensures.modules in
    let last : c.loop-m.m ≡ length g.modules = omega (arith, c.loop-m.auto.m-end, c.loop-m-test.false) in
    are_rows g leaf c.start-formed.ensures.formed c.loop-m.rows.items (c.loop-m.invariant ∙ ap (rows_from g leaf 0) last)
