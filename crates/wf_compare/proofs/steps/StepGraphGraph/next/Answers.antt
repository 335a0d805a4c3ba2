use Rattle.std.proofs.Common.{◌≡◌, ◌<◌, ◌≤◌, ◌∙◌, Vec, Global, ap, sym, subst, length, drop, get_or, arith}
use Rattle.std.specs.Prelude.{vec_len}
use Rattle.std.proofs.Math.ListN.{drop_of_length-le}
use Rattle.std.proofs.lemmas.List.{length-map}
use Rattle.wf_graph.proofs.Searching.{drop_next}
use Rattle.wf_compare.specs.declared.steps.Leading.{Leading}
use Rattle.wf_compare.specs.Steps.{targets_in, targets_of}
use Rattle.wf_compare.proofs.FirstSteps.{row_read}
use Rattle.wf_compare.proofs.StepLists.{target_there, no_more_targets}
use Rattle.wf_compare.proofs.steps.StepGraphGraph.next.Goals as goal

pub returns-then-mark-len : goal.returns-then-mark-len
returns-then-mark-len c =
    let row = c.index-self-v.result in
    let e = row_read c.args.self.now.rows.now c.args.v row c.requires c.index-self-v.is in
    let n : c.len.result ≡ length row.items = c.len.ensures ∙ (ap (λ (x : Vec Leading Global). vec_len x) (sym c.index-self-v.is) ∙ row.ok.0) in
    let past : length row.items ≤ c.args.mark = omega arith in
    ap (λ l. drop c.args.mark (targets_of l)) e ∙ drop_of_length-le (targets_of row.items) (no_more_targets row.items c.args.mark past)

pub returns : goal.returns
returns c =
    let row = c.index-self-v.result in
    let e = row_read c.args.self.now.rows.now c.args.v row c.requires c.index-self-v.is in
    let n : c.len.result ≡ length row.items = c.len.ensures ∙ (ap (λ (x : Vec Leading Global). vec_len x) (sym c.index-self-v.is) ∙ row.ok.0) in
    let there : c.args.mark < length row.items = omega arith in
    let is = subst (λ (x : Vec Leading Global). c.index.result.now ≡ get_or x.items c.args.mark c.index.result.now) (sym c.index-self-v.is) c.index.ensures in
    let below : c.args.mark < length (targets_of row.items) = omega (arith, length-map row.items (λ (z : Leading). z.target.0)) in
    drop_next c.args.mark c.from.result (targets_of row.items) (targets_in c.args.self.now.rows.now c.args.v) (ap targets_of e) below
    (target_there row.items c.args.mark c.from.result c.index.result.now there is c.from.ensures)
