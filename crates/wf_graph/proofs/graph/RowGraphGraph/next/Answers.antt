use Rattle.std.proofs.Common.{◌≡◌, ◌<◌, ◌≤◌, ◌∙◌, ℕ, Vec, Global, ap, sym, subst, length, drop, get_or, arith}
use Rattle.std.specs.Prelude.{vec_len}
use Rattle.std.proofs.Math.ListN.{drop_of_length-le}
use Rattle.wf_graph.specs.Graph.{nexts}
use Rattle.wf_graph.proofs.Searching.{nexts_read, drop_next}
use Rattle.wf_graph.proofs.graph.RowGraphGraph.next.Goals as goal

pub returns-then-mark-len : goal.returns-then-mark-len
returns-then-mark-len c =
    let row = c.index-self-v.result in
    let e = nexts_read c.args.self.now.rows.now c.args.v row c.requires c.index-self-v.is in
    let n : c.len.result ≡ length row.items = c.len.ensures ∙ (ap (λ (x : Vec ℕ Global). vec_len x) (sym c.index-self-v.is) ∙ row.ok.0) in
    let past : length row.items ≤ c.args.mark = omega arith in
    ap (drop c.args.mark) e ∙ drop_of_length-le row.items past

pub returns : goal.returns
returns c =
    let row = c.index-self-v.result in
    let e = nexts_read c.args.self.now.rows.now c.args.v row c.requires c.index-self-v.is in
    let n : c.len.result ≡ length row.items = c.len.ensures ∙ (ap (λ (x : Vec ℕ Global). vec_len x) (sym c.index-self-v.is) ∙ row.ok.0) in
    let there : c.args.mark < length row.items = omega arith in
    let is = subst (λ (x : Vec ℕ Global). c.index.result.now ≡ get_or x.items c.args.mark c.index.result.now) (sym c.index-self-v.is) c.index.ensures in
    drop_next c.args.mark c.index.result.now row.items (nexts c.args.self.now.rows.now c.args.v) e there is
