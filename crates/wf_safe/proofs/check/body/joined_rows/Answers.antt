use Rattle.std.proofs.Common.{◌↔◌, ◌+◌, ◌<◌, ◌^◌, ◌∙◌, ℕ, IsTrue, List, [], ◌∷◌, None, Vec, ap, sym, subst, length, length-append, arith}
use Rattle.std.specs.List.{All}
use Rattle.std.specs.declared.alloc.Global.{Global}
use Rattle.std.proofs.lemmas.List.Elements.{All-append, All-cons, All-nil}
use Rattle.wf_model.specs.Links.{input, output}
use Rattle.wf_model.specs.Meaning.{pairs_of}
use Rattle.wf_model.specs.Safe.{BodyJoins}
use Rattle.bool_mat.specs.Matrix.{has}
use Rattle.wf_graph.specs.Graph.{InRange, IsReached}
use Rattle.wf_safe.specs.BodyGraph.{vertex_of}
use Rattle.wf_safe.proofs.BodyRows.{rows_more}
use Rattle.wf_safe.proofs.Vertices.{in_range, reached_is}
use Rattle.wf_safe.proofs.check.body.joined_rows.Goals as goal

pub joined_row-requires-clause-in_range : goal.joined_row-requires-clause-in_range
joined_row-requires-clause-in_range c =
    subst InRange (sym c.deref.ensures.value)
    (in_range c.args.g.now.core (pairs_of c.args.deps.now) c.args.p.0 c.in_ok-graph.graph.items c.production.ensures.formed c.requires.production c.in_ok-graph.ensures.edges c.in_ok-graph.ensures.vertices)

pub loop-i-preserved : goal.loop-i-preserved
loop-i-preserved c =
    let g = c.args.g.now.core in
    let d = pairs_of c.args.deps.now in
    let p = c.args.p.0 in
    let outputs = c.output_count-outputs.result in
    let few = c.output_count-outputs.ensures.few in
    let many = c.input_count-i-end.ensures.few in
    let test = c.loop-i-test.true in
    let small : c.loop-i.i < 64 = omega arith in
    let rows = c.loop-i.rows.items in
    let row = c.in_ok-row.row in
    let e = c.in_ok-push.ensures.items in
    record {
      count = ap length e ∙ (length-append rows (row ∷ []) ∙ ap (λ n. n + 1) c.loop-i.invariant.count);
      pairs = rows_more (BodyJoins g d p) outputs c.loop-i.i row rows c.push.new.self.items c.loop-i.invariant.count e c.loop-i.invariant.pairs
          (λ o l. let low : o < 64 = omega arith in
          let told = subst (λ (graph : List (Vec ℕ Global)). (q : ℕ) → q < outputs → IsTrue (has row q) ↔ IsReached graph (vertex_of (input None c.loop-i.i)) (vertex_of (output None q))) c.deref.ensures.value c.in_ok-row.ensures.joined o l in
          let path = reached_is g d p c.in_ok-graph.graph.items c.production.ensures.formed c.requires.production c.in_ok-graph.ensures.edges (input None c.loop-i.i) (output None o) small low in
          (λ t. path.0 (told.0 t), λ w. told.1 (path.1 w)));
      no_more = subst (All (λ r. r < 2 ^ outputs)) (sym e)
          (All-append (λ r. r < 2 ^ outputs) rows (row ∷ []) c.loop-i.invariant.no_more (All-cons (λ r. r < 2 ^ outputs) row [] c.in_ok-row.ensures.within (All-nil (λ r. r < 2 ^ outputs))));
    }
