use Rattle.std.proofs.Common.{◌≡◌, ◌∙◌, cond, [], ◌∷◌, refl, subst}
use Rattle.std.specs.Prelude.{◌==◌}
use Rattle.std.specs.Int.{bit_at}
use Rattle.wf_safe.specs.BodyGraph.{AddsLinks, link_of, pair_link}
use Rattle.wf_safe.proofs.BodyLinks.{has_is, row_step}
use Rattle.wf_safe.proofs.LinkGraphs.{completes_more}
use Rattle.wf_safe.proofs.check.graph.add_row.Goals as goal

pub loop-o-preserved : goal.loop-o-preserved
loop-o-preserved c =
    let k = c.args.k.0 in
    let i = c.args.i.0 in
    let o = c.loop-o.o in
    let same : cond c.has_column.result (link_of c.input_port-from.result c.output_port-to.result ∷ []) [] ≡ cond (bit_at c.args.row o == 1) (pair_link k i o ∷ []) [] =
    rw (c.has_column.ensures, c.from.ensures, has_is c.args.row o, c.input_port-from.ensures, c.output_port-to.ensures) refl in
    record {
      count = c.in_ok-add_if.ensures.count ∙ c.loop-o.invariant.count;
      left = completes_more _ (cond (bit_at c.args.row o == 1) (pair_link k i o ∷ []) []) _ _ _ c.loop-o.graph.items c.add_if.new.graph.items (row_step k i c.args.row o c.args.outputs c.loop-o-test.true)
          (subst (λ l. AddsLinks l c.loop-o.graph.items c.add_if.new.graph.items) same c.in_ok-add_if.ensures) c.loop-o.invariant.left;
    }
