use Rattle.std.proofs.Common.{◌≡◌, length, refl, arith}
use Rattle.wf_model.specs.Grammar.{body_of}
use Rattle.wf_gen.proofs.Children.{counted, child_more}
use Rattle.wf_gen.proofs.pending.put_children.Goals as goal

pub loop-k-preserved : goal.loop-k-preserved
loop-k-preserved c =
    let g = c.args.g.now.core in
    let count : length c.positions-count.result.now ≡ length (body_of c.args.g.now.core c.args.p.0) = counted c.args.g.now.core c.args.p.0 _ c.positions-count.result.now _ refl c.positions-count.ensures c.production.ensures.core in
    record {
      items = child_more c.args.g.now.core c.args.first c.loop-k.k (body_of c.args.g.now.core c.args.p.0) _ _ _ c.target.result.0 (omega (arith, count, c.loop-k-test.true)) c.target.ensures.target c.loop-k.invariant.items c.put_composite.ensures.items;
      few = omega (arith, c.loop-k.invariant.few, c.put_composite.ensures.len);
      room = omega (arith, c.loop-k.invariant.room, c.put_composite.ensures.capacity);
    }
