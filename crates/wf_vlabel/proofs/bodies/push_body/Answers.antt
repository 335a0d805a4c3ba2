use Rattle.wf_model.specs.Meaning.{pairs_of}
use Rattle.wf_vlabel.proofs.StepGroups.{adds_position, steps_more}
use Rattle.wf_vlabel.proofs.bodies.push_body.Goals as goal

pub loop-k-preserved : goal.loop-k-preserved
loop-k-preserved c =
    let g = c.args.g.now.core in
    let p = c.args.p.0 in
    let k = c.loop-k.k in
    let first = c.len.result in
    let n = c.in_ok-push_position.field-0.0 in
    let old = c.args.pool.now in
    let now = c.loop-k.pool in
    let new = c.push_position.new.pool in
    record {
      added = adds_position g p k first n old now new c.loop-k.invariant.added c.in_ok-push_position.ensures.added;
      groups = steps_more g (pairs_of c.args.deps.now) p k first n old now new c.loop-k.invariant.added c.loop-k.invariant.groups c.in_ok-push_position.ensures.added c.in_ok-push_position.ensures.position;
    }
