use Rattle.std.proofs.Common.{OnOk, subst, codes}
use Rattle.wf_json.specs.Writing.{Takes}
use Rattle.wf_json.proofs.Joined.{joined_more}
use Rattle.wf_json.proofs.Taken.{none_taken}
use Rattle.wf_json.proofs.writing.list.put_items.Goals as goal

pub loop-k-init : goal.loop-k-init
loop-k-init g c = λ text calls. none_taken g.S.TextSink.holds c.args.out.now

pub loop-k-preserved : goal.loop-k-preserved
loop-k-preserved g c = λ text calls.
    joined_more text (codes ",") c.loop-k.k (c.loop-k.invariant text calls) c.in_ok-put_comma.ensures
    (subst (λ (r : _). OnOk r (Takes g.S.TextSink.holds c.put_comma.new.out c.put.new.arg2 (text c.loop-k.k))) c.in_ok-put.was (calls _ _ _ _ c.loop-k-test.true c.put.ensures))
