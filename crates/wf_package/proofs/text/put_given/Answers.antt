use Rattle.std.proofs.Common.{get_or, arith}
use Rattle.wf_json.proofs.Taken.{none_taken}
use Rattle.wf_package.specs.PackageText.{given_text}
use Rattle.wf_package.specs.Parts.{no_given_part}
use Rattle.wf_package.proofs.PutTexts.{one_put, all_put}
use Rattle.wf_package.proofs.text.put_given.Goals as goal

pub loop-k-init : goal.loop-k-init
loop-k-init g c = none_taken g.S.TextSink.holds c.args.out.now

pub loop-k-preserved : goal.loop-k-preserved
loop-k-preserved g c = one_put (λ k. given_text (get_or (c.args.given.now) k no_given_part)) c.loop-k.k c.loop-k.invariant c.in_ok-put_part.ensures

pub returns : goal.returns
returns g c =
    let over = c.loop-k-test.false in
    let upto = c.loop-k.auto.k-end in
    all_put given_text (c.args.given.now) no_given_part c.loop-k.k (omega arith) c.loop-k.invariant
