use Rattle.std.proofs.Common.{get_or, arith, map}
use Rattle.std.proofs.lemmas.List.{length-map}
use Rattle.wf_json.proofs.Taken.{none_taken}
use Rattle.wf_spec.specs.GivenRows.{pair_of}
use Rattle.wf_package.specs.PackageText.{named_pair}
use Rattle.wf_package.proofs.PutTexts.{one_put, all_put}
use Rattle.wf_package.proofs.text.put_pairs.Goals as goal

pub loop-k-init : goal.loop-k-init
loop-k-init g c = none_taken g.S.TextSink.holds c.args.out.now

pub loop-k-preserved : goal.loop-k-preserved
loop-k-preserved g c = one_put (λ k. named_pair (get_or (map pair_of c.args.pairs.now) k (0, 0))) c.loop-k.k c.loop-k.invariant c.in_ok-put_pair.ensures

pub returns : goal.returns
returns g c =
    let over = c.loop-k-test.false in
    let upto = c.loop-k.auto.k-end in
    all_put named_pair (map pair_of c.args.pairs.now) (0, 0) c.loop-k.k (omega (arith, length-map c.args.pairs.now pair_of)) c.loop-k.invariant
