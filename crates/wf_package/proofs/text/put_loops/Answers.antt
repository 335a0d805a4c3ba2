use Rattle.std.proofs.Common.{get_or, arith, map}
use Rattle.std.proofs.lemmas.List.{length-map}
use Rattle.wf_json.proofs.Taken.{none_taken}
use Rattle.wf_package.specs.PackageText.{loop_text}
use Rattle.wf_package.specs.Parts.{loop_entry_of, no_loop_entry}
use Rattle.wf_package.proofs.PutTexts.{one_put, all_put}
use Rattle.wf_package.proofs.text.put_loops.Goals as goal

pub loop-k-init : goal.loop-k-init
loop-k-init g c = none_taken g.S.TextSink.holds c.args.out.now

pub loop-k-preserved : goal.loop-k-preserved
loop-k-preserved g c = one_put (λ k. loop_text (get_or (map loop_entry_of c.args.loops.now) k no_loop_entry)) c.loop-k.k c.loop-k.invariant c.in_ok-put_loop.ensures

pub returns : goal.returns
returns g c =
    let over = c.loop-k-test.false in
    let upto = c.loop-k.auto.k-end in
    all_put loop_text (map loop_entry_of c.args.loops.now) no_loop_entry c.loop-k.k (omega (arith, length-map c.args.loops.now loop_entry_of)) c.loop-k.invariant
