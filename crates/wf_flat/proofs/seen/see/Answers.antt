use Rattle.std.proofs.Common.{◌+◌, ◌-◌, ◌∙◌, ◌∷◌, [], sym, subst, arith, true}
use Rattle.std.proofs.lemmas.List.{length-set}
use Rattle.wf_flat.specs.Graph.{Agree}
use Rattle.wf_flat.proofs.SeenNumbers.{agree_more}
use Rattle.wf_flat.proofs.Rows.{numbers_step, go_on}
use Rattle.wf_flat.proofs.seen.see.Goals as goal

pub loop-c-preserved : goal.loop-c-preserved
loop-c-preserved c =
    let t = c.loop-c-test.true in
    let w = c.requires.within in
    let n = c.loop-c.invariant.count in
    record {
      seen = go_on _ c.loop-c.seen.items (c.loop-c.c ∷ []) _ _ _ c.in_ok-push.ensures.items c.loop-c.invariant.seen (numbers_step c.loop-c.c (c.args.first + c.args.count - c.loop-c.c) (c.args.first + c.args.count - (c.loop-c.c + 1)) (omega arith));
      agree = subst (Agree _) (sym c.in_ok-push.ensures.items) (agree_more c.loop-c.flags.items c.loop-c.seen.items c.loop-c.c (omega arith) c.loop-c.invariant.agree);
      count = length-set c.loop-c.flags.items c.loop-c.c true ∙ n;
    }
