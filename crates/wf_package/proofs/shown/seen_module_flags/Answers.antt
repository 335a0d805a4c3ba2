use Rattle.std.proofs.Common.{◌∙◌, false, length, map, get_or, ap, arith}
use Rattle.wf_model.specs.Lists.{numbers_from}
use Rattle.wf_package.proofs.FlaggedPlaces.{value_added}
use Rattle.wf_package.proofs.shown.seen_module_flags.Goals as goal

pub loop-m-preserved : goal.loop-m-preserved
loop-m-preserved c = value_added (λ m. get_or c.args.v.view.now.seen m false) c.loop-m.m _ _ _ c.loop-m.invariant c.seen.ensures c.in_ok-push.ensures.items

pub returns : goal.returns
returns c =
    let over = c.loop-m-test.false in
    let upto = c.loop-m.auto.m-end in
    c.loop-m.invariant ∙ ap (λ n. map (λ m. get_or c.args.v.view.now.seen m false) (numbers_from 0 n)) (omega (arith, ap length c.modules-m-end.ensures.modules))
