use Rattle.std.proofs.Common.{◌∙◌, map, ap, arith}
use Rattle.wf_model.specs.Grammar.{head_of}
use Rattle.wf_model.specs.Lists.{numbers_from}
use Rattle.wf_json.proofs.Seen.{length-seen}
use Rattle.wf_spec.specs.Held.{HeldProduction}
use Rattle.wf_safe.specs.Choosing.{is_seen_expanded}
use Rattle.wf_package.proofs.FlaggedPlaces.{value_added}
use Rattle.wf_package.proofs.shown.open_production_flags.Goals as goal

pub loop-p-preserved : goal.loop-p-preserved
loop-p-preserved c = value_added (λ p. is_seen_expanded c.args.v.view.now (head_of c.args.v.grammar.now.core p)) c.loop-p.p _ _ _ c.loop-p.invariant c.is_open.ensures c.in_ok-push.ensures.items

pub returns : goal.returns
returns c =
    let over = c.loop-p-test.false in
    let upto = c.loop-p.auto.p-end in
    c.loop-p.invariant ∙ ap (λ n. map (λ p. is_seen_expanded c.args.v.view.now (head_of c.args.v.grammar.now.core p)) (numbers_from 0 n))
    (omega (arith, length-seen (λ (p : HeldProduction). p.core) _ _ c.productions-p-end.ensures.productions))
