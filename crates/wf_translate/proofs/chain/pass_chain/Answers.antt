use Rattle.std.proofs.Common.{refl}
use Rattle.wf_label.proofs.Options.{none_told, some_told}
use Rattle.wf_loops.specs.Looped.{loop_in}
use Rattle.wf_translate.specs.Chains.{steps_seen}
use Rattle.wf_translate.proofs.Options.{at_error}
use Rattle.wf_translate.proofs.LoopFacts.{are_steps}
use Rattle.wf_translate.proofs.FirstReadings.{nothing_before}
use Rattle.wf_translate.proofs.ChainEnds.{none_read, some_read}
use Rattle.wf_translate.proofs.chain.pass_chain.Goals as goal

pub returns-then-is_none-clause-read : goal.returns-then-is_none-clause-read
returns-then-is_none-clause-read c =
    none_read c.args.looped.now c.grammar-g.ensures.good c.grammar-g.result.now c.grammar-g.ensures.grammar c.end_at.result c.args.m c.args.reader.now.left (steps_seen c.args.steps.now.items) c.end_at.ensures
    (none_told _ c.loop_step.result _ c.loop_step.ensures c.if-is_none.ensures) c.requires

pub returns-in_err-c-clause-malformed : goal.returns-in_err-c-clause-malformed
returns-in_err-c-clause-malformed c =
    let l = c.args.looped.now in
    let f = c.grammar-g.ensures.good in
    at_error _ c.from_residual.result
    (λ _ _ _. nothing_before l.accepted.grammar.core (loop_in l.steps) (are_steps l f) c.args.m.0 c.args.reader.now.left (some_told _ c.loop_step.result _ c.loop_step.ensures c.if-is_none.ensures) (c.in_err-c.ensures.malformed refl))

pub pass_loops-requires-clause-loops : goal.pass_loops-requires-clause-loops
pass_loops-requires-clause-loops c = some_told _ c.loop_step.result _ c.loop_step.ensures c.if-is_none.ensures

pub returns-clause-read : goal.returns-clause-read
returns-clause-read c =
    some_read c.args.looped.now c.grammar-g.ensures.good c.in_ok-end.end c.args.m.0 c.in_ok-c.c c.args.reader.now.left c.read_number.new.reader.left (steps_seen c.args.steps.now.items) (steps_seen c.pass_loops.new.steps.items)
    c.in_ok-end.ensures c.in_ok-c.ensures.read
