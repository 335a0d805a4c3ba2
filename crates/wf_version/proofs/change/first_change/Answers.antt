use Rattle.std.proofs.Common.{◌∙◌, below_more, sym, ap, length, arith, true≢false}
use Rattle.wf_version.proofs.FirstProductions.{composite_below}
use Rattle.wf_version.proofs.change.first_change.Goals as goal

pub loop-m-preserved : goal.loop-m-preserved
loop-m-preserved c = below_more _ _ c.loop-m.invariant (λ q. true≢false (sym (c.gets_on.ensures.1 q) ∙ c.if-gets_on.false))

pub returns : goal.returns
returns c = λ k q.
    let low = composite_below c.args.g.grammar.now.core c.args.version.modules c.args.version.productions c.requires.version k q.0 in
    let few = c.requires.version.modules in
    let count = ap length c.modules-m-end.ensures.modules in
    c.loop-m.invariant k (omega arith) q
