use Rattle.std.proofs.Common.{List, length, ap, arith}
use Rattle.wf_model.specs.Grammar.{Module}
use Rattle.wf_model.specs.Meaning.{pairs_of}
use Rattle.wf_compare.specs.Pairs.{Differs}
use Rattle.wf_compare.proofs.BorderPairs.{module_passed, none_differs}
use Rattle.wf_compare.proofs.pairs.first_pair.Goals as goal

pub loop-k-init : goal.loop-k-init
loop-k-init c = λ m l. absurd (omega arith)

pub loop-k-preserved : goal.loop-k-preserved
loop-k-preserved c =
    module_passed (Differs c.args.way c.args.coarse.grammar.now.core c.args.coarse.view.now.core (pairs_of c.args.full.now)) c.loop-k.k c.loop-k.invariant c.in_default.ensures

pub returns : goal.returns
returns c =
    let past = c.loop-k-test.false in
    let same = ap (λ (ms : List Module). length ms) c.modules-k-end.ensures.modules in
    none_differs c.args.way c.args.coarse.grammar.now.core c.args.coarse.view.now.core (pairs_of c.args.full.now) c.loop-k.k c.modules-k-end.ensures.formed (omega arith) c.loop-k.invariant
