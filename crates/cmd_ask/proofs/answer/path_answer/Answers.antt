use Rattle.std.proofs.Common.{length, sym, subst}
use Rattle.wf_flat.specs.Item.{IsItemWithin}
use Rattle.cmd_ask.specs.Prepared.{PreparedSeen}
use Rattle.cmd_ask.proofs.PathAnswers.{joined_answer, apart_answer}
use Rattle.cmd_ask.proofs.answer.path_answer.Goals as goal

pub returns-then-joined-clause-path : goal.returns-then-joined-clause-path
returns-then-joined-clause-path c =
    let p = c.p.inside in
    let first = subst (λ (q : PreparedSeen). IsItemWithin (length q.run.instances) c.args.first) (sym c.p.view_is) c.requires.first in
    let second = subst (λ (q : PreparedSeen). IsItemWithin (length q.run.instances) c.args.second) (sym c.p.view_is) c.requires.second in
    rw (← c.p.view_is)
    (λ ls graph within. joined_answer p.viewed.now.accepted.grammar.core p.run.now c.p.invariant.run ls within c.args.first.to c.args.second.from c.in-Some.from c.in-Some-from.to c.in-Some.is c.in-Some-from.is first.to second.from c.in_ok-joined.joined (λ names. c.in_ok-joined.ensures.by_name ls names graph) c.if-joined.true)

pub returns-clause-path : goal.returns-clause-path
returns-clause-path c =
    let p = c.p.inside in
    let first = subst (λ (q : PreparedSeen). IsItemWithin (length q.run.instances) c.args.first) (sym c.p.view_is) c.requires.first in
    let second = subst (λ (q : PreparedSeen). IsItemWithin (length q.run.instances) c.args.second) (sym c.p.view_is) c.requires.second in
    rw (← c.p.view_is)
    (λ ls graph within. apart_answer p.viewed.now.accepted.grammar.core p.run.now c.p.invariant.run ls within c.args.first.to c.args.second.from c.in-Some.from c.in-Some-from.to c.in-Some.is c.in-Some-from.is first.to second.from c.in_ok-joined.joined (λ names. c.in_ok-joined.ensures.by_name ls names graph) c.if-joined.false)
