use Rattle.std.proofs.Common.{◌<◌, ◌*◌, ◌∙◌, nat_le, length, get_or, refl, sym, ap, subst, inl, true≢false}
use Rattle.std.proofs.lemmas.Bool.{and_parts, and_from, leb-true, le-leb}
use Rattle.wf_model.specs.Lists.{IsIn}
use Rattle.wf_spec.proofs.FirstFaults.{fails_at, holds_more}
use Rattle.wf_spec.proofs.Tables.{get_in}
use Rattle.wf_automaton.specs.Rules.{HasFewPortsIn}
use Rattle.wf_automaton.proofs.checks.check_ports.Goals as goal

pub has_few_ports-requires-clause-ports : goal.has_few_ports-requires-clause-ports
has_few_ports-requires-clause-ports c =
    let one = c.one-item.result in
    let list = c.modules-one-items.result.now in
    let f = c.modules-one-items.ensures.formed.modules one (subst (IsIn one) c.modules-one-items.ensures.modules (subst (λ x. IsIn x list) (sym c.one-item.is) (get_in c.loop-one.one-index list one c.loop-one-test.true))) in
    (f.few_inputs, f.few_outputs)

pub returns-then-not-has_few_ports-clause-refused : goal.returns-then-not-has_few_ports-clause-refused
returns-then-not-has_few_ports-clause-refused c =
    let one = c.one-item.result in
    let i = c.loop-one.one-index in
    let k = c.args.states in
    inl (
      i,
      fails_at (HasFewPortsIn k) c.args.g.now.core.modules i one c.loop-one.invariant
          (λ h. true≢false (sym (and_from (nat_le (length one.inputs * k) 64) (nat_le (length one.outputs * k) 64) (le-leb (length one.inputs * k) 64 h.0) (le-leb (length one.outputs * k) 64 h.1)) ∙ (sym c.has_few_ports.ensures ∙ c.if-not-has_few_ports.true)))
          (c.one-item.is ∙ ap (λ ms. get_or ms i one) c.modules-one-items.ensures.modules) (subst (λ ms. i < length ms) c.modules-one-items.ensures.modules c.loop-one-test.true),
      refl,
    )

pub loop-one-preserved : goal.loop-one-preserved
loop-one-preserved c =
    let one = c.one-item.result in
    let i = c.loop-one.one-index in
    let k = c.args.states in
    let p = and_parts (nat_le (length one.inputs * k) 64) (nat_le (length one.outputs * k) 64) (sym c.has_few_ports.ensures ∙ c.if-not-has_few_ports.false) in
    holds_more (HasFewPortsIn k) c.args.g.now.core.modules i one c.loop-one.invariant (leb-true (length one.inputs * k) 64 p.0, leb-true (length one.outputs * k) 64 p.1)
    (c.one-item.is ∙ ap (λ ms. get_or ms i one) c.modules-one-items.ensures.modules)
