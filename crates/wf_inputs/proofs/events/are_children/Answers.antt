use Rattle.std.proofs.Common.{◌∙◌, sym, arith, ⊎_elim}
use Rattle.std.proofs.lemmas.Bool.{ne_eqb}
use Rattle.wf_inputs.proofs.PlainRuns.{its_production, are_there, children_are, more_or_fewer}
use Rattle.wf_inputs.proofs.events.are_children.Goals as goal

pub returns-in_default-production : goal.returns-in_default-production
returns-in_default-production c = λ instance e at is.
    let p = its_production c.args.g.now.core c.args.run.now c.requires c.instances-instances.result.now c.instances-instances.ensures.instances c.args.number c.in-Some.x.now c.in-Some.ensures.lookup.3.1 instance e at is in
    absurd (c.in_default-production.not-Some p.0 p.1)

pub returns-in_default-get : goal.returns-in_default-get
returns-in_default-get c = λ instance e at is.
    let there = are_there c.args.g.now.core c.args.run.now c.requires c.instances-instances.result.now c.instances-instances.ensures.instances c.args.number c.in-Some.x.now c.in-Some.ensures.lookup.3.1 instance e at is c.in-Some-production.p c.in-Some-production.is in
    let past = c.in_default-get.ensures.lookup.0 in
    absurd (⊎_elim (λ l. omega (arith, l, there)) (λ l. omega (arith, l)) past)

pub returns-then-names-count_positions : goal.returns-then-names-count_positions
returns-then-names-count_positions c = λ instance e at is.
    c.have_names.ensures ∙
    children_are c.args.g.now.core c.args.run.now c.requires c.instances-instances.result.now c.instances-instances.ensures.instances c.args.number c.in-Some.x.now c.in-Some.ensures.lookup.3.1 instance e at is c.in-Some-production.p c.in-Some-production.is
    c.in-Some-get.children.now c.in-Some-get.ensures.lookup.0.2 c.args.names.now (c.if-names-count_positions.true ∙ c.count_positions.ensures)

pub returns-else-names-count_positions : goal.returns-else-names-count_positions
returns-else-names-count_positions c = λ instance e at is.
    ne_eqb _ _ c.if-names-count_positions.false ∙
    more_or_fewer c.args.g.now.core c.args.run.now c.requires c.instances-instances.result.now c.instances-instances.ensures.instances c.args.number c.in-Some.x.now c.in-Some.ensures.lookup.3.1 instance e at is c.in-Some-production.p c.in-Some-production.is
    c.args.names.now (λ q. c.if-names-count_positions.false (q ∙ sym c.count_positions.ensures))
