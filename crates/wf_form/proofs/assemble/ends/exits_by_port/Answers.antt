use Rattle.std.proofs.Common.{◌∙◌, sym}
use Rattle.wf_form.specs.declared.wiring.Exit.{Exit}
use Rattle.wf_form.proofs.Assembling.{by_port_first, by_port_more, end_below}
use Rattle.wf_form.proofs.assemble.ends.exits_by_port.Goals as goal

pub index_mut-requires : goal.index_mut-requires
index_mut-requires c =
    end_below (λ (e : Exit). e.port.0) c.args.exits.now c.loop-e.e-index _ c.loop-e.ends c.args.ports c.requires.within c.loop-e-test.true c.loop-e.invariant.one_each

pub loop-e-init : goal.loop-e-init
loop-e-init c = by_port_first c.args.ports c.in_ok-ends.ends.items (sym c.in_ok-ends.ends.ok.0 ∙ c.in_ok-ends.ensures.len)

pub loop-e-preserved : goal.loop-e-preserved
loop-e-preserved c =
    by_port_more (λ (e : Exit). e.port.0) (λ (e : Exit). e.from) c.args.ports c.args.exits.now c.loop-e.e-index _ c.loop-e.ends.items c.requires.differ c.requires.within c.loop-e-test.true
    c.loop-e.invariant
