use Rattle.std.proofs.Common.{◌≤◌, [], length, arith, sym, subst}
use Rattle.wf_labeller.specs.Keeping.{HasMore}
use Rattle.wf_labeller.proofs.KeptSoFar.{none_kept, one_kept, all_kept, some_kept, dotted_room}
use Rattle.wf_labeller.proofs.RootPorts.{ports-cons, no_ports, port_is}
use Rattle.wf_labeller.proofs.EdgesRead.{name_in}
use Rattle.wf_labeller.proofs.ports.keep_ports.Goals as goal

pub loop-k-init : goal.loop-k-init
loop-k-init g c = none_kept _ _ _

pub keep-requires-clause-name : goal.keep-requires-clause-name
keep-requires-clause-name g c =
    dotted_room c.args.root.now c.bytes-port.result.now c.requires.root (subst (λ n. length n ≤ 64) (sym c.bytes-port.ensures) (c.requires.short _ (name_in _ _ _ c.index-ports-k.is c.loop-k-test.true)))

pub keep-requires-clause-label : goal.keep-requires-clause-label
keep-requires-clause-label g c = omega (arith, c.bytes.ensures.few, c.in_ok-write_port.ensures.few)

pub loop-k-preserved : goal.loop-k-preserved
loop-k-preserved g c =
    one_kept g.K.Keeper.parts_of _ _ _ _ _ _ _ _ c.loop-k.invariant (ports-cons c.args.side c.args.root.now c.loop-k.k c.args.ports.now [] c.loop-k-test.true) c.in_ok-keep.ensures.ok
    (port_is c.args.side c.args.root.now c.loop-k.k c.args.ports.now [] _ _ _ _ c.bytes-port.ensures c.index-ports-k.is c.loop-k-test.true c.bytes.ensures.packed c.in_ok-write_port.ensures.ok)

pub returns-clause-ok : goal.returns-clause-ok
returns-clause-ok g c = all_kept g.K.Keeper.parts_of _ _ _ _ c.loop-k.invariant (no_ports c.args.side c.args.root.now c.loop-k.k c.args.ports.now c.loop-k-test.false)

pub returns-clause-more : goal.returns-clause-more
returns-clause-more g c = some_kept g.K.Keeper.parts_of _ _ _ _ c.loop-k.invariant

pub returns-in_err-write_port-clause-more : goal.returns-in_err-write_port-clause-more
returns-in_err-write_port-clause-more g c = some_kept g.K.Keeper.parts_of _ _ _ _ c.loop-k.invariant

pub returns-in_err-keep-clause-more : goal.returns-in_err-keep-clause-more
returns-in_err-keep-clause-more g c = subst (HasMore _) (sym c.in_err-keep.ensures.err) (some_kept g.K.Keeper.parts_of _ _ _ _ c.loop-k.invariant)
