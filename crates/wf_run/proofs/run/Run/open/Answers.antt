use Rattle.std.proofs.Common.{sym, subst, arith}
use Rattle.std.proofs.lemmas.List.{length-map}
use Rattle.wf_run.specs.Runs.{RunSeen}
use Rattle.wf_run.specs.Nodes.{node_of, run_of}
use Rattle.wf_run.specs.Growing.{CanOpen}
use Rattle.wf_run.proofs.Extending.{can_rise}
use Rattle.wf_run.proofs.Kept.{kept_after}
use Rattle.wf_run.proofs.Limits.{expands_small}
use Rattle.wf_run.proofs.run.Run.open.Goals as goal

pub grow-requires-clause-production : goal.grow-requires-clause-production
grow-requires-clause-production c = let opens = subst (λ (r : RunSeen). CanOpen r c.args.e.instance.0 c.args.e.production.0 c.args.e.names.now) (sym c.self.view_is) c.requires in opens.fits.in_range

pub grow-requires-clause-one_each : goal.grow-requires-clause-one_each
grow-requires-clause-one_each c = let opens = subst (λ (r : RunSeen). CanOpen r c.args.e.instance.0 c.args.e.production.0 c.args.e.names.now) (sym c.self.view_is) c.requires in opens.fits.one_each

pub grow-requires-clause-room : goal.grow-requires-clause-room
grow-requires-clause-room c =
    let i = c.self.inside in
    let opens = subst (λ (r : RunSeen). CanOpen r c.args.e.instance.0 c.args.e.production.0 c.args.e.names.now) (sym c.self.view_is) c.requires in
    omega (arith, opens.room, length-map i.nodes.items node_of, c.self.invariant.most)

pub grow-requires-clause-chain : goal.grow-requires-clause-chain
grow-requires-clause-chain c =
    let i = c.self.inside in
    let k = c.self.invariant in
    let opens = subst (λ (r : RunSeen). CanOpen r c.args.e.instance.0 c.args.e.production.0 c.args.e.names.now) (sym c.self.view_is) c.requires in
    can_rise (run_of i.linear.grammar.now i.most i.names i.nodes.items i.expands) k.events c.args.e.instance.0 c.start-formed.ensures.formed k.run k.most opens.there

pub overflow_add-self : goal.overflow_add-self
overflow_add-self c =
    let i = c.self.inside in
    let k = c.self.invariant in
    let few = expands_small (run_of i.linear.grammar.now i.most i.names i.nodes.items i.expands) k.events c.start-formed.ensures.formed k.run k.most in
    omega (arith, few)

pub invariant_of-self-2 : goal.invariant_of-self-2
invariant_of-self-2 c =
    let i = c.self.inside in
    let e = c.args.e in
    let opens = subst (λ (r : RunSeen). CanOpen r e.instance.0 e.production.0 e.names.now) (sym c.self.view_is) c.requires in
    let s = c.in_default.ensures in
    rw (s.names) (kept_after i.linear.grammar.now i.most i.names i.nodes.items _ i.expands e.instance.0 e.production.0 e.names.now s.nodes c.start-formed.ensures.formed c.self.invariant opens s.fresh s.whole)
