use Rattle.std.proofs.Common.{rules, refl, map, subst, ◌∙◌}
use Rattle.std.proofs.lemmas.List.{take_all}
use Rattle.wf_model.specs.Meaning.{edge_of}
use Rattle.wf_body.proofs.Passing.{ReachBy, reach_none, reach_next, reach_all, leads_within, leads_small}
use Rattle.wf_body.proofs.pass.ins_of.Goals as goal

pub loop-e-init : goal.loop-e-init
loop-e-init c = record {
  reach = reach_none c.args.g.now.core c.args.p.0 c.args.k.0 c.args.from c.args.outs.now c.begun-ins.result c.begun-ins.ensures;
  room = search rules;
}

pub bounds-outs-e : goal.bounds-outs-e
bounds-outs-e c = leads_within c.args.g.now.core c.args.p.0 c.args.k.0 c.args.leading.now c.loop-e.e-index _ c.args.outs.now c.requires.formed c.requires.production c.requires.leading c.loop-e-test.true c.requires.outs

pub bounds-outs-e-in-loop-e : goal.bounds-outs-e-in-loop-e
bounds-outs-e-in-loop-e c = (leads_small c.args.g.now.core c.args.p.0 c.args.k.0 c.args.leading.now c.loop-e.e-index _ c.requires.formed c.requires.production c.requires.leading c.loop-e-test.true).from_port

pub add-requires : goal.add-requires
add-requires c = rw c.loop-e.invariant.room ((leads_small c.args.g.now.core c.args.p.0 c.args.k.0 c.args.leading.now c.loop-e.e-index _ c.requires.formed c.requires.production c.requires.leading c.loop-e-test.true).to_port)

pub loop-e-preserved : goal.loop-e-preserved
loop-e-preserved c = record {
  reach = reach_next c.args.g.now.core c.args.p.0 c.args.k.0 c.args.from c.args.outs.now c.args.leading.now c.loop-e.e-index _ c.loop-e.ins c.add.new.words _ c.loop-e-test.true c.loop-e.invariant.reach c.add.ensures refl;
  room = c.add.auto.words ∙ c.loop-e.invariant.room;
}

pub returns : goal.returns
returns c =
    reach_all c.args.g.now.core c.args.p.0 c.args.k.0 c.args.from c.args.outs.now (map edge_of c.args.leading.now) c.loop-e.ins c.requires.leading
    (subst (λ xs. ReachBy c.args.g.now.core c.args.p.0 c.args.from c.args.k.0 c.args.outs.now (map edge_of xs) c.loop-e.ins) (take_all c.loop-e.e-index c.args.leading.now c.loop-e-test.false) c.loop-e.invariant.reach)
