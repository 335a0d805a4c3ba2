use Rattle.std.proofs.Common.{◌∙◌, refl, ap, subst, map, arith, length-set}
use Rattle.wf_model.specs.Grammar.{Production, production_at}
use Rattle.wf_model.specs.Meaning.{inner_of}
use Rattle.wf_model.proofs.Lists.{at_below}
use Rattle.wf_body.proofs.Entering.{held_at, whole_below}
use Rattle.wf_body.proofs.Meaning.{AtExits, exit_within, exits_more, few_exits}
use Rattle.wf_body.proofs.leads.at_exits.Goals as goal

pub bounds-outs-port : goal.bounds-outs-port
bounds-outs-port c =
    let same = c.exits-exits.ensures ∙ ap (λ (r : Production). r.exits) c.production.ensures.core in
    rw c.requires.outs ((exit_within c.args.g.now.core c.args.p.0 c.loop-o.o _ c.production.ensures.formed c.requires.production (held_at c.exits-exits.result.now c.loop-o.o _ (production_at c.args.g.now.core c.args.p.0).exits same c.loop-o-test.true)).0)

pub bounds-outs-port-in-loop-o : goal.bounds-outs-port-in-loop-o
bounds-outs-port-in-loop-o c =
    let same = c.exits-exits.ensures ∙ ap (λ (r : Production). r.exits) c.production.ensures.core in
    (exit_within c.args.g.now.core c.args.p.0 c.loop-o.o _ c.production.ensures.formed c.requires.production (held_at c.exits-exits.result.now c.loop-o.o _ (production_at c.args.g.now.core c.args.p.0).exits same c.loop-o-test.true)).1

pub offset_bounds-words-o : goal.offset_bounds-words-o
offset_bounds-words-o c =
    let few = (few_exits c.args.g.now.core c.args.p.0 c.exits-exits.result.now c.production.ensures.formed c.requires.production (c.exits-exits.ensures ∙ ap (λ (r : Production). r.exits) c.production.ensures.core)).1 in
    let test = c.loop-o-test.true in
    omega arith

pub bounds-words-o : goal.bounds-words-o
bounds-words-o c =
    let few = (few_exits c.args.g.now.core c.args.p.0 c.exits-exits.result.now c.production.ensures.formed c.requires.production (c.exits-exits.ensures ∙ ap (λ (r : Production). r.exits) c.production.ensures.core)).1 in
    let test = c.loop-o-test.true in
    omega arith

pub loop-o-preserved : goal.loop-o-preserved
loop-o-preserved c =
    let few = (few_exits c.args.g.now.core c.args.p.0 c.exits-exits.result.now c.production.ensures.formed c.requires.production (c.exits-exits.ensures ∙ ap (λ (r : Production). r.exits) c.production.ensures.core)).1 in
    let room = c.loop-o.invariant.room in
    let test = c.loop-o-test.true in
    record {
      below = exits_more c.args.outs.now (map inner_of c.exits-exits.result.now) c.loop-o.o _ _ c.loop-o.words c.loop-o.invariant.below (omega arith)
          (held_at c.exits-exits.result.now c.loop-o.o _ (map inner_of c.exits-exits.result.now) refl test) refl;
      room = length-set c.loop-o.words c.loop-o.o _ ∙ room;
    }

pub returns-clause-words : goal.returns-clause-words
returns-clause-words c =
    let same = c.exits-exits.ensures ∙ ap (λ (r : Production). r.exits) c.production.ensures.core in
    λ o i a. (let l = at_below i o (production_at c.args.g.now.core c.args.p.0).exits a in
    let past = whole_below c.exits-exits.result.now (production_at c.args.g.now.core c.args.p.0).exits c.loop-o.o same c.loop-o-test.false in
    subst (λ es. AtExits c.args.outs.now es c.loop-o.o c.loop-o.words) same c.loop-o.invariant.below o (omega arith) i a)
