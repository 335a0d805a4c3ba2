use Rattle.std.proofs.Common.{◌≡◌, ◌<◌, length, map, refl, sym, ap, ◌∙◌, subst, arith}
use Rattle.wf_model.specs.declared.numbers.PortNo.{PortNo}
use Rattle.wf_model.specs.Grammar.{Grammar, Production, production_at}
use Rattle.wf_model.specs.Meaning.{edge_of}
use Rattle.wf_decode.specs.Reading.{IsEdgeTold}
use Rattle.wf_decode.proofs.LabelEnds.{input_ends, output_ends, input_nowhere, output_nowhere, production_below, edge_below, end_below, edge_ends}
use Rattle.wf_decode.proofs.decision.ends.end_on.Goals as goal
use Rattle.wf_decode.proofs.decision.ends.end_on.Goals.{After-grammar, After-edges}

-- some label of the grammar under some view has these bits, and this was read of it
told : (c : After-grammar) → IsEdgeTold c.args.vl.now c.grammar.ensures.label.of_view.0 c.requires.label.0 c.in-Edge.n c.in-Edge.production.0 c.in-Edge.edge.0 c.read_label.new.legs
told c = let v = c.grammar.ensures.label.of_view in let x = c.requires.label in c.in-Edge.ensures.told v.0 x.0 v.1 x.1 x.2

pub production-requires : goal.production-requires
production-requires c =
    let l = c.args.vl.now in
    let low = production_below l c.grammar.ensures.label.of_view.0 c.requires.label.0 c.grammar.ensures.label c.in-Edge.n c.in-Edge.production.0 c.in-Edge.edge.0 c.read_label.new.legs (told c) in
    subst (λ (z : Grammar). c.in-Edge.production.0 < length z.productions) (sym c.grammar.ensures.grammar) low

-- the edges of the production
edges_are : (c : After-edges) → map edge_of c.edges.result.now ≡ (production_at c.args.vl.now.grammar c.in-Edge.production.0).edges
edges_are c = c.edges.ensures ∙ ap (λ (z : Production). z.edges) (c.production.ensures.core ∙ ap (λ (z : Grammar). production_at z c.in-Edge.production.0) c.grammar.ensures.grammar)

pub bounds-edges-edge : goal.bounds-edges-edge
bounds-edges-edge c =
    let a = goal.at.bounds-edges-edge c in
    edge_below c.args.vl.now c.grammar.ensures.label.of_view.0 c.requires.label.0 c.grammar.ensures.label c.in-Edge.n c.in-Edge.production.0 c.in-Edge.edge.0 c.read_label.new.legs (told a.After-grammar) c.edges.result.now (edges_are a.After-edges)

pub overflow_add-held : goal.overflow_add-held
overflow_add-held c =
    let a = goal.at.overflow_add-held c in
    let room = (told a.After-grammar).room in
    omega (arith, c.read_label.auto.legs)

pub hold_step-module-requires-clause-production : goal.hold_step-module-requires-clause-production
hold_step-module-requires-clause-production c =
    let a = goal.at.hold_step-module-requires-clause-production c in
    production_below c.args.vl.now c.grammar.ensures.label.of_view.0 c.requires.label.0 c.grammar.ensures.label c.in-Edge.n c.in-Edge.production.0 c.in-Edge.edge.0 c.read_label.new.legs (told a.After-grammar)

pub hold_step-module-requires-clause-position : goal.hold_step-module-requires-clause-position
hold_step-module-requires-clause-position c =
    let a = goal.at.hold_step-module-requires-clause-position c in
    end_below c.args.vl.now c.grammar.ensures.label.of_view.0 c.requires.label.0 c.grammar.ensures.label c.in-Edge.n c.in-Edge.production.0 c.in-Edge.edge.0 c.read_label.new.legs (told a.After-grammar) c.edges.result.now _ (edges_are a.After-edges)
    c.args.side c.end_of-end.result c.end_of-end.ensures

pub hold_step-module-requires-clause-room : goal.hold_step-module-requires-clause-room
hold_step-module-requires-clause-room c =
    let a = goal.at.hold_step-module-requires-clause-room c in
    (told a.After-grammar).room

pub returns-in-Edge-clause-end : goal.returns-in-Edge-clause-end
returns-in-Edge-clause-end c u x of label bits =
    let a = goal.at.returns-in-Edge-clause-end c in
    let told = c.in-Edge.ensures.told u x of label bits in
    edge_ends c.args.vl.now u x c.grammar.ensures.label c.in-Edge.n c.in-Edge.production.0 c.in-Edge.edge.0 c.read_label.new.legs told c.edges.result.now _ (edges_are a.After-edges)
    c.hold_step-module.new.legs _ c.hold_step-module.result.0 refl c.hold_step-module.ensures.module c.hold_step-module.ensures.held c.hold_step-module.ensures.length
    c.args.side c.end_of-end.result _ c.end_of-end.ensures refl refl refl

pub returns-in-Input-side-clause-end : goal.returns-in-Input-side-clause-end
returns-in-Input-side-clause-end c u x of label bits =
    input_ends c.args.vl.now u x c.args.side c.in-Input.port.0 c.root_port.result c.read_label.new.legs c.in-Input-side.is (c.in-Input.ensures.told u x of label bits) label c.root_port.ensures.module (ap (λ (z : PortNo). z.0) c.root_port.ensures.port)

pub returns-in-Output-side-clause-end : goal.returns-in-Output-side-clause-end
returns-in-Output-side-clause-end c u x of label bits = input_nowhere c.args.vl.now u x c.args.side c.in-Input.port.0 c.read_label.new.legs c.in-Output-side.is (c.in-Input.ensures.told u x of label bits)

pub returns-in-Input-side-2-clause-end : goal.returns-in-Input-side-2-clause-end
returns-in-Input-side-2-clause-end c u x of label bits = output_nowhere c.args.vl.now u x c.args.side c.in-Output.port.0 c.read_label.new.legs c.in-Input-side-2.is (c.in-Output.ensures.told u x of label bits)

pub returns-in-Output-side-2-clause-end : goal.returns-in-Output-side-2-clause-end
returns-in-Output-side-2-clause-end c u x of label bits =
    output_ends c.args.vl.now u x c.args.side c.in-Output.port.0 c.root_port-in-Output-side-2.result c.read_label.new.legs c.in-Output-side-2.is (c.in-Output.ensures.told u x of label bits) label c.root_port-in-Output-side-2.ensures.module (ap (λ (z : PortNo). z.0) c.root_port-in-Output-side-2.ensures.port)
