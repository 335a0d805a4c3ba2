use Rattle.std.proofs.Common.{◌<◌, None, false, length, get_or, ap, sym, ◌∙◌, arith}
use Rattle.std.specs.Prelude.{option_map}
use Rattle.wf_recur.specs.Cycles.{OnSeen, on_of}
use Rattle.wf_recur.proofs.Places.{step_told}
use Rattle.wf_label.proofs.MarksRead.{marks_below, no_chain}
use Rattle.wf_decode.proofs.read.pass_chain.Given.{Over}
use Rattle.wf_decode.proofs.read.pass_chain.Goals as goal
use Rattle.wf_decode.proofs.read.pass_chain.Goals.{After-cycles-cycles}

-- the module at which the place is left
below : (over : Over) (c : After-cycles-cycles over) → c.args.from.module.0 < length c.args.vl.now.grammar.modules
below over c =
    let r = c.requires.place.3 in
    marks_below c.args.vl.now.grammar c.cycles-cycles.ensures.label.formed c.args.from.module.0 false r.0 r.1.of_it

pub on-requires : goal.on-requires
on-requires over c =
    let a = (goal.at.on-requires over c).After-cycles-cycles in
    omega (arith, below over a, c.cycles-cycles.ensures.label.cycles_are.one_each, ap (λ t. length t.on) c.cycles-cycles.ensures.cycles)

pub returns-in-None-clause-place : goal.returns-in-None-clause-place
returns-in-None-clause-place over c = λ u x of_view r.
    let a = (goal.at.returns-in-None-clause-place over c).After-cycles-cycles in
    let l = c.args.vl.now in
    let label = c.cycles-cycles.ensures.label in
    let m = c.args.from.module.0 in
    let none = c.in-None.ensures ∙ ap (λ t. get_or t.on m None) c.cycles-cycles.ensures.cycles in
    let told = sym (step_told l.grammar l.cycles label.formed label.linear label.cycles_are m (below over a)) ∙ sym (ap (option_map (λ (o : OnSeen). o.step)) none) in
    (r.0, no_chain l.grammar m (over.R.Codes.reading c.args.bits.now).left r.0 told r.1, r.2)

pub hold_chain-requires-clause-stands : goal.hold_chain-requires-clause-stands
hold_chain-requires-clause-stands over c =
    let m = c.args.from.module.0 in
    c.cycles-cycles.ensures.label.cycles_are.on_one m (on_of c.in-Some.on) (ap (λ t. get_or t.on m None) (sym c.cycles-cycles.ensures.cycles) ∙ sym c.in-Some.ensures)
