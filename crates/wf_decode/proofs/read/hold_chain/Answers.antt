use Rattle.std.proofs.Common.{◌<◌, ◌∷◌, List, false, true, length, take, ap, sym, ◌∙◌, subst, arith, length-take}
use Rattle.std.proofs.lemmas.List.{take_more_set}
use Rattle.std.proofs.lemmas.Option.{none-some}
use Rattle.wf_model.specs.View.{View}
use Rattle.label_model.specs.Labels.{Label}
use Rattle.label_model.specs.Continuing.{continuing, after}
use Rattle.label_model.proofs.ContinuingSteps.{continuing_found}
use Rattle.wf_recur.specs.Cycles.{on_of}
use Rattle.wf_label.specs.Marks.{Mark, Chain, BeginMarks, IsChainRead}
use Rattle.wf_label.proofs.MarksRead.{marks_below}
use Rattle.wf_decode.specs.Marking.{IsReading, IsReadAt}
use Rattle.wf_decode.proofs.LabelsRead.{chain_leads, cut_hides, chain_goes}
use Rattle.wf_decode.proofs.read.hold_chain.Given.{Over}
use Rattle.wf_decode.proofs.read.hold_chain.Goals as goal
use Rattle.wf_decode.proofs.read.hold_chain.Goals.{After-grammar, After-read_chain-count}

-- a chain number was read, and it is the first mark that was left
record IsNumberRead (over : Over) (c : After-read_chain-count over) (u : View) (x : Label) : Type 0 where
  rest : List Mark
  reading : IsReading c.args.vl.now u x (take c.args.from.held c.args.legs.now) c.args.from.module.0 (Chain c.read_chain-count.result ∷ rest)
  ahead : BeginMarks c.args.vl.now.grammar (after c.args.vl.now.grammar c.read_chain-count.result c.args.from.module.0) true (over.R.Codes.reading c.read_chain-count.new.bits).left rest
  low : c.args.from.held < length c.args.legs.now

number_read : (over : Over) (c : After-read_chain-count over) (u : View) (x : Label) → IsReadAt c.args.vl.now u x (take c.args.from.held c.args.legs.now) c.args.from.module.0 false (over.R.Codes.reading c.args.bits.now).left → IsNumberRead over c u x
number_read over c u x r =
    let l = c.args.vl.now in
    let m = c.args.from.module.0 in
    let legs = take c.args.from.held c.args.legs.now in
    let read = subst (λ g. IsChainRead g m (over.R.Codes.reading c.args.bits.now).left c.read_chain-count.result (over.R.Codes.reading c.read_chain-count.new.bits).left) c.grammar.ensures.grammar c.read_chain-count.ensures.read in
    let n = read r.0 r.1 in
    let reading = subst (IsReading l u x legs m) n.1 r.2 in
    record {
      rest = n.0;
      reading = reading;
      ahead = n.2;
      low = omega (arith, reading.room, c.requires.room, length-take c.args.from.held c.args.legs.now);
    }

pub read_chain-count-requires-clause-place : goal.read_chain-count-requires-clause-place
read_chain-count-requires-clause-place over c =
    let r = c.requires.place.3 in
    (r.0, subst (λ g. BeginMarks g c.args.from.module.0 false (over.R.Codes.reading c.args.bits.now).left r.0) (sym c.grammar.ensures.grammar) r.1)

pub read_chain-count-requires-clause-on_cycle : goal.read_chain-count-requires-clause-on_cycle
read_chain-count-requires-clause-on_cycle over c = λ none.
    let m = c.args.from.module.0 in
    let s = continuing_found c.args.vl.now.grammar c.grammar.ensures.label.formed m (on_of c.args.on).step c.requires.stands.step in
    none-some s.0 (sym none ∙ ap (λ g. continuing g m) c.grammar.ensures.grammar ∙ s.1)

pub chain_leg-requires-clause-module_no : goal.chain_leg-requires-clause-module_no
chain_leg-requires-clause-module_no over c =
    let r = c.requires.place.3 in
    marks_below c.args.vl.now.grammar c.grammar.ensures.label.formed c.args.from.module.0 false r.0 r.1.of_it

pub returns-in-None-clause-place : goal.returns-in-None-clause-place
returns-in-None-clause-place over c = λ u x of_view r.
    let a = (goal.at.returns-in-None-clause-place over c).After-read_chain-count in
    let l = c.args.vl.now in
    let n = number_read over a u x r in
    cut_hides l u c.grammar.ensures.label of_view x (take c.args.from.held c.args.legs.now) c.args.from.module.0 n.rest c.read_chain-count.result n.reading c.in-None.ensures.leg

pub bounds-legs-from : goal.bounds-legs-from
bounds-legs-from over c =
    let a = (goal.at.bounds-legs-from over c).After-read_chain-count in
    let p = c.requires.place in
    (number_read over a p.0 p.1 p.3).low

pub returns-in-Some-clause-place : goal.returns-in-Some-clause-place
returns-in-Some-clause-place over c = λ u x of_view r.
    let a = (goal.at.returns-in-Some-clause-place over c).After-read_chain-count in
    let l = c.args.vl.now in
    let m = c.args.from.module.0 in
    let legs = c.args.legs.now in
    let held = c.args.from.held in
    let count = c.read_chain-count.result in
    let n = number_read over a u x r in
    let to = c.in-Some.to.0 in
    let goes = chain_goes l u c.grammar.ensures.label of_view x (take held legs) m n.rest count c.in-Some.leg to c.read_chain-count.ensures.few n.reading c.in-Some.ensures.leg in (
      n.rest,
      subst (λ k. BeginMarks l.grammar k true (over.R.Codes.reading c.read_chain-count.new.bits).left n.rest) (sym (chain_leads l m count to c.in-Some.leg c.in-Some.ensures.leg)) n.ahead,
      subst (λ z. IsReading l u x z to n.rest) (sym (take_more_set legs held c.in-Some.leg n.low)) goes,
    )
