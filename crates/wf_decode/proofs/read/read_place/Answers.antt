use Rattle.std.proofs.Common.{rules, ◌<◌, true, false, List, [], ◌∷◌, length, take, refl, sym, ap, subst, ◌∙◌, arith, length-take}
use Rattle.std.proofs.lemmas.List.{take_more_set, length-set}
use Rattle.wf_model.specs.View.{View}
use Rattle.label_model.specs.Labels.{Label}
use Rattle.wf_label.specs.declared.place.Part.{Part}
use Rattle.wf_label.specs.declared.place.Part.TheVariants.{Into as IntoPart, End as EndPart}
use Rattle.wf_label.specs.Marks.{Mark, BeginMarks, IsPartRead, AreBehind, mark_of_part}
use Rattle.wf_vlabel.specs.Seen.{IsLabelOfView}
use Rattle.wf_decode.specs.declared.leg.Leg.TheVariants.{Into}
use Rattle.wf_decode.specs.Marking.{IsReading, IsReadAt}
use Rattle.wf_decode.proofs.LabelsRead.{part_left, step_goes, end_tells, place_hides}
use Rattle.wf_decode.proofs.read.read_place.Given.{Over}
use Rattle.wf_decode.proofs.read.read_place.Goals as goal
use Rattle.wf_decode.proofs.read.read_place.Goals.{In-Some, In-Into, After-read_part, at-In-Into}

-- behind the chain number a part is left
reached : (over : Over) (c : In-Some over) (u : View) (x : Label) → IsLabelOfView c.args.vl.now u → IsReadAt c.args.vl.now u x [] c.args.vl.now.grammar.start false (over.R.Codes.reading c.args.bits.now).left →
    IsReadAt c.args.vl.now u x (take c.in-Some.here.held c.pass_chain.new.legs) c.in-Some.here.module.0 true (over.R.Codes.reading c.pass_chain.new.bits).left
reached over c u x of_view r = c.in-Some.ensures.place u x of_view (c.loop-here.invariant.read u x of_view r)

-- the part that was read, and what is left behind it
record IsRead (over : Over) (c : After-read_part over) (u : View) (x : Label) (part : Part) : Type 0 where
  rest : List Mark
  reading : IsReading c.args.vl.now u x (take c.in-Some.here.held c.pass_chain.new.legs) c.in-Some.here.module.0 (mark_of_part part ∷ rest)
  behind : AreBehind c.args.vl.now.grammar part (over.R.Codes.reading c.read_part.new.bits).left rest
  low : c.in-Some.here.held < length c.pass_chain.new.legs

part_read : (over : Over) (c : After-read_part over) (u : View) (x : Label) (part : Part) →
    IsPartRead c.grammar-g.result.now.core c.in-Some.here.module.0 (over.R.Codes.reading c.pass_chain.new.bits).left part (over.R.Codes.reading c.read_part.new.bits).left →
    IsReadAt c.args.vl.now u x (take c.in-Some.here.held c.pass_chain.new.legs) c.in-Some.here.module.0 true (over.R.Codes.reading c.pass_chain.new.bits).left → IsRead over c u x part
part_read over c u x part read r =
    let l = c.args.vl.now in
    let m = c.in-Some.here.module.0 in
    let bits = (over.R.Codes.reading c.pass_chain.new.bits).left in
    let left = (over.R.Codes.reading c.read_part.new.bits).left in
    let p = part_left l u x (take c.in-Some.here.held c.pass_chain.new.legs) m bits left part (subst (λ g. IsPartRead g m bits part left) c.grammar-g.ensures.grammar read) r in
    record {
      rest = p.0;
      reading = p.1;
      behind = p.2;
      low = omega (arith, p.1.room, c.requires.room, c.in-Some.ensures.room, c.loop-here.invariant.room, length-take c.in-Some.here.held c.pass_chain.new.legs);
    }

pub loop-here-init : goal.loop-here-init
loop-here-init over c = record { room = refl; read = λ u x of_view r. subst (λ m. IsReadAt c.args.vl.now u x [] m false (over.R.Codes.reading c.args.bits.now).left) (ap (λ g. g.start) (sym c.grammar-g.ensures.grammar) ∙ sym c.start.ensures.start) r }

pub returns-then-not-expanded-clause-told : goal.returns-then-not-expanded-clause-told
returns-then-not-expanded-clause-told over c = λ u x of_view r0.
    let a = (goal.at.returns-then-not-expanded-clause-told over c).In-Some in
    let r = reached over a u x of_view r0 in
    place_hides c.args.vl.now u c.grammar-g.ensures.label of_view x (take c.in-Some.here.held c.pass_chain.new.legs) c.in-Some.here.module.0 true r.0 r.1.of_it r.2 (sym c.if-not-expanded.ensures)

pub read_part-requires : goal.read_part-requires
read_part-requires over c =
    let a = (goal.at.read_part-requires over c).In-Some in
    let p = c.requires.place in
    let r = reached over a p.0 p.1 p.2 p.3 in
    (r.0, subst (λ g. BeginMarks g c.in-Some.here.module.0 true (over.R.Codes.reading c.pass_chain.new.bits).left r.0) (sym c.grammar-g.ensures.grammar) r.1)

-- there is room for one leg more
room : (over : Over) (c : In-Into over) → c.in-Some.here.held < length c.pass_chain.new.legs
room over c =
    let a = at-In-Into over c in
    let p = c.requires.place in
    (part_read over a.After-read_part p.0 p.1 (IntoPart c.in-Into.step c.in-Into.module) c.in-Into.ensures.read (reached over a.In-Some p.0 p.1 p.2 p.3)).low

pub bounds-legs-here : goal.bounds-legs-here
bounds-legs-here over c = room over c

pub offset_bounds-legs-here : goal.offset_bounds-legs-here
offset_bounds-legs-here over c = search (rules, arith, room over c, c.loop-here.auto.legs, c.in-Some.ensures.room, c.loop-here.invariant.room)

pub overflow_add-to : goal.overflow_add-to
overflow_add-to over c =
    let a = (goal.at.overflow_add-to over c).In-Into in
    search (rules, arith, room over a, c.loop-here.auto.legs, c.in-Some.ensures.room, c.loop-here.invariant.room)

pub loop-here-preserved : goal.loop-here-preserved
loop-here-preserved over c =
    let a = goal.at.loop-here-preserved over c in
    let l = c.args.vl.now in
    let legs = c.pass_chain.new.legs in
    let held = c.in-Some.here.held in
    let leg = Into c.in-Into.step in
    record {
      room = length-set legs held leg ∙ (c.in-Some.ensures.room ∙ c.loop-here.invariant.room);
      read = λ u x of_view r0.
          let p = part_read over a.After-read_part u x (IntoPart c.in-Into.step c.in-Into.module) c.in-Into.ensures.read (reached over a.In-Some u x of_view r0) in
          let goes = step_goes l u c.grammar-g.ensures.label of_view x (take held legs) c.in-Some.here.module.0 p.rest c.in-Into.step c.in-Into.module.0 p.behind.0 p.reading (sym c.expanded.ensures ∙ c.if-not-expanded.false) in
          (p.rest, p.behind.1, subst (λ z. IsReading l u x z c.in-Into.module.0 p.rest) (sym (take_more_set legs held leg p.low)) goes);
    }

pub returns-in-End-clause-told : goal.returns-in-End-clause-told
returns-in-End-clause-told over c = λ u x of_view r0.
    let a = goal.at.returns-in-End-clause-told over c in
    let p = part_read over a.After-read_part u x (EndPart c.in-End.production c.in-End.edge) c.in-End.ensures.read (reached over a.In-Some u x of_view r0) in
    let legs = c.pass_chain.new.legs in
    let held = c.in-Some.here.held in
    end_tells c.args.vl.now u c.grammar-g.ensures.label of_view x (take held legs) c.in-Some.here.module.0 p.rest c.in-End.production.0 c.in-End.edge.0 legs held refl p.low p.reading (sym c.expanded.ensures ∙ c.if-not-expanded.false)
