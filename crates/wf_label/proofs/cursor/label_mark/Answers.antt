use Rattle.std.proofs.Common.{false, [], refl, sym, subst}
use Rattle.wf_label.specs.Marks.{BeginMarks}
use Rattle.wf_label.proofs.cursor.label_mark.Goals as goal

pub place_mark-requires : goal.place_mark-requires
place_mark-requires over c =
    let g = c.args.g.grammar.now.core in
    let m = c.requires.marks in
    record { marks = (m.0, subst (λ z. BeginMarks g z false (over.R.Codes.reading c.read_front.new.bits).left m.0) (sym c.start.ensures.start) (c.in-OfEdge.ensures.read m.0 m.1)) }

pub returns-in-Input-clause-first : goal.returns-in-Input-clause-first
returns-in-Input-clause-first over c = λ marks h. ([], c.in-Input.ensures.read marks h, refl)

pub returns-in-Output-clause-first : goal.returns-in-Output-clause-first
returns-in-Output-clause-first over c = λ marks h. ([], c.in-Output.ensures.read marks h, refl)

pub returns-in-OfEdge-clause-first : goal.returns-in-OfEdge-clause-first
returns-in-OfEdge-clause-first over c = λ marks h.
    let g = c.args.g.grammar.now.core in
    c.place_mark.ensures.first marks (subst (λ z. BeginMarks g z false (over.R.Codes.reading c.read_front.new.bits).left marks) (sym c.start.ensures.start) (c.in-OfEdge.ensures.read marks h))
