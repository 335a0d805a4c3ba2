use Rattle.wf_label.specs.Marks.{marks_of}
use Rattle.wf_label.proofs.LabelBegun.{label_begun}
use Rattle.wf_label.proofs.reference.LabelRef.cursor.Goals as goal

pub invariant_of-result : goal.invariant_of-result
invariant_of-result c =
    let g = c.args.g.grammar.now.core in
    let l = c.requires.label in
    (marks_of g l.0, label_begun g c.args.self.now c.reader.result.left l.0 c.reader.ensures l.1 l.2)
