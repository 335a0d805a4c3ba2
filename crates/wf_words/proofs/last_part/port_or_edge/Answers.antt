use Rattle.wf_label.specs.Marks.{marks_of}
use Rattle.wf_words.proofs.LastParts.{label_named}
use Rattle.wf_words.proofs.last_part.port_or_edge.Goals as goal

pub loop-mark-init : goal.loop-mark-init
loop-mark-init c = λ l of e.
    let g = c.args.g.grammar.now.core in
    record { marks = marks_of g l; ahead = c.cursor-cursor.ensures.marks l of e; named = label_named g 0 l }
