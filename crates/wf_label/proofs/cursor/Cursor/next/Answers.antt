use Rattle.std.proofs.Common.{ap, subst}
use Rattle.wf_label.specs.Marks.{CursorSeen, mark_of, IsMarkOf}
use Rattle.wf_label.proofs.MarksNamed.{first_named}
use Rattle.wf_label.proofs.cursor.Cursor.next.Goals as goal

pub returns-clause-named : goal.returns-clause-named
returns-clause-named over c =
    let g = c.self.inside.g.grammar.now.core in
    let k = mark_of c.in_ok-mark.mark in
    let marks = c.self.invariant in
    let first = c.in_ok-mark.ensures.first marks.0 marks.1 in
    subst (λ z. IsMarkOf z k) (ap (λ (s : CursorSeen). s.grammar) c.self.view_is) (first_named g c.self.inside.ahead (over.R.Codes.reading c.self.inside.bits).left marks.0 k first.0 marks.1 first.1)
