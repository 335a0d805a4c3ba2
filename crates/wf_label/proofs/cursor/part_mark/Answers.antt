use Rattle.wf_label.proofs.cursor.part_mark.Goals as goal

pub returns-in-Into-clause-first : goal.returns-in-Into-clause-first
returns-in-Into-clause-first over c = λ marks h. let r = c.in-Into.ensures.read marks h in (r.0, r.1, r.2.1)

pub returns-in-End-clause-first : goal.returns-in-End-clause-first
returns-in-End-clause-first over c = c.in-End.ensures.read
