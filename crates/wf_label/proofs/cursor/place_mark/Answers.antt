use Rattle.std.proofs.Common.{true, false, sym, subst}
use Rattle.wf_label.specs.Marks.{BeginMarks}
use Rattle.wf_label.proofs.Options.{none_told, some_told}
use Rattle.wf_label.proofs.MarksRead.{marks_below, no_chain}
use Rattle.wf_label.proofs.cursor.place_mark.Goals as goal

pub continuing_step-requires : goal.continuing_step-requires
continuing_step-requires over c = record { in_range = marks_below c.args.g.grammar.now.core c.start-formed.ensures.formed c.args.m.0 false c.requires.marks.0 c.requires.marks.1.of_it }

pub part_mark-requires : goal.part_mark-requires
part_mark-requires over c =
    let none = none_told _ c.continuing_step.result _ c.continuing_step.ensures c.if-is_none.ensures in
    (c.requires.marks.0, no_chain c.args.g.grammar.now.core c.args.m.0 (over.R.Codes.reading c.args.bits.now).left c.requires.marks.0 none c.requires.marks.1)

pub returns-then-is_none-clause-first : goal.returns-then-is_none-clause-first
returns-then-is_none-clause-first over c = λ marks h.
    let none = none_told _ c.continuing_step.result _ c.continuing_step.ensures c.if-is_none.ensures in
    c.part_mark.ensures.first marks (no_chain c.args.g.grammar.now.core c.args.m.0 (over.R.Codes.reading c.args.bits.now).left marks none h)

pub read_chain-c-requires-clause-on_cycle : goal.read_chain-c-requires-clause-on_cycle
read_chain-c-requires-clause-on_cycle over c = some_told _ c.continuing_step.result _ c.continuing_step.ensures c.if-is_none.ensures

pub passed-requires-clause-module_no : goal.passed-requires-clause-module_no
passed-requires-clause-module_no over c = marks_below c.args.g.grammar.now.core c.start-formed.ensures.formed c.args.m.0 false c.requires.marks.0 c.requires.marks.1.of_it

pub returns-clause-first : goal.returns-clause-first
returns-clause-first over c = λ marks h.
    let r = c.read_chain-c.ensures.read marks h in
    (r.0, r.1, subst (λ z. BeginMarks c.args.g.grammar.now.core z true (over.R.Codes.reading c.read_chain-c.new.bits).left r.0) (sym c.passed.ensures.to) r.2)
