use Rattle.std.proofs.Common.{sym, arith}
use Rattle.wf_recur.specs.Cycles.{on_of}
use Rattle.wf_recur.proofs.OneTable.{cycled}
use Rattle.wf_version.proofs.GoingOn.{marked_stays, unmarked_gets_on}
use Rattle.wf_version.proofs.change.gets_on.Goals as goal

pub bounds-marks-on : goal.bounds-marks-on
bounds-marks-on c =
    let s = (cycled c.args.g.grammar.now.core c.modules-modules.ensures.formed c.args.g.linear c.args.g.cycles.now c.args.g.cycled).on_one c.args.m.0 (on_of c.in-Some.on) (sym c.in-Some.ensures) in
    let low = s.cycle in
    omega (arith, low, c.requires.marks.one_each)

pub returns-then-marks-on : goal.returns-then-marks-on
returns-then-marks-on c =
    marked_stays c.args.g.grammar.now.core c.args.g.cycles.now c.modules-modules.ensures.formed c.args.g.linear (cycled c.args.g.grammar.now.core c.modules-modules.ensures.formed c.args.g.linear c.args.g.cycles.now c.args.g.cycled) c.args.m.0 (on_of c.in-Some.on) (sym c.in-Some.ensures)
    c.args.version.modules c.args.version.productions c.requires.version c.args.marks.now c.requires.marks c.if-marks-on.true

pub returns : goal.returns
returns c =
    unmarked_gets_on c.args.g.grammar.now.core c.args.g.cycles.now c.modules-modules.ensures.formed c.args.g.linear (cycled c.args.g.grammar.now.core c.modules-modules.ensures.formed c.args.g.linear c.args.g.cycles.now c.args.g.cycled) c.args.m.0 (on_of c.in-Some.on) (sym c.in-Some.ensures)
    c.args.version.modules c.args.version.productions c.requires.version c.args.marks.now c.requires.marks c.if-marks-on.false c.is_composite.result c.is_composite.ensures
