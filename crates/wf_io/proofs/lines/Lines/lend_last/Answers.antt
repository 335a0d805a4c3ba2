use Rattle.std.proofs.Common.{length, refl, sym, subst, ◌∙◌, arith}
use Rattle.std.proofs.lemmas.Bool.{lt-ltb}
use Rattle.wf_io.specs.declared.limits.TheConstants.{LINE_MOST}
use Rattle.wf_io.specs.Steps.{Refused}
use Rattle.wf_io.proofs.Seeking.{refused_begun, sought_last}
use Rattle.wf_io.proofs.lines.Lines.lend_last.Goals as goal

pub returns-then-size-gt-LINE_MOST : goal.returns-then-size-gt-LINE_MOST
returns-then-size-gt-LINE_MOST c =
    let r = c.args.self.now in
    let long = lt-ltb LINE_MOST (length r.kept) (omega (arith, c.size-size.ensures.size, c.if-size-gt-LINE_MOST.true)) in
    (refl, subst (Refused r) (sym c.refuse.ensures) (refused_begun r c.requires.none c.size-size.ensures.sound long))

pub returns-then-size-gt0 : goal.returns-then-size-gt0
returns-then-size-gt0 c =
    let r = c.args.self.now in
    sought_last r c.lend_line.new.self c.size-size.result c.lend_line.result c.size-size.ensures.size c.if-size-gt0.true c.requires.none
    (sym c.ended-ended.ensures ∙ c.if-ended.true) c.size-size.ensures.sound c.requires.live c.lend_line.ensures
