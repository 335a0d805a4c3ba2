use Rattle.std.proofs.Common.{◌<◌, ◌==◌, ◌||◌, false, get_or, sym, ap, ◌∙◌, subst}
use Rattle.wf_spec.specs.Naming.{names_of}
use Rattle.wf_view.proofs.Looked.{none_there, one_there}
use Rattle.wf_view.proofs.Marking.{set_is}
use Rattle.wf_view.proofs.Naming.{named_is, named_not}
use Rattle.wf_model.proofs.Tests.{or_nothing}
use Rattle.wf_view.proofs.marks.mark.Goals as goal

pub returns-in-Some : goal.returns-in-Some
returns-in-Some c = λ m below.
    let g = c.args.g.now.core in
    let name = c.args.name.now in
    let k = c.in-Some.m.0 in
    let there = one_there (names_of g.modules) name c.find.result c.find.ensures.place c.in-Some.m c.in-Some.is in
    set_is c.args.marks.now k m (subst (λ n. k < n) (sym c.requires) c.in-Some.ensures.within)
    ∙ ap (λ b. get_or c.args.marks.now m false || b) (ap (λ n. n == m) there.0 ∙ sym (named_is g c.start-formed.ensures.formed name there.1 m below))

pub returns-in_default : goal.returns-in_default
returns-in_default c = λ m below.
    let g = c.args.g.now.core in
    let name = c.args.name.now in
    or_nothing (get_or c.args.marks.now m false)
    ∙ ap (λ b. get_or c.args.marks.now m false || b) (sym (named_not g name (none_there (names_of g.modules) name c.find.result c.find.ensures.place c.in_default.is) m below))
