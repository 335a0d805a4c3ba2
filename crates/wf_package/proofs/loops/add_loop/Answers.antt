use Rattle.std.proofs.Common.{◌≡◌, ◌<◌, ◌∙◌, ◌++◌, List, true, Some, None, map, sym, ap, subst, append-nil}
use Rattle.std.proofs.lemmas.List.{map-append}
use Rattle.wf_model.specs.View.{expands}
use Rattle.wf_model.specs.Steps.{step_of}
use Rattle.package_model.specs.Packages.{LoopEntry}
use Rattle.wf_package.specs.Parts.{loop_entry_of}
use Rattle.wf_package.proofs.LoopParts.{step_held, step_below, loop_open}
use Rattle.wf_package.proofs.loops.add_loop.Goals as goal

pub bounds-places-on : goal.bounds-places-on
bounds-places-on c =
    subst (λ n. c.in-Some.on.step.production.0 < n) (sym c.requires.one_each)
    (step_below c.args.g.grammar.now.core c.start-formed.ensures.formed c.args.g.linear c.args.g.cycles.now c.args.g.cycled c.args.m.0 c.requires.in_range c.in-Some.on c.in-Some.ensures)

pub returns-in_default : goal.returns-in_default
returns-in_default c =
    let g = c.args.g.grammar.now.core in
    let opened : expands c.args.view.now.core c.args.m.0 ≡ true = sym c.expanded.ensures ∙ c.if-not-expanded.false in
    let goes = step_held g c.start-formed.ensures.formed c.args.g.linear c.args.g.cycles.now c.args.g.cycled c.args.m.0 c.requires.in_range None c.in_default.ensures in
    sym (ap (λ (l : List LoopEntry). map loop_entry_of c.args.list.now.items ++ l) (loop_open g c.args.view.now.core c.args.places.now c.args.k c.args.m.0 None opened goes)
    ∙ append-nil (map loop_entry_of c.args.list.now.items))

pub returns : goal.returns
returns c =
    let g = c.args.g.grammar.now.core in
    let opened : expands c.args.view.now.core c.args.m.0 ≡ true = sym c.expanded.ensures ∙ c.if-not-expanded.false in
    let goes = step_held g c.start-formed.ensures.formed c.args.g.linear c.args.g.cycles.now c.args.g.cycled c.args.m.0 c.requires.in_range (Some c.in-Some.on) c.in-Some.ensures in
    ap (map loop_entry_of) c.in_ok-push.ensures.items ∙ map-append loop_entry_of c.args.list.now.items _
    ∙ sym (ap (λ (l : List LoopEntry). map loop_entry_of c.args.list.now.items ++ l) (loop_open g c.args.view.now.core c.args.places.now c.args.k c.args.m.0 (Some (step_of c.in-Some.on.step)) opened goes))
