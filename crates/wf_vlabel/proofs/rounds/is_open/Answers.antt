use Rattle.std.proofs.Common.{◌≢◌, ◌↔◌, ◌<◌, ◌∙◌, IsTrue, None, get_or, length, sym, ap, subst, arith}
use Rattle.std.proofs.lemmas.Option.{none-some}
use Rattle.label_model.specs.Continuing.{continuing}
use Rattle.wf_recur.proofs.OneTable.{cycled}
use Rattle.wf_recur.proofs.Places.{place_below, place_told}
use Rattle.wf_vlabel.specs.RoundSteps.{IsOpenCycle}
use Rattle.wf_vlabel.proofs.OpenCycles.{open_told}
use Rattle.wf_view.proofs.KnownViews.{held}
use Rattle.wf_vlabel.proofs.rounds.is_open.Goals as goal

pub returns-then-seen : goal.returns-then-seen
returns-then-seen c =
    let g = c.args.s.linear.grammar.now.core in
    let t = c.args.s.linear.cycles.now in
    let wf = c.modules-modules.ensures.formed in
    let some = ((cycled c.args.s.linear.grammar.now.core c.modules-modules.ensures.formed c.args.s.linear.linear c.args.s.linear.cycles.now c.args.s.linear.cycled).rounds c.args.c.0 c.requires.cycle).whole.0 in
    let low = place_below g t (cycled c.args.s.linear.grammar.now.core c.modules-modules.ensures.formed c.args.s.linear.linear c.args.s.linear.cycles.now c.args.s.linear.cycled) wf c.args.c.0 0 c.requires.cycle some in
    let first = c.at-first.result.0 in
    let l : first < length g.modules = omega (arith, low, c.at-first.ensures) in
    let o = place_told g t wf c.args.s.linear.linear (cycled c.args.s.linear.grammar.now.core c.modules-modules.ensures.formed c.args.s.linear.linear c.args.s.linear.cycles.now c.args.s.linear.cycled) c.args.c.0 0 c.requires.cycle some in
    let continues : continuing g first ≢ None = λ e. none-some o.0.step (sym (ap (continuing g) (sym c.at-first.ensures) ∙ e) ∙ o.2) in
    subst (λ z. IsTrue c.is_none.result ↔ IsOpenCycle g c.args.s.view.now.core z) c.at-first.ensures
    (open_told g c.args.s.view.now.core first (get_or c.args.cuts.now first None) c.is_none.result (((held c.args.s.linear.grammar.now.core c.args.s.view.now c.args.s.held).seen first l).0 (sym c.if-seen.ensures)) (c.requires.cuts first l continues) c.is_none.ensures)
