use Rattle.std.proofs.Common.{◌≡◌, ◌<◌, length, get_or, None, sym, ap, ◌∙◌, subst, arith}
use Rattle.std.proofs.lemmas.List.{get_or_read}
use Rattle.std.proofs.lemmas.Option.{none-some}
use Rattle.wf_recur.specs.Cycles.{round_at}
use Rattle.wf_recur.proofs.Places.{place_below, place_told}
use Rattle.wf_vlabel.specs.Cuts.{IsCut}
use Rattle.wf_vlabel.specs.Seen.{ViewLabelSeen, is_expanded}
use Rattle.wf_vlabel.specs.Held.{IsKept}
use Rattle.wf_vlabel.proofs.view_label.ViewLabel.cut.Goals as goal
use Rattle.wf_vlabel.proofs.view_label.ViewLabel.cut.Goals.{After-at}

kept : (c : After-at) → IsKept c.args.self.now c.self.inside.stills.items c.self.inside.cuts.items
kept c = subst (λ l. IsKept l c.self.inside.stills.items c.self.inside.cuts.items) c.self.view_is c.self.invariant

module_is : (c : After-at) → get_or (round_at c.args.self.now.cycles c.args.c.0) c.args.place 0 ≡ c.at.result.0
module_is c = sym (c.at.ensures ∙ ap (λ (l : ViewLabelSeen). get_or (round_at l.cycles c.args.c.0) c.args.place 0) c.self.view_is)

within : (c : After-at) → c.at.result.0 < length c.self.inside.cuts.items
within c =
    let k = kept c in
    let l = c.args.self.now in
    let low = subst (λ m. m < length l.grammar.modules) (module_is c) (place_below l.grammar l.cycles k.label.cycles_are k.label.formed c.args.c.0 c.args.place c.requires.cycle c.requires.place) in
    omega (arith, k.cut_each)

pub index-requires : goal.index-requires
index-requires c =
    let low = within (goal.at.index-requires c).After-at in
    omega (arith, c.self.inside.cuts.ok.0)

pub returns : goal.returns
returns c =
    let a = goal.at.returns c in
    let l = c.args.self.now in
    let k = kept a.After-at in
    let m = get_or (round_at l.cycles c.args.c.0) c.args.place 0 in
    let low = place_below l.grammar l.cycles k.label.cycles_are k.label.formed c.args.c.0 c.args.place c.requires.cycle c.requires.place in
    let o = place_told l.grammar l.cycles k.label.formed k.label.linear k.label.cycles_are c.args.c.0 c.args.place c.requires.cycle c.requires.place in
    let read : get_or c.self.inside.cuts.items m None ≡ c.index.result.now =
    ap (λ i. get_or c.self.inside.cuts.items i None) (module_is a.After-at) ∙ sym (get_or_read c.self.inside.cuts.items c.at.result.0 c.index.result.now (within a.After-at) c.index.ensures None) in
    subst (IsCut l.grammar (is_expanded l) m) read (k.cuts_are m low (λ e. none-some o.0.step (sym e ∙ o.2)))
