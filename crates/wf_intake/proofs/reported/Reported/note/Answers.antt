use Rattle.std.proofs.Common.{◌≡◌, ◌∙◌, map, length, sym, subst}
use Rattle.wf_model.specs.declared.event.Event.TheVariants.{Expand}
use Rattle.wf_intake.specs.Reported.{ReportedSeen, expansion_told, with_places, IsKeptFor, SetsExpansion, noted}
use Rattle.wf_intake.specs.Rounds.{names_given}
use Rattle.wf_intake.proofs.Adding.{start_noted_so, expansion_noted_so}
use Rattle.wf_intake.proofs.reported.Reported.note.Goals as goal

pub returns-in-Start : goal.returns-in-Start
returns-in-Start c =
    let slots = map expansion_told c.self.inside.places.items in
    subst (λ e. (seen : ReportedSeen) → c.args.self.now ≡ with_places seen (length (names_given e)) → record { start = c.args.line; expansions = slots } ≡ noted seen c.args.number c.args.line e) (sym c.in-Start.is)
    (λ seen was. start_noted_so c.args.line c.self.inside.start slots c.in-Start.name c.args.number seen (c.self.view_is ∙ was))

pub returns-in-Expand : goal.returns-in-Expand
returns-in-Expand c =
    let x = c.in-Expand in
    let old = map expansion_told c.self.inside.places.items in
    let new = map expansion_told c.set_expansion.new.places.items in
    let kept = subst (λ e. IsKeptFor c.args.line e c.args.by) x.is c.requires in
    let sets = subst (λ ns. SetsExpansion old (length ns) c.args.number c.args.by new) c.items.ensures c.set_expansion.ensures in
    subst (λ e. (seen : ReportedSeen) → c.args.self.now ≡ with_places seen (length (names_given e)) → record { start = c.self.inside.start; expansions = new } ≡ noted seen c.args.number c.args.line e) (sym x.is)
    (λ seen was. expansion_noted_so c.args.line c.self.inside.start x.production old new x.instance x.names c.args.number c.args.by kept sets seen (c.self.view_is ∙ was))
