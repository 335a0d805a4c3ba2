use Rattle.std.proofs.Common.{◌≡◌, ◌∙◌, ◌-◌, map, take, length, ap, sym}
use Rattle.wf_intake.specs.Reported.{ReportedSeen, expansion_told}
use Rattle.wf_intake.proofs.Adding.{places_out}
use Rattle.wf_intake.proofs.reported.Reported.drop_last.Goals as goal

pub returns : goal.returns
returns c = λ seen was.
    let places = c.self.inside.places in
    ap (λ l. record { start = c.self.inside.start; expansions = map expansion_told l }) c.truncate.ensures.items ∙
    places_out c.self.inside.start places.items c.saturating_sub-left.result c.args.count (c.saturating_sub-left.ensures ∙ ap (λ n. n - c.args.count) (c.len.ensures ∙ places.ok.0)) seen (c.self.view_is ∙ was)
