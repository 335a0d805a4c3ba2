-- Files with the same lines report the same events.
use Rattle.std.proofs.Common.{◌≡◌, false, List, [], ◌∷◌, refl, sym, subst, inl, inr, ⊎_elim}
use Rattle.wf_model.specs.Lists.{IsIn}
use Rattle.wf_model.specs.declared.event.Event.{Event}
use Rattle.report_model.specs.Reports.{Report, reported}
use Rattle.wf_io.specs.Lines.{Line, is_too_long, text_of}
use Rattle.wf_inputs.specs.RunTold.{IsEventText, IsEventLine, report_on, AreReports}
use Rattle.wf_inputs.proofs.OneValue.{one_event}
use Rattle.outcome_laws.specs.Laws.{ReportsThese, SameLinesLaw}
use Rattle.outcome_laws.proofs.ToldRuns.{told_run_law}

-- a line tells its event whatever its number is
line_too : (l k : Line) (e : Event) → k.raw ≡ l.raw → IsEventLine l e → IsEventLine k e
line_too l k e same h = subst (λ raw. (is_too_long raw ≡ false) × IsEventText (text_of raw) e) (sym same) h

-- the event of a line is reported
event_on : (ls : List Line) (rs : List Report) → AreReports ls rs → (l : Line) → IsIn l ls → (e : Event) × IsEventLine l e × IsIn e (reported rs)
event_on [] rs read l h = absurd h
event_on (k ∷ ls) [] read l h = absurd read
event_on (k ∷ ls) (r ∷ rs) read l (inl same) = (r.event, subst (λ z. IsEventLine z r.event) (sym same) read.1, inl refl)
event_on (k ∷ ls) (r ∷ rs) read l (inr h) = let q = event_on ls rs read.2 l h in (q.0, q.1, inr q.2)

-- and a reported event is that of a line
line_of : (ls : List Line) (rs : List Report) → AreReports ls rs → (e : Event) → IsIn e (reported rs) → (l : Line) × IsIn l ls × IsEventLine l e
line_of [] [] read e h = absurd h
line_of [] (r ∷ rs) read e h = absurd read
line_of (l ∷ ls) [] read e h = absurd read
line_of (l ∷ ls) (r ∷ rs) read e (inl same) = (l, inl refl, subst (IsEventLine l) (sym same) read.1)
line_of (l ∷ ls) (r ∷ rs) read e (inr h) = let q = line_of ls rs read.2 e h in (q.0, inr q.1, q.2)

-- lines report events of a list where each tells one of them
reports_on : (ls : List Line) (es : List Event) → ((l : Line) → IsIn l ls → (e : Event) × IsEventLine l e × IsIn e es) → (rs : List Report) × AreReports ls rs × ((x : Event) → IsIn x (reported rs) → IsIn x es)
reports_on [] es told = ([], tt, λ x h. absurd h)
reports_on (l ∷ ls) es told =
    let first = told l (inl refl) in
    let rest = reports_on ls es (λ k h. told k (inr h)) in
    (report_on l.number first.0 ∷ rest.0, (refl, first.1, rest.1), λ x h. ⊎_elim (λ same. subst (λ z. IsIn z es) (sym same) first.2) (rest.2 x) h)

pub same_lines_law : SameLinesLaw
same_lines_law g file other es told whole all only =
    let own : ReportsThese file es = (told_run_law g file es told).reported in
    let reports = reports_on other.lines es (λ l at.
    let k = only l at in
    let e = event_on file.lines own.reports own.read k.0 k.1 in
    (e.0, line_too k.0 l e.0 (sym k.2) e.1, (own.same e.0).0 e.2)) in
    record {
      whole = whole;
      reports = reports.0;
      read = reports.1;
      same = λ x. (
        reports.2 x,
        λ h.
            let l = line_of file.lines own.reports own.read x ((own.same x).1 h) in
            let k = all l.0 l.1 in
            let e = event_on other.lines reports.0 reports.1 k.0 k.1 in
            subst (λ z. IsIn z (reported reports.0)) (one_event (text_of k.0.raw) e.0 x e.1.1 (line_too l.0 k.0 x k.2 l.2).1) e.2,
      );
    }
