-- What callers keep of an intake: its first state, and that it is the same where the run is that of the same events.
use Rattle.std.proofs.Common.{◌≡◌, List, [], None, map, filter, refl, sym, subst, arith}
use Rattle.wf_model.specs.Grammar.{Grammar}
use Rattle.wf_model.specs.declared.event.Event.{Event}
use Rattle.wf_model.specs.declared.event.Event.TheVariants.{Start, Expand}
use Rattle.report_model.specs.Intake.{Intake, nothing_taken}
use Rattle.report_model.specs.Kept.{Kept, report_of, is_held}
use Rattle.wf_intake.specs.Reported.{ReportedSeen, none_reported}
use Rattle.wf_intake.specs.Applied.{known_by}
use Rattle.wf_intake.specs.Intakes.{IsIntakeOf}

first_parts : (g : Grammar) (IsRun : List Event → Type 0) → IsRun [] → IsIntakeOf g [] none_reported IsRun nothing_taken
first_parts g IsRun run = record {
  parts = record {
    run = run;
    held = refl;
    known = λ x. first x;
    marks = λ k l. absurd (omega (arith, l));
    subjects = tt;
    expansions = λ k l. absurd (omega (arith, l));
    waiting = λ k l. absurd (omega (arith, l));
    gone = λ k l. absurd (omega (arith, l));
    fits = record { begins = tt; many = refl; productions = λ i. refl };
  };
  none_ready = λ k l. absurd (omega (arith, l));
}
  where
    first : (x : Event) → None ≡ known_by g [] none_reported [] x
    first (Start r) = refl
    first (Expand i p names) = refl

-- before the first report none is kept, no line is noted, and the run is that of no events
pub intake_begins : (g : Grammar) (kept : List Kept) (seen : ReportedSeen) (IsRun : List Event → Type 0) → kept ≡ [] → seen ≡ none_reported → IsRun [] → IsIntakeOf g kept seen IsRun nothing_taken
intake_begins g kept seen IsRun empty none run = subst (λ z. IsIntakeOf g z seen IsRun nothing_taken) (sym empty) (subst (λ z. IsIntakeOf g [] z IsRun nothing_taken) (sym none) (first_parts g IsRun run))

-- where the run is that of the same events, it is an intake of the same state
pub intake_still : (g h : Grammar) (kept : List Kept) (seen : ReportedSeen) (IsRun IsLater : List Event → Type 0) → h ≡ g → ((es : List Event) → IsRun es → IsLater es) → (s : Intake) → IsIntakeOf g kept seen IsRun s → IsIntakeOf h kept seen IsLater s
intake_still g h kept seen IsRun IsLater grammar later s here = subst (λ z. IsIntakeOf z kept seen IsLater s) (sym grammar) (record {
  parts = record {
    run = later s.run here.parts.run;
    held = here.parts.held;
    known = here.parts.known;
    marks = here.parts.marks;
    subjects = here.parts.subjects;
    expansions = here.parts.expansions;
    waiting = here.parts.waiting;
    gone = here.parts.gone;
    fits = here.parts.fits;
  };
  none_ready = here.none_ready;
})

-- the reports that are held
pub intake_held : (g : Grammar) (kept : List Kept) (seen : ReportedSeen) (IsRun : List Event → Type 0) (s : Intake) → IsIntakeOf g kept seen IsRun s → s.held ≡ map report_of (filter is_held kept)
intake_held g kept seen IsRun s here = here.parts.held
