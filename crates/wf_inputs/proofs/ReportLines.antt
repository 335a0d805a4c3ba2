-- Lines of events taken as reports: what a line leaves of the intake, and why it, or the end of the file, ends the program.
use Rattle.std.proofs.Common.{◌≡◌, ℕ, zero, suc, ◌<◌, Bool, true, false, cond, List, [], ◌∷◌, ◌++◌, map, filter, length, Some, refl, sym, ap, ◌∙◌, subst, inl, inr, arith, append-nil}
use Rattle.wf_model.specs.declared.event.Event.{Event}
use Rattle.wf_model.specs.Grammar.{Grammar}
use Rattle.report_model.specs.Reports.{Report}
use Rattle.report_model.specs.Intake.{Intake, ReportFault, Conflict, Refused as RefusedByRun, Orphan, GoesOn, Stops, state_after, take_report, apply_all}
use Rattle.report_model.specs.Kept.{Kept, report_of, is_held, kept_at, NoneHeldBefore}
use Rattle.report_model.proofs.Rounds.{taken_by}
use Rattle.wf_inbox.specs.Inboxes.{IsOrphan, NoneHeld, NoneReady}
use Rattle.wf_intake.specs.Reported.{ReportedSeen, none_reported}
use Rattle.wf_intake.specs.Intakes.{IsKeptAs, IsIntakeOf, IsWrittenOn, fault_told}
use Rattle.wf_intake.specs.Rounds.{IsOnTheWay, IsReportBegun, ComesTo, StopsWith, Round}
use Rattle.wf_intake.proofs.OnTheWay.{held_run}
use Rattle.wf_intake.proofs.Stepping.{all_done_there, stops_on, comes_on}
use Rattle.wf_lines.specs.BegunLines.{BegunLine, begun_line, further}
use Rattle.wf_intake.proofs.Beginning.{intake_begins}
use Rattle.wf_intake.specs.declared.fault.IntakeFault.{IntakeFault}
use Rattle.wf_intake.specs.declared.fault.IntakeFault.TheVariants.{Conflict as HasConflict, Refused as HasRefused, Orphan as HasOrphan, NoMemory as WantsMemory}
use Rattle.wf_flat.specs.Table.{Table, IsTableOf, events_of}
use Rattle.wf_flat.proofs.Steps.{run_none}
use Rattle.wf_message.specs.Endings.{End}
use Rattle.wf_stage.specs.Stages.{IsRefusedOrWanting}
use Rattle.wf_stage.specs.LineEnds.{told_end}
use Rattle.wf_stage.proofs.LineEnds.{told_is}
use Rattle.wf_inputs.specs.declared.event_stop.EventStop.TheVariants.{Report as StopsAtReport}
use Rattle.wf_inputs.specs.EventsEnd.{event_end}
use Rattle.wf_inputs.specs.RunTold.{IsEventText, report_on, report_end}
use Rattle.wf_inputs.specs.RunTaking.{TakenSoFar, with_state, none_taken_of, IsWrittenBehind, TakesReport, StopsReport, MakesSoFar, HoldsNone, StopsHolding}
use Rattle.wf_inputs.specs.Reporting.{IsTakenAs, IsTakenWithin, GrowingSeen, IsGrownBy}
use Rattle.wf_inputs.specs.Inputs.{instance_most}

-- where the run is that of the same events, reports are taken as far
pub still_taken : (g h : Grammar) (m n : ℕ) (kept : List Kept) (seen : ReportedSeen) (IsRun IsLater : List Event → Type 0) → h ≡ g → n ≡ m → ((es : List Event) → IsRun es → IsLater es) → (s : TakenSoFar) → IsTakenAs g m kept seen IsRun s → IsTakenAs h n kept seen IsLater s
still_taken g h m n kept seen IsRun IsLater grammar limit later s at = record {
  grammar = at.grammar ∙ sym grammar;
  limit = at.limit ∙ sym limit;
  intake = let p = at.intake.parts in subst (λ x. IsIntakeOf x kept seen IsLater s.state) (sym grammar) (record {
    parts = record { run = later s.state.run p.run; held = p.held; known = p.known; marks = p.marks; subjects = p.subjects; expansions = p.expansions; waiting = p.waiting; gone = p.gone; fits = p.fits };
    none_ready = at.intake.none_ready;
  });
}

-- what is made behind no text is written behind the events before
behind : (w : List Event → List ℕ) (before after : List Event) (old new : List ℕ) → old ≡ [] → IsWrittenOn w before after old new → IsWrittenBehind w before after new
behind w before after old new none h = h.2 ∙ ap (λ p. w before ++ p) (sym (h.1 ∙ ap (λ l. l ++ h.0) none))

-- a report is begun behind no text
from_nothing : (g : Grammar) (most : ℕ) (written : List Event → List ℕ) (kept : List Kept) (seen : ReportedSeen) (IsRun : List Event → Type 0) (old new : List ℕ) (s : Intake) (r : Report) → old ≡ [] → IsReportBegun g most written kept seen IsRun old new s r → IsReportBegun g most written kept seen IsRun [] new s r
from_nothing g most written kept seen IsRun old new s r none = subst (λ z. IsReportBegun g most written kept seen IsRun z new s r) none

module _ (written : Grammar → List Event → List ℕ) (g : Grammar) (m : ℕ) (old : List Kept) (was : ReportedSeen) (IsRun : List Event → Type 0) (number : ℕ) (text : List ℕ) (event : Event) (told : IsEventText text event) (before made : List ℕ) (none : before ≡ []) where
  abbrev at_line : TakenSoFar → BegunLine TakenSoFar
  at_line s = begun_line s number text made

  -- the report of a line is begun, so the line is
  module _ (h : Grammar) (n : ℕ) (new : List Kept) (seen : ReportedSeen) (IsLater : List Event → Type 0) (grammar : h ≡ g) (limit : n ≡ m)
      (begins : (s : Intake) → IsIntakeOf g old was IsRun s → IsReportBegun g m (written g) new seen IsLater before made s (report_on number event)) (s : TakenSoFar) (at : IsTakenAs g m old was IsRun s) where
    abbrev begun : IsReportBegun g m (written g) new seen IsLater before made s.state (report_on number event)
    begun = begins s.state at.intake

    pub report_begun : IsTakenWithin h n written new seen IsLater (at_line s)
    report_begun = record {
      grammar = at.grammar ∙ sym grammar;
      limit = at.limit ∙ sym limit;
      event = event;
      told = told;
      begun = subst (λ k. IsReportBegun h k (written h) new seen IsLater [] made s.state (report_on number event)) (sym limit)
          (subst (λ x. IsReportBegun x m (written x) new seen IsLater [] made s.state (report_on number event)) (sym grammar) (from_nothing g m (written g) new seen IsLater before made s.state (report_on number event) none begun));
    }

    -- and what it made is the text of an event at most
    pub report_begins : MakesSoFar written (at_line s)
    report_begins = inr (record {
      event = event;
      first = begun.first;
      reached = begun.comes.later;
      told = told;
      held = begun.held;
      on_the_way = subst (λ x. IsOnTheWay x s.limit begun.first begun.comes.later) (sym at.grammar) (subst (λ k. IsOnTheWay g k begun.first begun.comes.later) (sym at.limit) begun.comes.on_the_way);
      made_is = subst (λ x. IsWrittenBehind (written x) begun.first.run begun.comes.later.run made) (sym at.grammar) (behind (written g) begun.first.run begun.comes.later.run before made none begun.comes.text);
    })

  -- the report of a line is refused: so the line ends the program
  pub report_refused : (IsLater : List Event → Type 0) (r : ReportFault) (e : End) → e ≡ report_end r →
      ((s : Intake) → IsIntakeOf g old was IsRun s → StopsWith (written g) IsLater before made s (take_report g m s (report_on number event)) r) →
      (s : TakenSoFar) → IsTakenAs g m old was IsRun s → StopsReport written s number text e made
  report_refused IsLater r e is stops s at =
      let t = stops s.state at.intake in
      inr (record {
        event = event;
        state = t.left;
        fault = r;
        told = told;
        refused = subst (λ x. take_report x s.limit s.state (report_on number event) ≡ Stops t.left r) (sym at.grammar) (subst (λ k. take_report g k s.state (report_on number event) ≡ Stops t.left r) (sym at.limit) t.stops);
        ending_is = is;
        made_is = subst (λ x. IsWrittenBehind (written x) s.state.run t.left.run made) (sym at.grammar) (behind (written g) s.state.run t.left.run before made none t.text);
      })

  -- memory is refused where it is begun: it made nothing
  pub report_wanting : made ≡ before → (s : TakenSoFar) → MakesSoFar written (at_line s)
  report_wanting same s = inl (same ∙ none)

-- a line is begun, and the text of its last piece is cleared
module _ (written : Grammar → List Event → List ℕ) (g : Grammar) (m : ℕ) (old : List Kept) (was : ReportedSeen) (IsRun : List Event → Type 0) (before piece : List ℕ) (none : before ≡ []) (p : BegunLine TakenSoFar) (within : IsTakenWithin g m written old was IsRun p) where
  abbrev comes : ComesTo g m (written g) old was IsRun [] p.made within.begun.first
  comes = within.begun.comes

  -- a round is done
  module _ (h : Grammar) (n : ℕ) (new : List Kept) (seen : ReportedSeen) (IsLater : List Event → Type 0) (grammar : h ≡ g) (limit : n ≡ m) (round : Round g m written old was IsRun before new seen IsLater piece) where
    abbrev on : ComesTo g m (written g) new seen IsLater [] (p.made ++ piece) within.begun.first
    on = comes_on g m (written g) old was IsRun [] p.made within.begun.first comes before none new seen IsLater piece (round comes.later comes.here)

    pub report_goes_on : IsTakenWithin h n written new seen IsLater (further p piece)
    report_goes_on = record {
      grammar = within.grammar ∙ sym grammar;
      limit = within.limit ∙ sym limit;
      event = within.event;
      told = within.told;
      begun = subst (λ k. IsReportBegun h k (written h) new seen IsLater [] (p.made ++ piece) p.state.state (report_on p.number within.event)) (sym limit)
          (subst (λ x. IsReportBegun x m (written x) new seen IsLater [] (p.made ++ piece) p.state.state (report_on p.number within.event)) (sym grammar) (record { first = within.begun.first; held = within.begun.held; comes = on }));
    }

    pub report_makes : MakesSoFar written (further p piece)
    report_makes = inr (record {
      event = within.event;
      first = within.begun.first;
      reached = on.later;
      told = within.told;
      held = within.begun.held;
      on_the_way = subst (λ x. IsOnTheWay x p.state.limit within.begun.first on.later) (sym within.grammar) (subst (λ k. IsOnTheWay g k within.begun.first on.later) (sym within.limit) on.on_the_way);
      made_is = subst (λ x. IsWrittenBehind (written x) within.begun.first.run on.later.run (p.made ++ piece)) (sym within.grammar) (behind (written g) within.begun.first.run on.later.run [] (p.made ++ piece) refl on.text);
    })

    -- where none is ready any more, the line is taken
    taken_all : NoneReady new → take_report g m p.state.state (report_on p.number within.event) ≡ GoesOn on.later
    taken_all ready =
        taken_by g m p.state.state (report_on p.number within.event) (GoesOn within.begun.first) within.begun.held ∙
        (on.same ∙ all_done_there g m new seen IsLater ready on.later on.here)

    same_run : within.begun.first.run ≡ p.state.state.run
    same_run = sym (ap (λ u. (state_after u).run) within.begun.held) ∙ held_run p.state.state (report_on p.number within.event)

    pub report_taken : NoneReady new → (q : TakenSoFar) × TakesReport written p.state p.number p.text q (p.made ++ piece) × IsTakenAs h n new seen IsLater q
    report_taken ready = (
      with_state p.state on.later,
      record {
        event = within.event;
        state = on.later;
        told = within.told;
        taken = subst (λ x. take_report x p.state.limit p.state.state (report_on p.number within.event) ≡ GoesOn on.later) (sym within.grammar) (subst (λ k. take_report g k p.state.state (report_on p.number within.event) ≡ GoesOn on.later) (sym within.limit) (taken_all ready));
        leaves = refl;
        made_is = subst (λ x. IsWrittenBehind (written x) p.state.state.run on.later.run (p.made ++ piece)) (sym within.grammar)
            (subst (λ es. IsWrittenBehind (written g) es on.later.run (p.made ++ piece)) same_run (behind (written g) within.begun.first.run on.later.run [] (p.made ++ piece) refl on.text));
      },
      record {
        grammar = within.grammar ∙ sym grammar;
        limit = within.limit ∙ sym limit;
        intake = subst (λ x. IsIntakeOf x new seen IsLater on.later) (sym grammar) (record { parts = on.here; none_ready = ready });
      },
    )

  -- the next report that is ready is refused: so the line ends the program
  pub next_refused : (IsLater : List Event → Type 0) (r : ReportFault) (e : End) → e ≡ report_end r → ((s : Intake) → IsKeptAs g old was IsRun s → StopsWith (written g) IsLater before piece s (apply_all g m s) r) → StopsReport written p.state p.number p.text e (p.made ++ piece)
  next_refused IsLater r e is stops =
      let t = stops_on g m (written g) old was IsRun [] p.made within.begun.first comes before none IsLater piece r (stops comes.later comes.here) in
      let start : within.begun.first.run ≡ p.state.state.run = sym (ap (λ u. (state_after u).run) within.begun.held) ∙ held_run p.state.state (report_on p.number within.event) in
      let all : take_report g m p.state.state (report_on p.number within.event) ≡ Stops t.left r = taken_by g m p.state.state (report_on p.number within.event) (GoesOn within.begun.first) within.begun.held ∙ t.stops in
      inr (record {
        event = within.event;
        state = t.left;
        fault = r;
        told = within.told;
        refused = subst (λ x. take_report x p.state.limit p.state.state (report_on p.number within.event) ≡ Stops t.left r) (sym within.grammar) (subst (λ k. take_report g k p.state.state (report_on p.number within.event) ≡ Stops t.left r) (sym within.limit) all);
        ending_is = is;
        made_is = subst (λ x. IsWrittenBehind (written x) p.state.state.run t.left.run (p.made ++ piece)) (sym within.grammar)
            (subst (λ es. IsWrittenBehind (written g) es t.left.run (p.made ++ piece)) start (behind (written g) within.begun.first.run t.left.run [] (p.made ++ piece) refl t.text));
      })

  -- memory is refused there: what was made stays
  pub next_wanting : piece ≡ before → MakesSoFar written (further p piece)
  next_wanting same =
      let all : p.made ++ piece ≡ p.made = ap (λ l. p.made ++ l) (same ∙ none) ∙ append-nil p.made in
      inr (record {
        event = within.event;
        first = within.begun.first;
        reached = comes.later;
        told = within.told;
        held = within.begun.held;
        on_the_way = subst (λ x. IsOnTheWay x p.state.limit within.begun.first comes.later) (sym within.grammar) (subst (λ k. IsOnTheWay g k within.begun.first comes.later) (sym within.limit) comes.on_the_way);
        made_is = subst (λ l. IsWrittenBehind (written p.state.grammar) within.begun.first.run comes.later.run l) (sym all)
            (subst (λ x. IsWrittenBehind (written x) within.begun.first.run comes.later.run p.made) (sym within.grammar) (behind (written g) within.begun.first.run comes.later.run [] p.made refl comes.text));
      })

-- where the run is that of the same events, a line is begun as far
pub still_within : (written : Grammar → List Event → List ℕ) (g h : Grammar) (m n : ℕ) (kept : List Kept) (seen : ReportedSeen) (IsRun IsLater : List Event → Type 0) → h ≡ g → n ≡ m → ((es : List Event) → IsRun es → IsLater es) → (p : BegunLine TakenSoFar) → IsTakenWithin g m written kept seen IsRun p → IsTakenWithin h n written kept seen IsLater p
still_within written g h m n kept seen IsRun IsLater grammar limit later p at =
    let r = report_on p.number at.event in
    let c = at.begun.comes in
    let k = c.here in
    record {
      grammar = at.grammar ∙ sym grammar;
      limit = at.limit ∙ sym limit;
      event = at.event;
      told = at.told;
      begun = subst (λ x. IsReportBegun h x (written h) kept seen IsLater [] p.made p.state.state r) (sym limit)
          (subst (λ x. IsReportBegun x m (written x) kept seen IsLater [] p.made p.state.state r) (sym grammar) (record {
            first = at.begun.first;
            held = at.begun.held;
            comes = record {
              later = c.later;
              same = c.same;
              on_the_way = c.on_the_way;
              here = record { run = later c.later.run k.run; held = k.held; known = k.known; marks = k.marks; subjects = k.subjects; expansions = k.expansions; waiting = k.waiting; gone = k.gone; fits = k.fits };
              text = c.text;
            };
          }));
    }

-- where the end is told, a report is refused
pub refused_at : (f : IntakeFault) (e : End) → told_end (event_end (StopsAtReport f)) ≡ Some e → (r : ReportFault) × (fault_told f ≡ Some r) × (e ≡ report_end r)
refused_at (HasConflict line earlier) e told = (Conflict line earlier, refl, told_is (report_end (Conflict line earlier)) e told)
refused_at (HasRefused line fault) e told = (RefusedByRun line fault, refl, told_is (report_end (RefusedByRun line fault)) e told)
refused_at (HasOrphan line) e told = (Orphan line, refl, told_is (report_end (Orphan line)) e told)
refused_at WantsMemory e told = absurd (cc)

-- a report that is not taken is refused, or memory is
pub refused_or_wanting : (f : IntakeFault) → IsRefusedOrWanting (event_end (StopsAtReport f))
refused_or_wanting (HasConflict line earlier) = tt
refused_or_wanting (HasRefused line fault) = tt
refused_or_wanting (HasOrphan line) = tt
refused_or_wanting WantsMemory = tt

-- a list of reports in which none is held
none_left : (kept : List Kept) → NoneHeld kept → filter is_held kept ≡ []
none_left [] h = refl
none_left (x ∷ xs) h = go x.held refl (none_left xs (λ j l. h (suc j) (omega (arith, l))))
  where
    go : (b : Bool) → x.held ≡ b → filter is_held xs ≡ [] → cond x.held (x ∷ filter is_held xs) (filter is_held xs) ≡ []
    go true e r = absurd (h 0 (omega arith) e)
    go false e r = ap (λ b. cond b (x ∷ filter is_held xs) (filter is_held xs)) e ∙ r

-- the first that is held is the first of those
first_left : (kept : List Kept) (k : ℕ) → k < length kept → (kept_at kept k).held ≡ true → NoneHeldBefore kept k → (later : List Kept) × (filter is_held kept ≡ kept_at kept k ∷ later)
first_left [] k l m h = absurd (omega arith)
first_left (x ∷ xs) zero l m h = (filter is_held xs, ap (λ b. cond b (x ∷ filter is_held xs) (filter is_held xs)) m)
first_left (x ∷ xs) (suc k) l m h = go x.held refl (first_left xs k (omega (arith, l)) m (λ j i. h (suc j) (omega (arith, i))))
  where
    go : (b : Bool) → x.held ≡ b → (later : List Kept) × (filter is_held xs ≡ kept_at xs k ∷ later) → (later : List Kept) × (cond x.held (x ∷ filter is_held xs) (filter is_held xs) ≡ kept_at xs k ∷ later)
    go true e r = absurd (h 0 (omega arith) e)
    go false e r = (r.0, ap (λ b. cond b (x ∷ filter is_held xs) (filter is_held xs)) e ∙ r.1)

module _ (g : Grammar) (m : ℕ) (kept : List Kept) (seen : ReportedSeen) (IsRun : List Event → Type 0) (made : List ℕ) (none : made ≡ []) where
  -- no report is held at the end of the file
  pub held_none : NoneHeld kept → (s : TakenSoFar) → IsTakenAs g m kept seen IsRun s → HoldsNone s made
  held_none h s at = (at.intake.parts.held ∙ ap (map report_of) (none_left kept h), none)

  -- a report is held there: the first of them is an orphan
  pub held_first : (line : ℕ) → IsOrphan kept line → (e : End) → e ≡ report_end (Orphan line) → (s : TakenSoFar) → IsTakenAs g m kept seen IsRun s → StopsHolding s e made
  held_first line h e is s at =
      let f = first_left kept h.0 h.1 h.2 h.3 in
      let r = (kept_at kept h.0).report in
      (r, map report_of f.0, at.intake.parts.held ∙ ap (map report_of) f.1, is ∙ ap (λ n. report_end (Orphan n)) (sym h.4), none)

-- before the first line no report is kept, no line is noted, and the run is that of no events
pub taken_at_start : (g h : Grammar) (m : ℕ) (kept : List Kept) (seen : ReportedSeen) (IsRun : List Event → Type 0) → h ≡ g → m ≡ instance_most → kept ≡ [] → seen ≡ none_reported → IsRun [] → IsTakenAs h m kept seen IsRun (none_taken_of g)
taken_at_start g h m kept seen IsRun grammar limit empty none run = record { grammar = sym grammar; limit = sym limit; intake = intake_begins h kept seen IsRun empty none run }

-- a table of nothing is a run of no events
pub plain_started : (r : GrowingSeen) → r.run ≡ record { most = instance_most; instances = []; order = [] } → IsGrownBy r []
plain_started r is = record { run = subst (IsTableOf r.grammar) (sym is) (run_none r.grammar instance_most); events = ap events_of is }

-- before the first line, where no report is kept and no line noted, and the run is a table of nothing
pub plain_at_start : (g : Grammar) (kept : List Kept) (seen : ReportedSeen) (r : GrowingSeen) → kept ≡ [] → seen ≡ none_reported → r.grammar ≡ g → r.run ≡ record { most = instance_most; instances = []; order = [] } → IsTakenAs r.grammar r.run.most kept seen (IsGrownBy r) (none_taken_of g)
plain_at_start g kept seen r empty none grammar run =
    taken_at_start g r.grammar r.run.most kept seen (IsGrownBy r) grammar (ap (λ (t : Table). t.most) run) empty none (plain_started r run)
