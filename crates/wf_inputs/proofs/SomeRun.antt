-- A file of events tells a run, or ends the program.
use Rattle.std.proofs.Common.{◌≡◌, ◌⊎◌, ℕ, Bool, true, false, List, [], ◌∷◌, ◌++◌, Option, Some, None, refl, sym, ap, ◌∙◌, subst, inl, inr, ⊎_elim}
use Rattle.std.specs.Prelude.{codes}
use Rattle.serde_json.specs.Data.{Data}
use Rattle.wf_model.specs.declared.event.Event.{Event}
use Rattle.wf_model.specs.Grammar.{Grammar}
use Rattle.report_model.specs.Reports.{Report}
use Rattle.report_model.specs.Intake.{Intake, nothing_taken, Orphan, Taking, GoesOn, Stops, and_then, take_report, take_reports, end_with}
use Rattle.wf_io.specs.Lines.{Line, FileLines, Tail, AtEnd, Broken, LongFile, is_too_long, text_of}
use Rattle.wf_json.specs.Reading.{IsReading}
use Rattle.wf_json.proofs.Readings.{some_reading}
use Rattle.wf_events.specs.EventForm.{event_of}
use Rattle.wf_message.specs.Endings.{End, Refused, ReadFault}
use Rattle.wf_stage.specs.Outcomes.{HasOutcome}
use Rattle.wf_inputs.specs.RunTold.{IsEventText, IsEventLine, report_on, AreReports, AreTakenTo, RefusesForm, RefusesLine, report_end, TellsEvents, StopsIn, refused, stopped, held, long_file, broken, StopsEvents, EventsStage, stops, goes_on}
use Rattle.wf_inputs.proofs.OneRunFault.{RefusesHere, StopsHere, GoesHere}

-- a text tells an event, or is refused
abbrev ToldOrRefused : List ℕ → Type 0
ToldOrRefused text = ((e : Event) × IsEventText text e) ⊎ ((fault : List ℕ) × RefusesForm text fault)

data_either : (text : List ℕ) (d : Data) → IsReading text d → ToldOrRefused text
data_either text d read = go (event_of d) refl
  where
    go : (o : Option Event) → event_of d ≡ o → ToldOrRefused text
    go None none = inr (codes "WrongShape", inr (d, read, none, refl))
    go (Some e) is = inl (e, (d, read, is))

text_either : (text : List ℕ) → ToldOrRefused text
text_either text = ⊎_elim (λ r. data_either text r.0 r.1) (λ none. inr (codes "NotJson", inl (none, refl))) (some_reading text)

-- a line reports an event, or is refused
line_either : (l : Line) → ((e : Event) × IsEventLine l e) ⊎ ((fault : List ℕ) × RefusesLine l fault)
line_either l = go (is_too_long l.raw) refl
  where
    go : (t : Bool) → is_too_long l.raw ≡ t → ((e : Event) × IsEventLine l e) ⊎ ((fault : List ℕ) × RefusesLine l fault)
    go true long = inr (codes "LineTooLong", inl (long, refl))
    go false short = ⊎_elim (λ h. inl (h.0, (short, h.1))) (λ h. inr (h.0, inr (short, h.1))) (text_either (text_of l.raw))

module _ (g : Grammar) (limit : ℕ) where
  -- a line ends the program in a state, and leaves one
  abbrev EndsHere : Intake → Line → Type 0
  EndsHere s l = (t : Intake) × (d : End) × (RefusesHere g limit s l t d ⊎ StopsHere g limit s l t d)

  -- a report is taken in a state, or ends the program
  event_either : (s : Intake) (l : Line) (e : Event) → IsEventLine l e → ((t : Intake) × GoesHere g limit s l t) ⊎ EndsHere s l
  event_either s l e told = go (take_report g limit s (report_on l.number e)) refl
    where
      go : (u : Taking) → take_report g limit s (report_on l.number e) ≡ u → ((t : Intake) × GoesHere g limit s l t) ⊎ EndsHere s l
      go (GoesOn t) is = inl (t, (e, told, is))
      go (Stops t f) is = inr (t, report_end f, inr (e, told, (f, is, refl)))

  step_either : (s : Intake) (l : Line) → ((t : Intake) × GoesHere g limit s l t) ⊎ EndsHere s l
  step_either s l = ⊎_elim (λ h. event_either s l h.0 h.1) (λ h. inr (s, Refused (codes "events") (Some l.number) h.0, inl (h.0, h.1, refl, refl))) (line_either l)

  -- lines report what is taken from a state on, and leave another
  record IsTaken (s : Intake) (ls : List Line) (t : Intake) : Type 0 where
    reports : List Report
    read : AreReports ls reports
    taken : take_reports g limit s reports ≡ GoesOn t

  -- or one of them ends the program, and what those before it report is taken
  record IsEnded (s : Intake) (ls : List Line) : Type 0 where
    before : List Line
    first : Line
    later : List Line
    split : ls ≡ before ++ first ∷ later
    state : Intake
    told : IsTaken s before state
    ends : EndsHere state first

  -- one line more is taken before them
  one_more : (s q t : Intake) (l : Line) (ls : List Line) → GoesHere g limit s l q → IsTaken q ls t → IsTaken s (l ∷ ls) t
  one_more s q t l ls h r = record {
    reports = report_on l.number h.0 ∷ r.reports;
    read = (refl, h.1, r.read);
    taken = ap (λ u. and_then u (λ x. take_reports g limit x r.reports)) h.2 ∙ r.taken;
  }

  lines_either : (ls : List Line) (s : Intake) → ((t : Intake) × IsTaken s ls t) ⊎ IsEnded s ls
  lines_either [] s = inl (s, record { reports = []; read = tt; taken = refl })
  lines_either (l ∷ ls) s = ⊎_elim
      (λ h. ⊎_elim (λ r. inl (r.0, one_more s h.0 r.0 l ls h.1 r.1)) (λ r. inr (record {
        before = l ∷ r.before;
        first = r.first;
        later = r.later;
        split = ap (λ k. l ∷ k) r.split;
        state = r.state;
        told = one_more s h.0 r.state l r.before h.1 r.told;
        ends = r.ends;
      })) (lines_either ls h.0))
      (λ h. inr (record {
        before = [];
        first = l;
        later = ls;
        split = refl;
        state = s;
        told = record { reports = []; read = tt; taken = refl };
        ends = h;
      }))
      (step_either s l)

  module _ (file : FileLines) where
    -- a file of events tells a run, or ends the program
    abbrev RunOrStop : Type 0
    RunOrStop = ((es : List Event) × TellsEvents g limit file es) ⊎ ((d : End) × StopsEvents g limit file d)

    -- as its end does, behind lines that are taken
    by_tail : (s : Intake) → IsTaken nothing_taken file.lines s → RunOrStop
    by_tail s r = go file.tail refl
      where
        told : AreTakenTo g limit file.lines s
        told = record { reports = r.reports; read = r.read; taken = r.taken }

        by_held : (rs : List Report) → s.held ≡ rs → file.tail ≡ AtEnd → RunOrStop
        by_held [] none whole = inl (
          s.run,
          record {
            whole = whole;
            reports = r.reports;
            read = r.read;
            state = s;
            taken = ap (λ u. and_then u (λ t. end_with t t.held)) r.taken ∙ ap (end_with s) none;
            run = refl;
          },
        )
        by_held (k ∷ later) some whole = inr (report_end (Orphan k.line), (s, held whole (record { told = told; first = k; later = later; held = some; ending_is = refl })))

        go : (k : Tail) → file.tail ≡ k → RunOrStop
        go AtEnd is = by_held s.held refl is
        go Broken is = inr (ReadFault (codes "events"), (s, broken told is refl))
        go (LongFile n) is = inr (Refused (codes "events") (Some n) (codes "FileTooLong"), (s, long_file n told is refl))

    -- as a line does
    by_line : (r : IsEnded nothing_taken file.lines) → RunOrStop
    by_line r = inr (r.ends.1, (r.ends.0, go r.ends.2))
      where
        told : AreTakenTo g limit r.before r.state
        told = record { reports = r.told.reports; read = r.told.read; taken = r.told.taken }

        go : {t : Intake} {d : End} → RefusesHere g limit r.state r.first t d ⊎ StopsHere g limit r.state r.first t d → StopsIn g limit file t d
        go {t} {d} (inl h) = refused (record {
          taken = r.before;
          first = r.first;
          later = r.later;
          split = r.split;
          told = subst (AreTakenTo g limit r.before) (sym h.3) told;
          fault = h.0;
          refused = h.1;
          ending_is = h.2;
        })
        go {t} {d} (inr h) = stopped (record {
          taken = r.before;
          first = r.first;
          later = r.later;
          split = r.split;
          before = r.state;
          told = told;
          event = h.0;
          read = h.1;
          fault = h.2.0;
          stops = h.2.1;
          ending_is = h.2.2;
        })

    pub run_or_stop : RunOrStop
    run_or_stop = ⊎_elim (λ r. by_tail r.0 r.1) by_line (lines_either file.lines nothing_taken)

    -- it has an outcome where what follows has
    pub some_events : (written : List Event → List ℕ) (Next : List Event → End → List ℕ → Type 0) → ((es : List Event) → TellsEvents g limit file es → HasOutcome (Next es)) → HasOutcome (EventsStage g limit file written Next)
    some_events written Next next =
        ⊎_elim (λ r. let q = next r.0 r.1 in (q.0, q.1, goes_on r.0 r.1 q.2)) (λ r. (r.0, written r.1.0.run, stops r.1.0 r.1.1 refl)) run_or_stop
