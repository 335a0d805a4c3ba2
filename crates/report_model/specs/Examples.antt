-- Worked reports: what the intake makes of them.
use Rattle.std.specs.Prelude.{◌≡◌, ℕ, suc, List, [], ◌∷◌, map, take, codes, Option, Some, None}
use Prim.Native.String.{String}
use Rattle.wf_model.specs.Grammar.{Grammar}
use Rattle.wf_model.specs.declared.event.Event.{Event}
use Rattle.wf_model.specs.declared.event.Event.TheVariants.{Start, Expand}
use Rattle.wf_model.specs.declared.event.RunFault.TheVariants.{WrongHead, NameTwice, TooManyInstances}
use Rattle.wf_laws.specs.LineGrammar.{line, events as line_run}
use Rattle.wf_laws.specs.TwistingGrammar.{two}
use Rattle.label_model.specs.Examples.{loop, loop_run}
use Rattle.report_model.specs.Reports.{Report}
use Rattle.report_model.specs.Intake.{ReportFault, Conflict, Refused, Orphan, Taking, GoesOn, Stops, intake}

-- a start event
abbrev pub start : String → Event
start r = Start (codes r)

-- an instance is expanded by a production to one child, or to two
abbrev pub to_one : String → ℕ → String → Event
to_one i p a = Expand (codes i) p (codes a ∷ [])

abbrev pub to_two : String → ℕ → String → String → Event
to_two i p a b = Expand (codes i) p (two a b)

-- events that lines report one after another, from the line n on
abbrev pub on_lines : ℕ → List Event → List Report
on_lines n [] = []
on_lines n (e ∷ events) = record { line = n; event = e } ∷ on_lines (suc n) events

-- what reports come to: the run, the lines of the reports that are held still, and why one was refused, if one was
pub record ComesTo : Type 0 where
  pub run : List Event
  pub held : List ℕ
  pub fault : Option ReportFault

abbrev pub comes_to : Taking → ComesTo
comes_to (GoesOn s) = record { run = s.run; held = map (λ (r : Report). r.line) s.held; fault = None }
comes_to (Stops s f) = record { run = s.run; held = map (λ (r : Report). r.line) s.held; fault = Some f }

-- what lines come to that report these events of a run with at most 2^24 instances
abbrev pub reports_of : Grammar → List Event → ComesTo
reports_of g events = comes_to (intake g 16777216 (on_lines 1 events))

-- all of them were applied, to this run
abbrev pub applied : List Event → ComesTo
applied run = record { run = run; held = []; fault = None }

-- the reports of some lines are held still, and one was refused
abbrev pub refused : List Event → List ℕ → ReportFault → ComesTo
refused run held f = record { run = run; held = held; fault = Some f }

-- reports of runs of the line grammar and of the looping grammar
pub record ReportsAreWorked : Type 0 where
  -- in order, exchanged, and two of them twice
  pub in_order : reports_of line (start "r" ∷ to_two "r" 0 "i1" "i2" ∷ []) ≡ applied line_run
  pub exchanged : reports_of line (to_two "r" 0 "i1" "i2" ∷ start "r" ∷ []) ≡ applied line_run
  pub repeated : reports_of line (start "r" ∷ to_two "r" 0 "i1" "i2" ∷ to_two "r" 0 "i1" "i2" ∷ start "r" ∷ []) ≡ applied line_run
  pub repeated_held : reports_of line (to_two "r" 0 "i1" "i2" ∷ to_two "r" 0 "i1" "i2" ∷ start "r" ∷ []) ≡ applied line_run
  -- four events in the order 4, 1, 3, 2
  pub shuffled : reports_of loop (to_two "l1" 1 "w1" "l2" ∷ start "r" ∷ to_two "l0" 1 "w0" "l1" ∷ to_one "r" 0 "l0" ∷ []) ≡ applied (take 4 loop_run)
  pub none : reports_of line [] ≡ applied []
  -- an instance is never made: the events before it stand
  pub orphan : reports_of line (start "r" ∷ to_one "q" 0 "x" ∷ []) ≡ refused (start "r" ∷ []) (2 ∷ []) (Orphan 2)
  pub two_orphans : reports_of line (to_two "z" 0 "a" "b" ∷ to_one "q" 0 "x" ∷ start "r" ∷ []) ≡ refused (start "r" ∷ []) (1 ∷ 2 ∷ []) (Orphan 1)
  -- without a start nothing comes to be ready
  pub no_start : reports_of line (to_two "r" 0 "i1" "i2" ∷ []) ≡ refused [] (1 ∷ []) (Orphan 1)
  -- a held event is refused by the run when it is ready, and is told by its own line; another is held still
  pub wrong_head : reports_of loop (to_one "l0" 0 "k" ∷ start "r" ∷ to_one "r" 0 "l0" ∷ []) ≡ refused (start "r" ∷ to_one "r" 0 "l0" ∷ []) [] (Refused 1 WrongHead)
  pub name_twice : reports_of loop (to_two "l1" 1 "w1" "l2" ∷ to_two "l0" 1 "w0" "r" ∷ start "r" ∷ to_one "r" 0 "l0" ∷ []) ≡
      refused (start "r" ∷ to_one "r" 0 "l0" ∷ []) (1 ∷ []) (Refused 2 NameTwice)
  pub too_many : comes_to (intake line 2 (on_lines 1 (start "r" ∷ to_two "r" 0 "i1" "i2" ∷ []))) ≡ refused (start "r" ∷ []) [] (Refused 2 TooManyInstances)
  -- a report contradicts one that is applied, one that is held, and the start; and the first of two equal ones is told
  pub conflict : reports_of line (start "r" ∷ to_two "r" 0 "i1" "i2" ∷ to_two "r" 0 "i3" "i4" ∷ []) ≡ refused line_run [] (Conflict 3 2)
  pub conflict_held : reports_of line (to_two "r" 0 "i1" "i2" ∷ to_two "r" 0 "i3" "i4" ∷ start "r" ∷ []) ≡ refused [] (1 ∷ []) (Conflict 2 1)
  pub conflict_start : reports_of line (start "r" ∷ to_two "r" 0 "i1" "i2" ∷ start "s" ∷ []) ≡ refused line_run [] (Conflict 3 1)
  pub conflict_first : reports_of line (to_two "r" 0 "i1" "i2" ∷ to_two "r" 0 "i1" "i2" ∷ to_two "r" 0 "i3" "i4" ∷ []) ≡ refused [] (1 ∷ []) (Conflict 3 1)
