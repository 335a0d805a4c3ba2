-- What bytes tell, they tell of one value alone.
use Rattle.std.proofs.Common.{◌≡◌, ℕ, List, [], ◌∷◌, refl, sym, ap, ◌∙◌}
use Rattle.std.specs.Prelude.{Result, Ok, Err}
use Rattle.serde_json.specs.Data.{Data}
use Rattle.wf_model.specs.declared.event.Event.{Event}
use Rattle.wf_model.specs.Grammar.{Grammar}
use Rattle.wf_model.specs.View.{View}
use Rattle.wf_spec.specs.Held.{HeldGrammar}
use Rattle.report_model.specs.Reports.{Report}
use Rattle.report_model.specs.Intake.{GoesOn, state_after, intake}
use Rattle.wf_io.specs.Lines.{Line, FileLines, text_of}
use Rattle.wf_json.specs.declared.fault.Member.{Member}
use Rattle.wf_json.specs.Reading.{IsReading}
use Rattle.wf_json.specs.SpecForm.{spec_of}
use Rattle.wf_json.specs.ViewForm.{view_of as parts_in}
use Rattle.wf_events.specs.EventForm.{event_of}
use Rattle.wf_form.specs.Forming.{held_of}
use Rattle.wf_view.specs.Viewing.{view_of}
use Rattle.wf_inputs.specs.Specification.{TellsGrammar}
use Rattle.wf_inputs.specs.ViewTold.{TellsView}
use Rattle.wf_inputs.specs.RunTold.{IsEventText, AreReports, report_on, TellsEvents}
use Rattle.std.proofs.lemmas.Option.{same_Some}

abbrev ok_or : {A E : Type 0} → A → Result A E → A
ok_or d r = elim r [ Ok x ↦ x | Err e ↦ d ]

abbrev err_or : {A E : Type 0} → E → Result A E → E
err_or d r = elim r [ Ok x ↦ d | Err e ↦ e ]

-- a result is of one value
pub one_ok : {A E : Type 0} (r : Result A E) (x y : A) → r ≡ Ok x → r ≡ Ok y → x ≡ y
one_ok r x y p q = ap (ok_or x) (sym p ∙ q)

pub one_err : {A E : Type 0} (r : Result A E) (x y : E) → r ≡ Err x → r ≡ Err y → x ≡ y
one_err r x y p q = ap (err_or x) (sym p ∙ q)

pub ok_not_err : {A E : Type 0} (r : Result A E) (x : A) (y : E) → r ≡ Ok x → r ≡ Err y → ⊥
ok_not_err r x y p q = let e = sym p ∙ q in absurd (cc)

pub one_reading : (bytes : List ℕ) (d c : Data) → IsReading bytes d → IsReading bytes c → d ≡ c
one_reading bytes d c p q = same_Some d c (sym p.1 ∙ q.1)

-- the bytes are something in JSON, by its form
abbrev pub IsSaid : {A : Type 0} → (Data → Result A Member) → List ℕ → A → Type 0
IsSaid form bytes a = (d : Data) × IsReading bytes d × (form d ≡ Ok a)

one_said : {A : Type 0} (form : Data → Result A Member) (bytes : List ℕ) (a b : A) → IsSaid form bytes a → IsSaid form bytes b → a ≡ b
one_said form bytes a b p q = one_ok (form q.0) a b (ap form (sym (one_reading bytes p.0 q.0 p.1 q.1)) ∙ p.2) q.2

pub one_grammar : (bytes : List ℕ) (g h : HeldGrammar) → TellsGrammar bytes g → TellsGrammar bytes h → h ≡ g
one_grammar bytes g h p q = q.is ∙ (ap held_of (one_said spec_of bytes q.parts p.parts q.read p.read) ∙ sym p.is)

pub one_view : (g : Grammar) (bytes : List ℕ) (u v : View) → TellsView g bytes u → TellsView g bytes v → v ≡ u
one_view g bytes u v p q = q.is ∙ (ap (view_of g) (one_said parts_in bytes q.parts p.parts q.read p.read) ∙ sym p.is)

pub one_event : (text : List ℕ) (e f : Event) → IsEventText text e → IsEventText text f → e ≡ f
one_event text e f p q =
    same_Some e f (sym p.2 ∙ (ap event_of (one_reading text p.0 q.0 p.1 q.1) ∙ q.2))

-- lines tell one list of reports: the number of a line is that of its report, and its text tells one event
pub one_list : (ls : List Line) (rs ss : List Report) → AreReports ls rs → AreReports ls ss → rs ≡ ss
one_list [] [] [] p q = refl
one_list [] [] (s ∷ ss) p q = absurd q
one_list [] (r ∷ rs) ss p q = absurd p
one_list (l ∷ ls) [] ss p q = absurd p
one_list (l ∷ ls) (r ∷ rs) [] p q = absurd q
one_list (l ∷ ls) (r ∷ rs) (s ∷ ss) p q =
    ap (λ x. x ∷ rs) (ap (λ n. report_on n r.event) (p.0 ∙ sym q.0) ∙ ap (report_on s.line) (one_event (text_of l.raw) r.event s.event p.1.1 q.1.1)) ∙ ap (λ xs. s ∷ xs) (one_list ls rs ss p.2 q.2)

-- and a whole file tells one run
pub one_run : (g : Grammar) (limit : ℕ) (file : FileLines) (es fs : List Event) → TellsEvents g limit file es → TellsEvents g limit file fs → fs ≡ es
one_run g limit file es fs p q =
    let same = ap (intake g limit) (one_list file.lines q.reports p.reports q.read p.read) in
    let state : GoesOn q.state ≡ GoesOn p.state = sym q.taken ∙ (same ∙ p.taken) in
    sym q.run ∙ (ap (λ u. (state_after u).run) state ∙ p.run)
