-- A file that reports the events of a run tells this run in another order.
use Rattle.std.proofs.Common.{◌≡◌, ℕ, List, [], ◌∷◌, refl, sym, ◌∙◌, inl}
use Rattle.std.specs.Prelude.{codes}
use Rattle.wf_model.specs.declared.event.Event.{Event}
use Rattle.wf_model.specs.Grammar.{Grammar}
use Rattle.wf_model.specs.WellFormed.{IsWellFormed}
use Rattle.wf_model.specs.View.{View}
use Rattle.wf_spec.specs.Held.{HeldGrammar}
use Rattle.wf_io.specs.Told.{File}
use Rattle.wf_io.specs.Lines.{lines_in}
use Rattle.report_model.specs.Laws.{AreTaken, AreReordered}
use Rattle.report_model.proofs.TakenReports.{any_order_law}
use Rattle.wf_message.specs.Endings.{End, Done}
use Rattle.wf_stage.specs.Stages.{OfWhole, IsTold}
use Rattle.wf_stage.specs.Outcomes.{AreSame}
use Rattle.wf_stage.proofs.TwoStages.{same_outcome}
use Rattle.wf_inputs.specs.Inputs.{spec_kind, view_kind, instance_most}
use Rattle.wf_inputs.specs.Specification.{TellsGrammar}
use Rattle.wf_inputs.specs.ViewTold.{TellsView, RefusesView}
use Rattle.wf_inputs.specs.RunTold.{TellsEvents}
use Rattle.wf_inputs.proofs.GoodFiles.{spec_goes_on}
use Rattle.wf_inputs.proofs.ToldGrammars.{told_formed}
use Rattle.wf_inputs.proofs.OneValue.{one_view}
use Rattle.wf_inputs.proofs.OneViewFault.{one_refusal_of_view, no_refusal_of_view}
use Rattle.wf_inputs.proofs.OneRun.{events_accepted, events_goes_on}
use Rattle.cmd_ask.specs.Does.{AnswersRun, AnswersView, Traces}
use Rattle.cmd_ingest.specs.Ingested.{file_of, WritesFile}
use Rattle.cmd_ingest.specs.Does.{Ingests}
use Rattle.wf_top.specs.Outcome.{IsOutcome}
use Rattle.outcome_laws.specs.Laws.{IsOlder, ReportsThese, HoldsIngested, IsToldAgain, ReorderedFilesLaw, SomeOutcomeLaw}
use Rattle.outcome_laws.proofs.SafelyViewed.{told_safely}
use Rattle.outcome_laws.proofs.AskIsTrace.{ask_is_trace_law}
use Rattle.outcome_laws.proofs.ReorderedAnswers.{one_answer}

module _ (spec events other : File) (h : HeldGrammar) (es : List Event) (is : IsTold spec_kind spec TellsGrammar h) (run : TellsEvents h.core instance_most (lines_in events) es) (same : ReportsThese (lines_in other) es) where
  abbrev g : Grammar
  g = h.core

  formed : IsWellFormed g
  formed = told_formed spec.bytes h is.tells

  -- the reports of the other file are taken whole, since the run is accepted
  reordered : (taken : AreTaken g instance_most same.reports) × (IsWellFormed g → AreReordered g es taken.state.run)
  reordered = any_order_law g instance_most es same.reports (events_accepted g instance_most (lines_in events) es run) same.same

  abbrev again : List Event
  again = reordered.0.state.run

  told : TellsEvents g instance_most (lines_in other) again
  told = record { whole = same.whole; reports = same.reports; read = same.read; state = reordered.0.state; taken = reordered.0.goes_on; run = refl }

  -- `ingest` labels them
  ingested : (d : End) (t : List ℕ) → Ingests spec other d t → (d ≡ Done) × (t ≡ file_of g again)
  ingested d t w = events_goes_on g instance_most (lines_in other) (file_of g) (WritesFile g) again told d t (spec_goes_on spec h is _ d t w)

  -- `trace` answers alike under a view, and refuses one alike
  module _ (view queries : File) where
    view_agrees : (u : View) → TellsView g view.bytes u → (d e : End) (t s : List ℕ) → AnswersRun g u events queries d t → AnswersRun g u other queries e s → AreSame d e t s
    view_agrees u shown =
        one_answer h u (told_safely spec.bytes h is.tells view.bytes u shown) events other queries es again run told (reordered.1 formed).events

    views_agree : (d e : End) (t s : List ℕ) → AnswersView g view events queries d t → AnswersView g view other queries e s → AreSame d e t s
    views_agree = same_outcome view_kind [] view (TellsView g) (OfWhole (RefusesView g)) (λ u. AnswersRun g u events queries) (λ u. AnswersRun g u other queries)
        (one_view g view.bytes)
        (λ l m x y p q. (p.0 ∙ sym q.0, one_refusal_of_view g formed view.bytes x y p.1 q.1))
        (λ u l x t r. no_refusal_of_view g view.bytes x u t r.1) view_agrees

    traced : (d e : End) (t s : List ℕ) → Traces spec view events queries d t → Traces spec view other queries e s → AreSame d e t s
    traced d e t s p q = views_agree d e t s (spec_goes_on spec h is (λ k. AnswersView k.core view events queries) d t p) (spec_goes_on spec h is (λ k. AnswersView k.core view other queries) e s q)

module _ (some : SomeOutcomeLaw) (files : List ℕ → File) (spec events other : List ℕ) (h : HeldGrammar) (es : List Event) (is : IsTold spec_kind (files spec) TellsGrammar h)
    (run : TellsEvents h.core instance_most (lines_in (files events)) es) (same : ReportsThese (lines_in (files other)) es) where
  traced_alike : (view queries : List ℕ) (d e : End) (t s : List ℕ) → IsOutcome files (codes "trace" ∷ spec ∷ view ∷ events ∷ queries ∷ []) d t → IsOutcome files (codes "trace" ∷ spec ∷ view ∷ other ∷ queries ∷ []) e s → AreSame d e t s
  traced_alike view queries = traced (files spec) (files events) (files other) h es is run same (files view) (files queries)

  -- `ask` writes what `trace` writes, over both files
  asked_alike : (view labels others queries : List ℕ) (d e : End) (t s : List ℕ) → HoldsIngested files spec events labels → HoldsIngested files spec other others →
      IsOutcome files (codes "ask" ∷ spec ∷ view ∷ labels ∷ queries ∷ []) d t → IsOutcome files (codes "ask" ∷ spec ∷ view ∷ others ∷ queries ∷ []) e s → AreSame d e t s
  asked_alike view labels others queries d e t s first second p q =
      let x = some files (codes "trace" ∷ spec ∷ view ∷ events ∷ queries ∷ []) in
      let y = some files (codes "trace" ∷ spec ∷ view ∷ other ∷ queries ∷ []) in
      let itself : IsOlder files spec spec = record { grammar = h; told = is; before = h; told_before = is; one_of = inl (record { start = refl; modules = refl; productions = refl }) } in
      let a = ask_is_trace_law files spec spec view events labels queries first.text x.1 t x.0 d itself first.ingested first.bytes first.short first.whole x.2 p in
      let b = ask_is_trace_law files spec spec view other others queries second.text y.1 s y.0 e itself second.ingested second.bytes second.short second.whole y.2 q in
      let c = traced_alike view queries x.0 y.0 x.1 y.1 x.2 y.2 in
      (sym a.0 ∙ (c.0 ∙ b.0), sym a.1 ∙ (c.1 ∙ b.1))

  told_again : IsToldAgain files spec events other h.core es
  told_again = record {
    run = again (files spec) (files events) (files other) h es is run same;
    told = told (files spec) (files events) (files other) h es is run same;
    reordered = (reordered (files spec) (files events) (files other) h es is run same).1 (formed (files spec) (files events) (files other) h es is run same);
    ingested = ingested (files spec) (files events) (files other) h es is run same;
    traced = traced_alike;
    asked = asked_alike;
  }

pub reordered_files_law : SomeOutcomeLaw → ReorderedFilesLaw
reordered_files_law = told_again
