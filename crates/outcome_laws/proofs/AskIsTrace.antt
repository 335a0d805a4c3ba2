-- What `ask` writes over the label file that `ingest` wrote is what `trace` writes over the events.
use Rattle.std.proofs.Common.{◌≡◌, ℕ, ◌≤◌, false, List, [], length, sym, ◌∙◌, subst}
use Rattle.wf_model.specs.View.{View}
use Rattle.wf_spec.specs.Held.{HeldGrammar}
use Rattle.wf_io.specs.Told.{File}
use Rattle.wf_message.specs.Endings.{End}
use Rattle.wf_stage.specs.Stages.{OfWhole, IsTold, Holds}
use Rattle.wf_stage.specs.Outcomes.{AreSame}
use Rattle.wf_stage.proofs.TwoStages.{same_outcome}
use Rattle.wf_inputs.specs.Inputs.{spec_kind, view_kind, labels_kind, ViewStage}
use Rattle.wf_inputs.specs.Specification.{TellsGrammar}
use Rattle.wf_inputs.specs.ViewTold.{TellsView, RefusesView}
use Rattle.wf_inputs.proofs.GoodFiles.{spec_goes_on}
use Rattle.wf_inputs.proofs.ToldGrammars.{told_formed}
use Rattle.wf_inputs.proofs.OneValue.{one_grammar, one_view}
use Rattle.wf_inputs.proofs.OneViewFault.{one_refusal_of_view, no_refusal_of_view}
use Rattle.cmd_ask.specs.Does.{AnswersRun, AnswersView, AnswersLabels, Traces, Asks}
use Rattle.cmd_ingest.specs.Ingested.{file_of}
use Rattle.outcome_laws.specs.Laws.{IsOneOf, AskIsTraceLaw}
use Rattle.outcome_laws.proofs.SafelyViewed.{told_safely}
use Rattle.outcome_laws.proofs.AllIngested.{IsIngested, all_ingested}
use Rattle.outcome_laws.proofs.LabelsAnswer.{answers_agree}

-- the grammar of SPEC, and a run that was ingested, of the grammar or of an earlier version
module _ (spec older view events labels queries : File) (text : List ℕ) (h : HeldGrammar) (told : IsTold spec_kind spec TellsGrammar h)
    (taken : IsIngested older events text) (one_of : IsOneOf h taken.grammar.core) (same : labels.bytes ≡ text) (short : length text ≤ labels_kind.most) (whole : labels.broken ≡ false) where
  -- LABELS holds the label file of the run
  labels_hold : IsTold labels_kind labels Holds (file_of taken.grammar.core taken.es)
  labels_hold = record { short = subst (λ b. length b ≤ labels_kind.most) (sym same) short; whole = whole; tells = sym (same ∙ taken.is) }

  -- under a view that VIEW tells both answer alike
  view_agrees : (u : View) → TellsView h.core view.bytes u → (d e : End) (t s : List ℕ) → AnswersRun h.core u events queries d t → AnswersLabels h u labels queries e s → AreSame d e t s
  view_agrees u shown = answers_agree h u (told_safely spec.bytes h told.tells view.bytes u shown) taken.grammar.core one_of events labels queries taken.es taken.run labels_hold

  -- VIEW is taken by both, or refused alike
  grammar_agrees : (d e : End) (t s : List ℕ) → AnswersView h.core view events queries d t → ViewStage h.core view (λ u. AnswersLabels h u labels queries) e s → AreSame d e t s
  grammar_agrees = same_outcome view_kind [] view (TellsView h.core) (OfWhole (RefusesView h.core)) (λ u. AnswersRun h.core u events queries) (λ u. AnswersLabels h u labels queries)
      (one_view h.core view.bytes)
      (λ l m x y p q. (p.0 ∙ sym q.0, one_refusal_of_view h.core (told_formed spec.bytes h told.tells) view.bytes x y p.1 q.1))
      (λ u l x t r. no_refusal_of_view h.core view.bytes x u t r.1) view_agrees

  -- SPEC is taken by both
  commands_agree : (d e : End) (t s : List ℕ) → Traces spec view events queries d t → Asks spec view labels queries e s → AreSame d e t s
  commands_agree d e t s p q = grammar_agrees d e t s
      (spec_goes_on spec h told (λ k. AnswersView k.core view events queries) d t p)
      (spec_goes_on spec h told (λ k. ViewStage k.core view (λ u. AnswersLabels k u labels queries)) e s q)

pub ask_is_trace_law : AskIsTraceLaw
ask_is_trace_law files spec older view events labels queries t s r d e is ingested same short whole traced asked =
    let taken = all_ingested (files older) (files events) t ingested in
    let one_of = subst (λ (k : HeldGrammar). IsOneOf is.grammar k.core) (one_grammar (files older).bytes taken.grammar is.before taken.told.tells is.told_before.tells) is.one_of in
    commands_agree (files spec) (files older) (files view) (files events) (files labels) (files queries) t is.grammar is.told taken one_of same short whole d e s r traced asked
