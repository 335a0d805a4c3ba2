-- How SPEC, VIEW, EVENTS and LABELS end a command, or are taken on.
use Rattle.std.proofs.Common.{◌≡◌, ℕ, Bool, List, [], ◌∷◌, Option, refl, ◌∙◌, subst, arith}
use Rattle.wf_model.specs.declared.event.Event.{Event}
use Rattle.wf_model.specs.Grammar.{Grammar}
use Rattle.wf_model.specs.View.{View}
use Rattle.wf_io.specs.Told.{File}
use Rattle.wf_io.specs.Readings.{Reading}
use Rattle.wf_io.specs.Lines.{lines_in}
use Rattle.wf_spec.specs.Held.{HeldGrammar}
use Rattle.label_model.specs.Files.{Entry}
use Rattle.wf_message.specs.Endings.{End}
use Rattle.wf_stage.specs.Kinds.{Kind}
use Rattle.wf_stage.specs.Stages.{Stage, OfWhole}
use Rattle.wf_stage.specs.Promises.{HasRead, HasStopped, HasReadLines, HasStoppedLines, Obeys}
use Rattle.wf_stage.specs.Causes.{IsCause}
use Rattle.wf_stage.proofs.Ends.{begins_nothing, nothing_put}
use Rattle.wf_stage.proofs.Obeying.{cause_of_reading, never_writes, none_read, obeys_stop, obeys_on}
use Rattle.wf_inputs.specs.Inputs.{spec_kind, view_kind, labels_kind, instance_most, SpecStage, ViewFileStage, ViewStage}
use Rattle.wf_inputs.specs.Specification.{TellsGrammar, RefusesSpec}
use Rattle.wf_inputs.specs.ViewTold.{TellsView, RefusesView}
use Rattle.wf_inputs.specs.RunTold.{TellsEvents, StopsEvents, EventsStage, stops, goes_on}
use Rattle.wf_inputs.specs.LabelsTold.{TellsEntries, RefusesLabels}
use Rattle.wf_inputs.proofs.OneValue.{one_grammar, one_view}
use Rattle.wf_inputs.proofs.OneFault.{no_refusal}
use Rattle.wf_inputs.proofs.OneViewFault.{no_refusal_of_view}
use Rattle.wf_inputs.proofs.OneRun.{events_goes_on}
use Rattle.wf_inputs.proofs.OneLabels.{one_entries, no_refusal_of_labels}

module _ {S T : Type 0} {files : S → Option (List ℕ → File)} {readings : S → Option (List Reading)} {faults : S → ℕ} {last : S → Bool} {bytes : T → Option (List ℕ)} {counts : T → ℕ} {out_last : T → Bool} {name : List ℕ} {names : List (List ℕ)} where
  module _ (Next : (List ℕ → File) → HeldGrammar → End → List ℕ → Type 0) where
    -- SPEC ends the command
    pub spec_stops : (s t : S) (o : T) (e : End) → HasStopped files readings faults last spec_kind name (OfWhole RefusesSpec) s t e → Obeys files readings faults last bytes counts out_last (name ∷ names) [] (λ f. SpecStage (f name) (Next f)) s t o o e
    spec_stops = obeys_stop [] Next (λ f a. begins_nothing (Next f a))

    -- the grammar of SPEC is taken on
    pub spec_goes : (s t u : S) (o p : T) (e : End) (h : HeldGrammar) → HasRead files readings faults spec_kind name TellsGrammar s t h → Obeys files readings faults last bytes counts out_last names [] (λ f. Next f h) t u o p e → Obeys files readings faults last bytes counts out_last (name ∷ names) [] (λ f. SpecStage (f name) (Next f)) s u o p e
    spec_goes = obeys_on [] Next one_grammar (λ b h line fault told r. no_refusal b fault h told r.1)

  module _ (g : Grammar) where
    module _ (kind : Kind) (Next : (List ℕ → File) → View → End → List ℕ → Type 0) where
      -- a view in a file of a kind ends the command
      pub view_file_stops : (s t : S) (o : T) (e : End) → HasStopped files readings faults last kind name (OfWhole (RefusesView g)) s t e → Obeys files readings faults last bytes counts out_last (name ∷ names) [] (λ f. ViewFileStage kind g (f name) (Next f)) s t o o e
      view_file_stops = obeys_stop [] Next (λ f a. begins_nothing (Next f a))

      -- it is taken on
      pub view_file_goes : (s t u : S) (o p : T) (e : End) (v : View) → HasRead files readings faults kind name (TellsView g) s t v → Obeys files readings faults last bytes counts out_last names [] (λ f. Next f v) t u o p e → Obeys files readings faults last bytes counts out_last (name ∷ names) [] (λ f. ViewFileStage kind g (f name) (Next f)) s u o p e
      view_file_goes = obeys_on [] Next (one_view g) (λ b v line fault told r. no_refusal_of_view g b fault v told r.1)

    module _ (Next : (List ℕ → File) → View → End → List ℕ → Type 0) where
      -- VIEW ends the command
      pub view_stops : (s t : S) (o : T) (e : End) → HasStopped files readings faults last view_kind name (OfWhole (RefusesView g)) s t e → Obeys files readings faults last bytes counts out_last (name ∷ names) [] (λ f. ViewStage g (f name) (Next f)) s t o o e
      view_stops = view_file_stops view_kind Next

      -- the view of VIEW is taken on
      pub view_goes : (s t u : S) (o p : T) (e : End) (v : View) → HasRead files readings faults view_kind name (TellsView g) s t v → Obeys files readings faults last bytes counts out_last names [] (λ f. Next f v) t u o p e → Obeys files readings faults last bytes counts out_last (name ∷ names) [] (λ f. ViewStage g (f name) (Next f)) s u o p e
      view_goes = view_file_goes view_kind Next

    module _ (Next : (List ℕ → File) → List Event → End → List ℕ → Type 0) where
      -- EVENTS ends the command
      pub events_stop : (s t : S) (o : T) (e : End) → HasStoppedLines files readings faults last name (StopsEvents g instance_most) s t e → Obeys files readings faults last bytes counts out_last (name ∷ names) [] (λ f. EventsStage g instance_most (lines_in (f name)) (λ es. []) (Next f)) s t o o e
      events_stop s t o e h = record {
        ends = λ f told. nothing_put [] _ (begins_nothing _) e (bytes o) (bytes o) (never_writes (faults s) (faults t) (last t) e h.cause) refl (λ w. let r = h.stops f told w in stops r.0 r.1 refl);
        cause = cause_of_reading (faults s) (faults t) (last t) (counts o) (out_last o) e h.cause;
        same = h.same;
        in_turn = (readings t, h.once, none_read names (readings t));
        later = h.later;
        put_later = omega arith;
      }

      -- the run of EVENTS is taken on
      pub events_go : (s t u : S) (o p : T) (e : End) (es : List Event) → HasReadLines files readings faults name (TellsEvents g instance_most) s t es → Obeys files readings faults last bytes counts out_last names [] (λ f. Next f es) t u o p e → Obeys files readings faults last bytes counts out_last (name ∷ names) [] (λ f. EventsStage g instance_most (lines_in (f name)) (λ es. []) (Next f)) s u o p e
      events_go s t u o p e es r h = record {
        ends = λ f told.
            let is = r.told f told in
            let rest = h.ends f (r.same ∙ told) in
            record {
              whole = λ w. let x = rest.whole w in (x.0, goes_on es is x.1, x.2);
              begun = λ d v outcome. rest.begun d v (events_goes_on g instance_most (lines_in (f name)) (λ es. []) (Next f) es is d v outcome);
              due = λ w d v outcome. rest.due w d v (events_goes_on g instance_most (lines_in (f name)) (λ es. []) (Next f) es is d v outcome);
            };
        cause = subst (λ n. IsCause n (faults u) (last u) (counts o) (counts p) (out_last p) e) r.count h.cause;
        same = h.same ∙ r.same;
        in_turn = (readings t, r.once, h.in_turn);
        later = let count = r.count in let later = h.later in omega arith;
        put_later = h.put_later;
      }

  module _ (h : HeldGrammar) where
    module _ (Next : (List ℕ → File) → List Entry → End → List ℕ → Type 0) where
      -- LABELS ends the command
      pub labels_stop : (s t : S) (o : T) (e : End) → HasStopped files readings faults last labels_kind name (OfWhole (RefusesLabels h)) s t e → Obeys files readings faults last bytes counts out_last (name ∷ names) [] (λ f. Stage labels_kind [] (f name) (TellsEntries h) (OfWhole (RefusesLabels h)) (Next f)) s t o o e
      labels_stop = obeys_stop [] Next (λ f a. begins_nothing (Next f a))

      -- the entries of LABELS are taken on
      pub labels_go : (s t u : S) (o p : T) (e : End) (es : List Entry) → HasRead files readings faults labels_kind name (TellsEntries h) s t es → Obeys files readings faults last bytes counts out_last names [] (λ f. Next f es) t u o p e → Obeys files readings faults last bytes counts out_last (name ∷ names) [] (λ f. Stage labels_kind [] (f name) (TellsEntries h) (OfWhole (RefusesLabels h)) (Next f)) s u o p e
      labels_go = obeys_on [] Next (one_entries h) (λ b es line fault told r. no_refusal_of_labels h b es line fault told r)

-- the same by the same grammar
pub with_grammar : {S T : Type 0} {files : S → Option (List ℕ → File)} {readings : S → Option (List Reading)} {faults : S → ℕ} {last : S → Bool} {bytes : T → Option (List ℕ)} {counts : T → ℕ} {out_last : T → Bool} {names : List (List ℕ)} (first : List ℕ) (Next : (List ℕ → File) → HeldGrammar → End → List ℕ → Type 0) (g h : HeldGrammar) (s t : S) (o p : T) (e : End) → g ≡ h → Obeys files readings faults last bytes counts out_last names first (λ f. Next f g) s t o p e → Obeys files readings faults last bytes counts out_last names first (λ f. Next f h) s t o p e
with_grammar {files = files} {readings = readings} {faults = faults} {last = last} {bytes = bytes} {counts = counts} {out_last = out_last} {names = names} first Next g h s t o p e same = subst (λ (x : HeldGrammar). Obeys files readings faults last bytes counts out_last names first (λ f. Next f x) s t o p e) same
