-- The bytes of a specification, of a view and of a label file tell a value, or are refused. So the stages that read them have outcomes, where what follows has.
use Rattle.std.proofs.Common.{◌≡◌, ◌⊎◌, ℕ, List, [], Option, None, Result, Ok, Err, refl, inl, inr, ⊎_elim}
use Rattle.std.specs.Prelude.{codes, decimal, ◌++◌}
use Rattle.serde_json.specs.Data.{Data}
use Rattle.wf_model.specs.declared.parts.Parts.{Parts}
use Rattle.wf_model.specs.declared.parts.ViewParts.{ViewParts}
use Rattle.wf_model.specs.Grammar.{Grammar}
use Rattle.wf_model.specs.WellFormed.{IsWellFormed}
use Rattle.wf_model.specs.Proper.{IsProper}
use Rattle.wf_model.specs.Linear.{IsLinear}
use Rattle.wf_spec.specs.Held.{HeldGrammar, AreVersionsOf}
use Rattle.wf_model.specs.View.{View}
use Rattle.wf_model.specs.Safe.{IsSafe}
use Rattle.wf_model.specs.Finishing.{ExpandsComposites}
use Rattle.wf_io.specs.Told.{File}
use Rattle.wf_json.specs.declared.fault.Member.{Member}
use Rattle.wf_json.specs.Reading.{IsReading}
use Rattle.wf_json.specs.SpecForm.{spec_of}
use Rattle.wf_json.specs.ViewForm.{view_of as parts_in}
use Rattle.wf_json.specs.Digests.{digests_of}
use Rattle.wf_json.proofs.Readings.{some_reading}
use Rattle.wf_form.specs.Forming.{grammar_of, held_of, IsFormed, HaveVersions}
use Rattle.wf_form.proofs.KeptOrFault.{formed_or_fault}
use Rattle.wf_check.specs.declared.fault.CheckFault.{CheckFault}
use Rattle.wf_check.specs.Improper.{IsFaultOf as IsFaultOfGrammar}
use Rattle.wf_check.proofs.ProperOrFault.{proper_or_fault, some_ranking}
use Rattle.wf_recur.specs.declared.fault.RecurFault.{RecurFault}
use Rattle.wf_recur.specs.Loops.{IsFaultOf as HasTwoLoops}
use Rattle.wf_recur.proofs.LinearOrLoops.{linear_or_loops}
use Rattle.wf_view.specs.Viewing.{view_of}
use Rattle.wf_view.specs.Rules.{IsViewed}
use Rattle.wf_view.proofs.ViewedOrFault.{viewed_or_fault}
use Rattle.wf_safe.proofs.SafeOrWitness.{safe_or_witness, witness_unsafe}
use Rattle.label_model.specs.Files.{Entry, Answer, Accepted, NotLabels, OtherSpec, Truncated, BadName, NameTwice, BadLabel}
use Rattle.label_model.proofs.OpenedLabels.{HaveLabels, opened_labels}
use Rattle.label_file.proofs.SomeReading.{some_opening}
use Rattle.wf_message.specs.Endings.{End}
use Rattle.wf_version.proofs.KeepsOrChanges.{keeps_or_changes}
use Rattle.wf_check.specs.FaultText.{check_text}
use Rattle.wf_recur.specs.FaultText.{recur_text}
use Rattle.wf_version.specs.FaultText.{version_text}
use Rattle.wf_safe.specs.WitnessText.{unsafe_text}
use Rattle.wf_stage.specs.Kinds.{Kind}
use Rattle.wf_stage.specs.Stages.{Stage, OfWhole}
use Rattle.wf_stage.specs.Outcomes.{HasOutcome}
use Rattle.wf_stage.proofs.SomeStages.{some_stage}
use Rattle.wf_inputs.specs.Inputs.{spec_kind, view_kind, labels_kind, SpecStage, ViewFileStage, ViewStage}
use Rattle.wf_json.specs.FaultText.{shape_text}
use Rattle.wf_form.specs.FaultText.{form_text}
use Rattle.wf_view.specs.FaultText.{view_text}
use Rattle.wf_inputs.specs.Specification.{AllKeepCycles, TellsGrammar, RefusesVersions, RefusesGrammar, RefusesParts, RefusesSpec}
use Rattle.wf_inputs.specs.ViewTold.{TellsView, RefusesUnsafe, RefusesViewParts, RefusesView}
use Rattle.wf_inputs.specs.LabelsTold.{OpensFor, TellsEntries, RefusesLabels}
use Rattle.wf_inputs.proofs.SpecSteps.{refuses_by_parts, told_grammar}
use Rattle.wf_inputs.proofs.ViewSteps.{refuses_by_parts as view_refuses_by_parts, told_view}
use Rattle.wf_inputs.proofs.ToldGrammars.{told_formed, told_proper, versions_said}
use Rattle.wf_accept.proofs.ChangedVersions.{all_or_first}
use Rattle.wf_inputs.proofs.ViewComposites.{viewed_composites}

-- all of so many versions keep their cycles, or one of them is the first that does not
versions_or_refusal : (h : HeldGrammar) → IsWellFormed h.core → AreVersionsOf h.core h.versions → AllKeepCycles h ⊎ ((fault : List ℕ) × RefusesVersions h fault)
versions_or_refusal h formed are =
    ⊎_elim (λ keeps. inl keeps) (λ f. inr (version_text h.core f.0 f.1, (f.0, f.1, f.2, refl)))
    (all_or_first h.core h.versions (λ v i. keeps_or_changes h.core v formed (are.each v i)))

-- a well-formed grammar is proper and strictly linear, and its versions keep their cycles, or it is refused
grammar_or_refusal : (h : HeldGrammar) → IsWellFormed h.core → AreVersionsOf h.core h.versions → (IsProper h.core × IsLinear h.core × AllKeepCycles h) ⊎ ((fault : List ℕ) × RefusesGrammar h fault)
grammar_or_refusal h formed are = by (proper_or_fault h.core formed) (linear_or_loops h.core formed)
  where
    by : IsProper h.core ⊎ ((f : CheckFault) × IsFaultOfGrammar h.core f) → IsLinear h.core ⊎ ((f : RecurFault) × HasTwoLoops h.core f) → (IsProper h.core × IsLinear h.core × AllKeepCycles h) ⊎ ((fault : List ℕ) × RefusesGrammar h fault)
    by (inr f) loops = inr (check_text h.core f.0, inl (f.0, f.1, refl))
    by (inl proper) (inr f) = inr (recur_text h.core f.0, inr (proper, inl (f.0, f.1, refl)))
    by (inl proper) (inl linear) = ⊎_elim (λ keeps. inl (proper, linear, keeps)) (λ f. inr (f.0, inr (proper, inr (linear, f.1)))) (versions_or_refusal h formed are)

-- so are parts
parts_or_refusal : (parts : Parts) → (IsFormed parts × HaveVersions parts × (IsProper (grammar_of parts) × IsLinear (grammar_of parts) × AllKeepCycles (held_of parts))) ⊎ ((fault : List ℕ) × RefusesParts parts fault)
parts_or_refusal parts = ⊎_elim
    (λ k. ⊎_elim (λ h. inl (k.0, k.1, h)) (λ f. inr (f.0, inr (k.0, k.1, f.1))) (grammar_or_refusal (held_of parts) k.0.well_formed (versions_said parts k.1)))
    (λ f. inr (form_text f.0, inl (f.0, f.1, refl)))
    (formed_or_fault parts)

-- the bytes of a specification tell a grammar, or are refused
pub spec_or_refusal : (bytes : List ℕ) → ((h : HeldGrammar) × TellsGrammar bytes h) ⊎ ((fault : List ℕ) × RefusesSpec bytes fault)
spec_or_refusal bytes = ⊎_elim (λ r. by_form r.0 r.1 (spec_of r.0) refl) (λ none. inr (codes "NotJson", inl (none, refl))) (some_reading bytes)
  where
    by_form : (d : Data) → IsReading bytes d → (o : Result Parts Member) → spec_of d ≡ o → ((h : HeldGrammar) × TellsGrammar bytes h) ⊎ ((fault : List ℕ) × RefusesSpec bytes fault)
    by_form d read (Err m) is = inr (shape_text m, inr (d, read, inl (m, is, refl)))
    by_form d read (Ok parts) is = ⊎_elim
        (λ k. inl (held_of parts, told_grammar bytes parts (d, read, is) (held_of parts) (refl, k.0, k.1) k.2.0 k.2.1 k.2.2))
        (λ f. inr (f.0, refuses_by_parts bytes parts (d, read, is) f.0 f.1))
        (parts_or_refusal parts)

module _ (g : Grammar) (formed : IsWellFormed g) (proper : IsProper g) where
  -- a view is safe, or is refused
  safe_or_refusal : (u : View) → ExpandsComposites g u → IsSafe g u ⊎ ((fault : List ℕ) × RefusesUnsafe g u fault)
  safe_or_refusal u composites =
      let r = some_ranking g formed proper in
      ⊎_elim
      (λ safe. inl safe)
      (λ w. inr (unsafe_text g w.0, (witness_unsafe g u r.0 formed r.1 composites w.0 w.1, (r.0, w.0, r.1, w.1, refl))))
      (safe_or_witness g u r.0 formed r.1 composites)

  -- so are the parts of one
  view_parts_or_refusal : (parts : ViewParts) → (IsViewed g parts × IsSafe g (view_of g parts)) ⊎ ((fault : List ℕ) × RefusesViewParts g parts fault)
  view_parts_or_refusal parts = ⊎_elim
      (λ viewed. ⊎_elim (λ safe. inl (viewed, safe)) (λ f. inr (f.0, inr (viewed, f.1))) (safe_or_refusal (view_of g parts) (viewed_composites g formed parts viewed)))
      (λ f. inr (view_text f.0, inl (f.0, f.1, refl)))
      (viewed_or_fault g parts)

  -- the bytes of a view tell a safe one, or are refused
  pub view_or_refusal : (bytes : List ℕ) → ((u : View) × TellsView g bytes u) ⊎ ((fault : List ℕ) × RefusesView g bytes fault)
  view_or_refusal bytes = ⊎_elim (λ r. by_form r.0 r.1 (parts_in r.0) refl) (λ none. inr (codes "NotJson", inl (none, refl))) (some_reading bytes)
    where
      by_form : (d : Data) → IsReading bytes d → (o : Result ViewParts Member) → parts_in d ≡ o → ((u : View) × TellsView g bytes u) ⊎ ((fault : List ℕ) × RefusesView g bytes fault)
      by_form d read (Err m) is = inr (shape_text m, inr (d, read, inl (m, is, refl)))
      by_form d read (Ok parts) is = ⊎_elim
          (λ h. inl (view_of g parts, told_view g bytes parts (d, read, is) (view_of g parts) (refl, h.0) h.1))
          (λ f. inr (f.0, view_refuses_by_parts g bytes parts (d, read, is) f.0 f.1))
          (view_parts_or_refusal parts)

module _ (h : HeldGrammar) (bytes : List ℕ) where
  -- the bytes of a label file tell entries, or are refused
  pub labels_or_refusal : ((entries : List Entry) × TellsEntries h bytes entries) ⊎ ((fault : List ℕ) × RefusesLabels h bytes fault)
  labels_or_refusal = let r = some_opening h.core (digests_of h) bytes in by r.0 r.1
    where
      by : (a : Answer) → OpensFor h bytes a → ((entries : List Entry) × TellsEntries h bytes entries) ⊎ ((fault : List ℕ) × RefusesLabels h bytes fault)
      by (Accepted entries) o = inl (entries, o)
      by NotLabels o = inr (codes "NotLabels", (NotLabels, o, refl))
      by OtherSpec o = inr (codes "OtherSpec", (OtherSpec, o, refl))
      by (Truncated offset) o = inr (codes "Truncated offset " ++ decimal offset, (Truncated offset, o, refl))
      by (BadName entry) o = inr (codes "BadName entry " ++ decimal entry, (BadName entry, o, refl))
      by (NameTwice entry) o = inr (codes "NameTwice entry " ++ decimal entry, (NameTwice entry, o, refl))
      by (BadLabel entry) o = inr (codes "BadLabel entry " ++ decimal entry, (BadLabel entry, o, refl))

  -- the entries have labels of the grammar
  pub told_labels : (entries : List Entry) → TellsEntries h bytes entries → HaveLabels h.core entries
  told_labels entries told = opened_labels h.core (digests_of h) bytes entries told

-- a refusal of the whole names no line
as_whole : {A : Type 0} (Tells : A → Type 0) (Refuses : List ℕ → List ℕ → Type 0) (bytes : List ℕ) → ((a : A) × Tells a) ⊎ ((fault : List ℕ) × Refuses bytes fault) → ((a : A) × Tells a) ⊎ ((line : Option ℕ) × (fault : List ℕ) × OfWhole Refuses bytes line fault)
as_whole Tells Refuses bytes (inl told) = inl told
as_whole Tells Refuses bytes (inr f) = inr (None, f.0, (refl, f.1))

-- the stage of SPEC has an outcome where what follows has
pub some_spec_stage : (spec : File) (Next : HeldGrammar → End → List ℕ → Type 0) → ((h : HeldGrammar) → TellsGrammar spec.bytes h → HasOutcome (Next h)) → HasOutcome (SpecStage spec Next)
some_spec_stage spec Next next = some_stage spec_kind [] spec TellsGrammar (OfWhole RefusesSpec) Next (as_whole (TellsGrammar spec.bytes) RefusesSpec spec.bytes (spec_or_refusal spec.bytes)) next

-- so has that of a view in a file of a kind
pub some_view_file_stage : (kind : Kind) (bytes : List ℕ) (h : HeldGrammar) → TellsGrammar bytes h → (view : File) (Next : View → End → List ℕ → Type 0) → ((u : View) → TellsView h.core view.bytes u → HasOutcome (Next u)) → HasOutcome (ViewFileStage kind h.core view Next)
some_view_file_stage kind bytes h told view Next next =
    some_stage kind [] view (TellsView h.core) (OfWhole (RefusesView h.core)) Next (as_whole (TellsView h.core view.bytes) (RefusesView h.core) view.bytes (view_or_refusal h.core (told_formed bytes h told) (told_proper bytes h told) view.bytes)) next

-- so has that of VIEW
pub some_view_stage : (bytes : List ℕ) (h : HeldGrammar) → TellsGrammar bytes h → (view : File) (Next : View → End → List ℕ → Type 0) → ((u : View) → TellsView h.core view.bytes u → HasOutcome (Next u)) → HasOutcome (ViewStage h.core view Next)
some_view_stage bytes h told view Next next = some_view_file_stage view_kind bytes h told view Next next

-- and that of LABELS
pub some_labels_stage : (h : HeldGrammar) (labels : File) (Next : List Entry → End → List ℕ → Type 0) → ((entries : List Entry) → TellsEntries h labels.bytes entries → HasOutcome (Next entries)) → HasOutcome (Stage labels_kind [] labels (TellsEntries h) (OfWhole (RefusesLabels h)) Next)
some_labels_stage h labels Next next =
    some_stage labels_kind [] labels (TellsEntries h) (OfWhole (RefusesLabels h)) Next (as_whole (TellsEntries h labels.bytes) (RefusesLabels h) labels.bytes (labels_or_refusal h labels.bytes)) next
