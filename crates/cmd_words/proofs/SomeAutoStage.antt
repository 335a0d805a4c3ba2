-- The stage of AUTO has an outcome where what follows has.
use Rattle.std.proofs.Common.{◌⊎◌, ℕ, List, [], None, refl, inl, inr, ⊎_elim}
use Rattle.wf_model.specs.Grammar.{Grammar}
use Rattle.wf_model.specs.WellFormed.{IsWellFormed}
use Rattle.wf_model.specs.Proper.{IsProper}
use Rattle.wf_model.specs.View.{View}
use Rattle.wf_model.specs.Finishing.{ExpandsComposites}
use Rattle.wf_check.proofs.ProperOrFault.{some_ranking}
use Rattle.wf_safe.proofs.SafeOrWitness.{safe_or_witness, witness_unsafe}
use Rattle.words_model.specs.Automata.{Automaton}
use Rattle.words_model.specs.Lifting.{lift, lift_view}
use Rattle.words_model.specs.Laws.{Fits}
use Rattle.words_model.proofs.LiftedGrammars.{lifted_formed}
use Rattle.wf_automaton.specs.FaultText.{auto_text}
use Rattle.wf_automaton.proofs.SomeAutomaton.{some_automaton}
use Rattle.wf_lift.specs.WitnessText.{lifted_unsafe_text}
use Rattle.wf_lift.proofs.SameTables.{lifted_tables_law}
use Rattle.wf_io.specs.Told.{File}
use Rattle.wf_message.specs.Endings.{End}
use Rattle.wf_stage.specs.Stages.{OfWhole}
use Rattle.wf_stage.specs.Outcomes.{HasOutcome}
use Rattle.wf_stage.proofs.SomeStages.{some_stage}
use Rattle.cmd_words.specs.AutoTold.{auto_kind, IsSafeLifted, TellsAuto, RefusesLifted, RefusesAuto, AutoStage}
use Rattle.cmd_words.proofs.ToldAutomata.{told_fits, lifted_composites}

module _ (g : Grammar) (u : View) (formed : IsWellFormed g) (proper : IsProper g) (composites : ExpandsComposites g u) where
  -- the lifted view is safe, or is refused
  safe_or_refusal : (a : Automaton) → Fits g a → IsSafeLifted g u a ⊎ ((fault : List ℕ) × RefusesLifted g u a fault)
  safe_or_refusal a fits =
      let h = lift g a.states in
      let v = lift_view a u in
      let r = some_ranking g formed proper in
      let ranking = ((lifted_tables_law g a.states).ranking r.0).0 r.1 in
      let lifted = lifted_formed g a formed fits in
      let among = lifted_composites g u a composites in
      ⊎_elim
      (λ safe. inl safe)
      (λ w. inr (lifted_unsafe_text g a.states w.0, (witness_unsafe h v r.0 lifted ranking among w.0 w.1, (r.0, w.0, r.1, w.1, refl))))
      (safe_or_witness h v r.0 lifted ranking among)

  -- so the bytes of AUTO tell an automaton whose lifted view is safe, or are refused
  auto_or_refusal : (bytes : List ℕ) → ((a : Automaton) × TellsAuto g u bytes a) ⊎ ((fault : List ℕ) × RefusesAuto g u bytes fault)
  auto_or_refusal bytes = ⊎_elim
      (λ t. ⊎_elim (λ safe. inl (t.0, record { automaton = t.1; safe = safe })) (λ f. inr (f.0, inr (t.0, t.1, f.1))) (safe_or_refusal t.0 (told_fits g bytes t.0 t.1)))
      (λ f. inr (auto_text f.0, inl (f.0, f.1, refl)))
      (some_automaton g bytes)

  -- the stage of AUTO has an outcome where what follows has
  pub some_auto_stage : (auto : File) (Next : Automaton → End → List ℕ → Type 0) → ((a : Automaton) → TellsAuto g u auto.bytes a → HasOutcome (Next a)) → HasOutcome (AutoStage g u auto Next)
  some_auto_stage auto Next next =
      some_stage auto_kind [] auto (TellsAuto g u) (OfWhole (RefusesAuto g u)) Next
      (⊎_elim (λ t. inl t) (λ f. inr (None, f.0, (refl, f.1))) (auto_or_refusal auto.bytes)) next
