-- The stage of AUTO has one outcome where what follows has, and that of a good AUTO goes on.
use Rattle.std.proofs.Common.{◌≡◌, ℕ, List, [], sym, ap, ◌∙◌, subst, inl, inr}
use Rattle.wf_model.specs.Grammar.{Grammar}
use Rattle.wf_model.specs.WellFormed.{IsWellFormed}
use Rattle.wf_model.specs.View.{View}
use Rattle.wf_safe.proofs.OneFirstWitness.{one_first_witness}
use Rattle.words_model.specs.Automata.{Automaton}
use Rattle.words_model.specs.Lifting.{lift, lift_view}
use Rattle.words_model.specs.Laws.{Fits}
use Rattle.words_model.proofs.LiftedGrammars.{lifted_formed}
use Rattle.wf_automaton.specs.FaultText.{auto_text}
use Rattle.wf_automaton.proofs.OneAutomaton.{one_automaton, one_auto_fault, no_auto_fault}
use Rattle.wf_lift.specs.WitnessText.{lifted_unsafe_text}
use Rattle.wf_lift.proofs.SameTables.{lifted_tables_law}
use Rattle.wf_io.specs.Told.{File}
use Rattle.wf_message.specs.Endings.{End}
use Rattle.wf_stage.specs.Stages.{IsTold, OfWhole}
use Rattle.wf_stage.specs.Outcomes.{HasOneOutcome}
use Rattle.wf_stage.proofs.TwoStages.{same_outcome, stage_goes_on}
use Rattle.cmd_words.specs.AutoTold.{auto_kind, TellsAuto, RefusesLifted, RefusesAuto, AutoStage}
use Rattle.cmd_words.proofs.ToldAutomata.{told_fits}
use Rattle.cmd_words.proofs.AutoValues.{one_auto, no_refusal_of_auto}

module _ (g : Grammar) (u : View) where
  -- an automaton whose lifted view is not safe is refused by one text
  one_refusal_of_lifted : (a : Automaton) → IsWellFormed g → Fits g a → (x y : List ℕ) → RefusesLifted g u a x → RefusesLifted g u a y → x ≡ y
  one_refusal_of_lifted a formed fits x y (_, (r, w, p, f, is)) (_, (s, v, q, h, also)) =
      let ranks = lifted_tables_law g a.states in
      is ∙ (ap (lifted_unsafe_text g a.states)
      (one_first_witness (lift g a.states) (lift_view a u) (lifted_formed g a formed fits) r s w v ((ranks.ranking r).0 p) ((ranks.ranking s).0 q) f h) ∙ sym also)

  module _ (bytes : List ℕ) where
    -- so are the bytes of AUTO
    one_refusal_of_auto : IsWellFormed g → (x y : List ℕ) → RefusesAuto g u bytes x → RefusesAuto g u bytes y → x ≡ y
    one_refusal_of_auto formed x y (inl p) (inl q) = p.2 ∙ (ap auto_text (one_auto_fault bytes g p.0 q.0 p.1 q.1) ∙ sym q.2)
    one_refusal_of_auto formed x y (inl p) (inr q) = absurd (no_auto_fault bytes g q.0 p.0 q.1 p.1)
    one_refusal_of_auto formed x y (inr p) (inl q) = absurd (no_auto_fault bytes g p.0 q.0 p.1 q.1)
    one_refusal_of_auto formed x y (inr p) (inr q) =
        one_refusal_of_lifted q.0 formed (told_fits g bytes q.0 q.1) x y (subst (λ a. RefusesLifted g u a x) (one_automaton bytes g p.0 q.0 p.1 q.1) p.2) q.2

  -- the stage of AUTO has one outcome where what follows has
  pub one_auto_stage : IsWellFormed g → (auto : File) (Next : Automaton → End → List ℕ → Type 0) → ((a : Automaton) → TellsAuto g u auto.bytes a → HasOneOutcome (Next a)) → HasOneOutcome (AutoStage g u auto Next)
  one_auto_stage formed auto Next next =
      same_outcome auto_kind [] auto (TellsAuto g u) (OfWhole (RefusesAuto g u)) Next Next (one_auto g u auto.bytes)
      (λ l m x y p q. (p.0 ∙ sym q.0, one_refusal_of_auto auto.bytes formed x y p.1 q.1)) (λ a l x t r. no_refusal_of_auto g u auto.bytes a x t r.1) next

  -- that of a good AUTO goes on with its automaton
  pub auto_goes_on : (auto : File) (a : Automaton) → IsTold auto_kind auto (TellsAuto g u) a → (Next : Automaton → End → List ℕ → Type 0) (e : End) (t : List ℕ) → AutoStage g u auto Next e t → Next a e t
  auto_goes_on auto a has Next =
      stage_goes_on auto_kind [] auto (TellsAuto g u) (OfWhole (RefusesAuto g u)) Next a has.short has.whole (λ b told. one_auto g u auto.bytes a b has.tells told) (λ l x r. no_refusal_of_auto g u auto.bytes a x has.tells r.1)
