-- Whether the lifted view is safe, by a view that perceives the same.
use Rattle.std.proofs.Common.{◌≡◌, ◌⊎◌, None, refl, sym, subst, ⊎_elim}
use Rattle.std.specs.Prelude.{codes}
use Rattle.wf_model.specs.Grammar.{Grammar}
use Rattle.wf_model.specs.View.{View}
use Rattle.wf_model.specs.Safe.{IsSafe}
use Rattle.wf_check.specs.Proper.{Ranking, IsRankingOf}
use Rattle.wf_safe.specs.declared.fault.SafeFault.{SafeFault}
use Rattle.wf_safe.specs.declared.fault.SafeFault.TheVariants.{Unsafe}
use Rattle.wf_safe.specs.declared.witness.Witness.{Witness}
use Rattle.wf_safe.specs.SafeViews.{SafeViewValue, IsSafeView}
use Rattle.wf_safe.specs.Witness.{IsFault}
use Rattle.words_model.specs.Automata.{Automaton}
use Rattle.words_model.specs.Lifting.{lift, lift_view}
use Rattle.wf_lift.specs.Alike.{PerceiveAlike}
use Rattle.wf_lift.specs.WitnessText.{lifted_unsafe_text}
use Rattle.wf_lift.proofs.PerceivedAlike.{perceived_alike_law}
use Rattle.wf_lift.proofs.SameTables.{lifted_tables_law}
use Rattle.wf_message.specs.Endings.{End, Refused, NoMemory}
use Rattle.wf_stage.specs.Stages.{Declines, OfWhole}
use Rattle.cmd_words.specs.AutoTold.{RefusesLifted}
use Rattle.cmd_words.specs.LiftedViews.{IsLiftedView}
use Rattle.wf_lift.proofs.AlikeViews.{alike_back}
use Rattle.cmd_words.proofs.AlikeWitnesses.{first_witness_there}

module _ (g : Grammar) (u : View) (a : Automaton) (w : View) (alike : PerceiveAlike (lift_view a u) w) where
  -- the witness of the view that is made is one of the lifted view
  refuses_lifted : (r : Ranking) (x : Witness) → IsRankingOf (lift g a.states) r → IsFault (lift g a.states) w r (Unsafe x) → RefusesLifted g u a (lifted_unsafe_text g a.states x)
  refuses_lifted r x ranked fault = (
    (λ safe. fault.0 ((perceived_alike_law (lift g a.states) (lift_view a u) w alike).safe.0 safe)),
    (r, x, ((lifted_tables_law g a.states).ranking r).1 ranked, first_witness_there (lift g a.states) w (lift_view a u) (alike_back (lift_view a u) w alike) r x fault.1, refl),
  )

  module _ (l : Grammar) (there : l ≡ lift g a.states) where
    -- so a lifted view that is not safe declines, where its witness is written
    pub lifted_declines : (r : Ranking) (f : SafeFault) (x : Witness) (e : End) → IsRankingOf l r → IsFault l w r f → f ≡ Unsafe x → (e ≡ NoMemory) ⊎ (e ≡ Refused (codes "auto") None (lifted_unsafe_text g a.states x)) →
        Declines (codes "auto") (OfWhole (RefusesLifted g u) a) e
    lifted_declines r f x e ranked fault is told =
        let h = subst (λ z. IsFault z w r (Unsafe x)) there (subst (IsFault l w r) is fault) in
        let q = subst (λ z. IsRankingOf z r) there ranked in
        ⊎_elim (λ m. subst (Declines (codes "auto") (OfWhole (RefusesLifted g u) a)) (sym m) tt)
        (λ t. subst (Declines (codes "auto") (OfWhole (RefusesLifted g u) a)) (sym t) (refl, (refl, refuses_lifted r x q h))) told

    -- and one that is safe stands for the lifted view
    pub lifted_stands : (v : SafeViewValue) → v.accepted.grammar.core ≡ l → v.view.core ≡ w → IsSafeView v → IsLiftedView g u a v
    lifted_stands v same view safe = record {
      grammar = subst (λ z. v.accepted.grammar.core ≡ z) there same;
      alike = subst (PerceiveAlike (lift_view a u)) (sym view) alike;
      safe = (perceived_alike_law (lift g a.states) (lift_view a u) w alike).safe.1 (subst (λ z. IsSafe z w) there (subst (λ z. IsSafe z w) same (subst (IsSafe v.accepted.grammar.core) view safe.safe)));
    }
