-- Two labels have one verdict by an automaton.
use Rattle.std.proofs.Common.{◌≡◌, ◌↔◌, ℕ, refl, inl, inr}
use Rattle.wf_model.specs.Lists.{IsIn}
use Rattle.wf_model.specs.Grammar.{Grammar}
use Rattle.wf_model.specs.View.{View}
use Rattle.wf_model.proofs.Deciding.{Either, some_in}
use Rattle.label_model.specs.Labels.{Label, IsLabel}
use Rattle.verdict_model.specs.declared.verdict.Verdict.{Verdict}
use Rattle.verdict_model.specs.declared.verdict.Verdict.TheVariants.{Hidden1, Hidden2, Clash, Yes, No}
use Rattle.verdict_model.specs.Verdicts.{IsHidden, AreShown, AreClashing, IsVerdict}
use Rattle.verdict_model.proofs.Clashing.{either_law}
use Rattle.verdict_model.proofs.OneVerdict.{one_verdict}
use Rattle.verdict_model.proofs.SomeVerdict.{some_verdict}
use Rattle.words_model.specs.Automata.{Automaton}
use Rattle.words_model.specs.Lifting.{lift, lift_view, lift_label}
use Rattle.words_model.specs.Verdicts.{IsWordVerdict, IsLiftedYes}
use Rattle.words_model.specs.Laws.{LiftSafely, WordVerdictLaw}
use Rattle.words_model.proofs.LiftedLabels.{label_in}
use Rattle.words_model.proofs.LiftedTelling.{hidden_same, clash_same}
use Rattle.words_model.proofs.WordAnswers.{formed_too, proper_too, composites_too, word_answer_law}

one_word_verdict : (g : Grammar) (u : View) (a : Automaton) (x y : Label) (v w : Verdict) → IsWordVerdict g u a x y v → IsWordVerdict g u a x y w → v ≡ w
one_word_verdict g u a x y Hidden1 Hidden1 p q = refl
one_word_verdict g u a x y Hidden1 Hidden2 p q = absurd (q.0 p)
one_word_verdict g u a x y Hidden1 Clash p q = absurd (q.0.0 p)
one_word_verdict g u a x y Hidden1 Yes p q = absurd (q.0.0 p)
one_word_verdict g u a x y Hidden1 No p q = absurd (q.0.0 p)
one_word_verdict g u a x y Hidden2 Hidden1 p q = absurd (p.0 q)
one_word_verdict g u a x y Hidden2 Hidden2 p q = refl
one_word_verdict g u a x y Hidden2 Clash p q = absurd (q.0.1 p.1)
one_word_verdict g u a x y Hidden2 Yes p q = absurd (q.0.1 p.1)
one_word_verdict g u a x y Hidden2 No p q = absurd (q.0.1 p.1)
one_word_verdict g u a x y Clash Hidden1 p q = absurd (p.0.0 q)
one_word_verdict g u a x y Clash Hidden2 p q = absurd (p.0.1 q.1)
one_word_verdict g u a x y Clash Clash p q = refl
one_word_verdict g u a x y Clash Yes p q = absurd (q.1 p.1)
one_word_verdict g u a x y Clash No p q = absurd (q.1 p.1)
one_word_verdict g u a x y Yes Hidden1 p q = absurd (p.0.0 q)
one_word_verdict g u a x y Yes Hidden2 p q = absurd (p.0.1 q.1)
one_word_verdict g u a x y Yes Clash p q = absurd (p.1 q.1)
one_word_verdict g u a x y Yes Yes p q = refl
one_word_verdict g u a x y Yes No p q = absurd (q.2 p.2)
one_word_verdict g u a x y No Hidden1 p q = absurd (p.0.0 q)
one_word_verdict g u a x y No Hidden2 p q = absurd (p.0.1 q.1)
one_word_verdict g u a x y No Clash p q = absurd (p.1 q.1)
one_word_verdict g u a x y No Yes p q = absurd (p.2 q.2)
one_word_verdict g u a x y No No p q = refl

module _ (g : Grammar) (u : View) (a : Automaton) (is : LiftSafely g u a) (x y : Label) (hx : IsLabel g x) (hy : IsLabel g y) where
  -- a verdict in the lifted grammar, with the second label in the state t
  abbrev IsVerdictIn : ℕ → Verdict → Type 0
  IsVerdictIn t v = IsVerdict (lift g a.states) (lift_view a u) (lift_label a.states a.start x) (lift_label a.states t y) v

  -- it is yes or not
  yes_or_not : (t : ℕ) → IsIn t a.accept → Either (IsVerdictIn t Yes)
  yes_or_not t there = go found.0 found.1
    where
      found : (v : Verdict) × IsVerdictIn t v
      found = some_verdict (lift g a.states) (lift_view a u) (formed_too g u a is) (proper_too g u a is) (composites_too g u a is) is.safe (lift_label a.states a.start x) (lift_label a.states t y)
          (label_in g a.states a.start x is.fits.automaton.start hx) (label_in g a.states t y (is.fits.automaton.accept t there) hy)

      other : (v : Verdict) → IsVerdictIn t v → (v ≡ Yes → ⊥) → Either (IsVerdictIn t Yes)
      other v h n = inr (λ q. n (one_verdict (lift g a.states) (lift_view a u) (lift_label a.states a.start x) (lift_label a.states t y) v Yes h q))

      go : (v : Verdict) → IsVerdictIn t v → Either (IsVerdictIn t Yes)
      go Hidden1 h = other Hidden1 h (λ e. absurd (cc))
      go Hidden2 h = other Hidden2 h (λ e. absurd (cc))
      go Clash h = other Clash h (λ e. absurd (cc))
      go Yes h = inl h
      go No h = other No h (λ e. absurd (cc))

  lifted_or_not : Either (IsLiftedYes g u a x y)
  lifted_or_not = some_in (λ t. IsVerdictIn t Yes) a.accept yes_or_not

  -- where the lifted verdict is yes, neither label is hidden, and they do not clash
  shown_from : IsLiftedYes g u a x y → AreShown g u x y
  shown_from h = (
    (λ q. h.2.0.0 ((hidden_same g u a is.formed (formed_too g u a is) a.start is.fits.automaton.start x hx).0 q)),
    (λ q. h.2.0.1 ((hidden_same g u a is.formed (formed_too g u a is) h.0 (is.fits.automaton.accept h.0 h.1) y hy).0 q)),
  )

  apart_from : IsLiftedYes g u a x y → AreClashing g x y → ⊥
  apart_from h q = h.2.1 ((clash_same g u a is.formed (formed_too g u a is) x y hx hy a.start h.0 is.fits.automaton.start (is.fits.automaton.accept h.0 h.1)).0 q)

  pub yes_lifted : IsWordVerdict g u a x y Yes ↔ IsLiftedYes g u a x y
  yes_lifted = (
    (λ q. (word_answer_law g u a is x y hx hy q.0 q.1).lifted.0 q.2),
    (λ h. (shown_from h, apart_from h, (word_answer_law g u a is x y hx hy (shown_from h) (apart_from h)).lifted.1 h)),
  )

  pub some_word_verdict : (v : Verdict) × IsWordVerdict g u a x y v
  some_word_verdict = by (either_law g u is.formed x y hx hy).hidden (either_law g u is.formed y x hy hx).hidden (either_law g u is.formed x y hx hy).clash lifted_or_not
    where
      by : Either (IsHidden g u x) → Either (IsHidden g u y) → Either (AreClashing g x y) → Either (IsLiftedYes g u a x y) → (v : Verdict) × IsWordVerdict g u a x y v
      by (inl hidden) second clash lifted = (Hidden1, hidden)
      by (inr shown) (inl hidden) clash lifted = (Hidden2, (shown, hidden))
      by (inr shown) (inr shown2) (inl clash) lifted = (Clash, ((shown, shown2), clash))
      by (inr shown) (inr shown2) (inr apart) (inl told) = (Yes, yes_lifted.1 told)
      by (inr shown) (inr shown2) (inr apart) (inr untold) = (No, ((shown, shown2), apart, λ always. untold (yes_lifted.0 ((shown, shown2), apart, always))))

pub word_verdict_law : WordVerdictLaw
word_verdict_law g u a is x y hx hy = record {
  yes = yes_lifted g u a is x y hx hy;
  some = some_word_verdict g u a is x y hx hy;
  one = one_word_verdict g u a x y;
}
