-- How `decide` ends at two labels.
use Rattle.std.proofs.Common.{◌≡◌, ℕ, Bool, List, [], ◌++◌, Option, None, refl, sym, subst, arith}
use Rattle.std.specs.Prelude.{codes}
use Rattle.bit_pack.specs.Bits.{Holds}
use Rattle.wf_model.specs.Grammar.{Grammar}
use Rattle.wf_model.specs.View.{View as ViewOf}
use Rattle.label_model.specs.Labels.{Label, label_bits}
use Rattle.label_model.specs.Reading.{IsLabelBytes}
use Rattle.wf_label.specs.Values.{AreLabelBits}
use Rattle.verdict_model.specs.declared.verdict.Verdict.{Verdict}
use Rattle.verdict_model.specs.Verdicts.{IsVerdict}
use Rattle.wf_message.specs.Endings.{End, Done, Refused, NoMemory}
use Rattle.wf_stage.specs.Ends.{IsWritten}
use Rattle.wf_stage.specs.Promises.{Writes}
use Rattle.wf_stage.proofs.Ends.{begins_nothing, nothing_put}
use Rattle.wf_stage.proofs.Writing.{writes_wanting, writes_text, writes_alike}
use Rattle.label_words.specs.Verdicts.{verdict_text}
use Rattle.cmd_decide.specs.Decided.{AreOfLabel, DecidesLabels, first_malformed, second_malformed, decided}
use Rattle.cmd_decide.proofs.OneDecision.{one_decision}

-- bits that the bytes hold are of a label whose bytes they are
pub label_told : (g : Grammar) (seen bytes : List ℕ) (bits : List Bool) → seen ≡ bytes → AreLabelBits g bits × Holds seen bits → (l : Label) × AreOfLabel g bytes l × (bits ≡ label_bits l)
label_told g seen bytes bits s h = (h.0.0, (h.0.1, subst (λ x. Holds x (label_bits h.0.0)) s (subst (λ x. Holds seen x) h.0.2 h.1)), h.0.2)

module _ {T : Type 0} {out : T → Option (List ℕ)} {faults : T → ℕ} {last : T → Bool} (g : Grammar) (u : ViewOf) (first second : List ℕ) where
  -- want of memory, with nothing put
  pub decision_wants : (o : T) (e : End) → e ≡ NoMemory → Writes out faults last [] (DecidesLabels g u first second) o o e
  decision_wants o e is = subst (Writes out faults last [] (DecidesLabels g u first second) o o) (sym is) (writes_wanting [] (DecidesLabels g u first second) (begins_nothing (DecidesLabels g u first second)) o)

  -- a label is refused, with nothing put
  refused_at : (o : T) (place : List ℕ) (e : End) → e ≡ Refused place None (codes "Malformed") → (DecidesLabels g u first second) (Refused place None (codes "Malformed")) [] → Writes out faults last [] (DecidesLabels g u first second) o o e
  refused_at o place e is h = subst (Writes out faults last [] (DecidesLabels g u first second) o o) (sym is) (record {
    ends = nothing_put [] (DecidesLabels g u first second) (begins_nothing (DecidesLabels g u first second)) (Refused place None (codes "Malformed")) (out o) (out o) (λ w. (cc)) refl (λ w. h);
    cause = refl;
    later = omega arith;
  })

  -- the bytes of the first are no label
  pub first_refused : (o : T) (seen : List ℕ) → seen ≡ first → (IsLabelBytes g seen → ⊥) → (e : End) → e ≡ Refused (codes "label 1") None (codes "Malformed") → Writes out faults last [] (DecidesLabels g u first second) o o e
  first_refused o seen same none e is =
      refused_at o (codes "label 1") e is (first_malformed (λ l. none (subst (IsLabelBytes g) (sym same) l)) refl refl)

  -- those of the first are one, and those of the second are none
  pub second_refused : (o : T) (l : Label) → AreOfLabel g first l → (seen : List ℕ) → seen ≡ second → (IsLabelBytes g seen → ⊥) → (e : End) → e ≡ Refused (codes "label 2") None (codes "Malformed") → Writes out faults last [] (DecidesLabels g u first second) o o e
  second_refused o l of_it seen same none e is =
      refused_at o (codes "label 2") e is (second_malformed (l, of_it.0, of_it.1) (λ k. none (subst (IsLabelBytes g) (sym same) k)) refl refl)

  -- the line of the verdict on two labels was put
  pub verdict_written : (x y : Label) → AreOfLabel g first x → AreOfLabel g second y → (v : Verdict) → IsVerdict g u x y v → (held : List ℕ) → held ≡ verdict_text v ++ codes "\n" → (o p : T) (e : End) → Writes out faults last [] (IsWritten held) o p e → Writes out faults last [] (DecidesLabels g u first second) o p e
  verdict_written x y of_first of_second v verdict held is o p e writes =
      let line = verdict_text v ++ codes "\n" in
      writes_alike [] (IsWritten line) (DecidesLabels g u first second)
      (λ d t h. decided x y of_first of_second v verdict h.0 h.1)
      (λ d t h. one_decision g u first second d Done t line h (decided x y of_first of_second v verdict refl refl)) o p e (writes_text held line is o p e writes)
