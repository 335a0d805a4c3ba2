-- How `consult` ends at two labels.
use Rattle.std.proofs.Common.{◌≡◌, ℕ, Bool, List, [], ◌++◌, Option, None, Result, Err, IfErr, refl, sym, subst, inl, inr, ⊎_elim, arith}
use Rattle.std.specs.Prelude.{codes}
use Rattle.wf_model.specs.Grammar.{Grammar}
use Rattle.wf_model.specs.DefaultView.{default_view}
use Rattle.label_model.specs.Labels.{Label, IsLabel, label_bits}
use Rattle.label_words.specs.Verdicts.{verdict_text}
use Rattle.verdict_model.specs.declared.verdict.Verdict.TheVariants.{Hidden1, Hidden2}
use Rattle.verdict_model.specs.Verdicts.{IsVerdict}
use Rattle.verdict_model.specs.declared.verdict.Verdict.{Verdict}
use Rattle.package_model.specs.Translating.{Loops, Inside, Outside, TranslatesTo}
use Rattle.package_model.specs.Consulting.{IsConsulted}
use Rattle.wf_label.specs.Values.{AreLabelBits}
use Rattle.wf_loops.specs.Looped.{LoopedValue, loop_in}
use Rattle.wf_translate.specs.declared.translating.Packed.{Packed}
use Rattle.wf_translate.specs.declared.translating.Packed.TheVariants.{Inside as InsideHeld, Outside as OutsideHeld}
use Rattle.wf_translate.specs.Translated.{IsTranslatedAs, IsPackedInside}
use Rattle.wf_message.specs.declared.ending.Stop.{Stop}
use Rattle.wf_message.specs.Endings.{End, Done, Refused, NoMemory}
use Rattle.wf_stage.specs.Ends.{IsWritten}
use Rattle.wf_stage.specs.Promises.{Writes}
use Rattle.wf_stage.proofs.Ends.{begins_nothing, nothing_put}
use Rattle.wf_stage.proofs.Writing.{writes_wanting, writes_text, writes_alike}
use Rattle.cmd_share.specs.PackageTold.{package_value}
use Rattle.cmd_share.specs.Consulted.{IsLabelOver, ConsultsLabels, first_malformed, second_malformed, consulted}
use Rattle.cmd_share.specs.Stops.{IsNoLabelOver, AreNotConsulted}
use Rattle.cmd_share.proofs.GoodPackages.{IsGood}
use Rattle.cmd_share.proofs.OneConsulting.{one_consulting}

-- what bytes come to is a label over the package
pub packed_over : (v : LoopedValue) (bytes : List ℕ) (p : Packed) → IsTranslatedAs v.accepted.grammar.core (loop_in v.steps) bytes p → IsLabelOver (package_value v) bytes
packed_over v bytes (InsideHeld bits) h = (Inside h.label, h.translated, λ e. absurd (cc))
packed_over v bytes OutsideHeld h = (Outside, h, λ e. absurd (cc))

-- the bits of what is inside are those of a label of the package's grammar
pub label_bits_of : (g : Grammar) (loop : Loops) (x : List ℕ) (bits : List Bool) → IsPackedInside g loop x bits → AreLabelBits g bits
label_bits_of g loop x bits h = (h.label, h.of_it, h.is)

-- what two labels come to over a package tells their verdict by it
module _ (g : Grammar) (loop : Loops) (x y : List ℕ) where
  pub first_outside : (q : Packed) → TranslatesTo g loop x Outside → IsTranslatedAs g loop y q → IsConsulted g loop x y Hidden1
  first_outside (InsideHeld bits) h k = record { first = Outside; second = Inside k.label; first_is = h; second_is = k.translated; told = refl }
  first_outside OutsideHeld h k = record { first = Outside; second = Outside; first_is = h; second_is = k; told = refl }

  pub second_outside : (bits : List Bool) → IsPackedInside g loop x bits → TranslatesTo g loop y Outside → IsConsulted g loop x y Hidden2
  second_outside bits h k = record { first = Inside h.label; second = Outside; first_is = h.translated; second_is = k; told = refl }

  pub both_inside : (a b : List Bool) → IsPackedInside g loop x a → IsPackedInside g loop y b → (v : Verdict) →
      ((k l : Label) → IsLabel g k → IsLabel g l → a ≡ label_bits k → b ≡ label_bits l → IsVerdict g (default_view g) k l v) → IsConsulted g loop x y v
  both_inside a b h k v told = record { first = Inside h.label; second = Inside k.label; first_is = h.translated; second_is = k.translated; told = told h.label k.label h.of_it k.of_it h.is k.is }

-- what holds of a stop holds of a result that hands it on
pub stops_passed : {A : Type 0} (P : Stop → Type 0) (r : Result A Stop) (d : Stop) → (y : Stop) × (r ≡ Err y) × (y ≡ d) → P d → IfErr r P
stops_passed P r d told h = subst (λ x. IfErr x P) (sym told.1) (subst P (sym told.2) h)

module _ (v : LoopedValue) (first second : List ℕ) where
  -- the first is no label over the package
  pub first_stops : (e : End) → IsNoLabelOver v (codes "label 1") first e → AreNotConsulted v first second e
  first_stops e = ⊎_elim (λ wants. inl wants) (λ h. inr (first_malformed h.0 h.1 refl))

  -- the first is one, and the second is none
  pub second_stops : (e : End) → IsLabelOver (package_value v) first → IsNoLabelOver v (codes "label 2") second e → AreNotConsulted v first second e
  second_stops e l = ⊎_elim (λ wants. inl wants) (λ h. inr (second_malformed l h.0 h.1 refl))

module _ {T : Type 0} {out : T → Option (List ℕ)} {faults : T → ℕ} {last : T → Bool} (v : LoopedValue) (first second : List ℕ) where
  -- want of memory, with nothing put
  consulting_wants : (o : T) (e : End) → e ≡ NoMemory → Writes out faults last [] (ConsultsLabels (package_value v) first second) o o e
  consulting_wants o e is = subst (Writes out faults last [] (ConsultsLabels (package_value v) first second) o o) (sym is) (writes_wanting [] (ConsultsLabels (package_value v) first second) (begins_nothing (ConsultsLabels (package_value v) first second)) o)

  -- a label is refused, with nothing put
  refused_at : (o : T) (place : List ℕ) (e : End) → e ≡ Refused place None (codes "Malformed") → (ConsultsLabels (package_value v) first second) (Refused place None (codes "Malformed")) [] → Writes out faults last [] (ConsultsLabels (package_value v) first second) o o e
  refused_at o place e is h = subst (Writes out faults last [] (ConsultsLabels (package_value v) first second) o o) (sym is) (record {
    ends = nothing_put [] (ConsultsLabels (package_value v) first second) (begins_nothing (ConsultsLabels (package_value v) first second)) (Refused place None (codes "Malformed")) (out o) (out o) (λ w. (cc)) refl (λ w. h);
    cause = refl;
    later = omega arith;
  })

  -- two labels are not consulted, with nothing put
  pub consulting_stops : (o : T) (e : End) → (e ≡ Done → ⊥) → AreNotConsulted v first second e → Writes out faults last [] (ConsultsLabels (package_value v) first second) o o e
  consulting_stops o e stop (inl wants) = consulting_wants o e wants
  consulting_stops o e stop (inr (first_malformed h is text)) = refused_at o (codes "label 1") e is (first_malformed h refl refl)
  consulting_stops o e stop (inr (second_malformed l h is text)) = refused_at o (codes "label 2") e is (second_malformed l h refl refl)
  consulting_stops o e stop (inr (consulted verdict h is text)) = absurd (stop is)

  -- the line of the verdict was put
  pub consulted_written : IsGood (package_value v) → (verdict : Verdict) → IsConsulted v.accepted.grammar.core (loop_in v.steps) first second verdict → (held : List ℕ) → held ≡ verdict_text verdict ++ codes "\n" → (o p : T) (e : End) → Writes out faults last [] (IsWritten held) o p e → Writes out faults last [] (ConsultsLabels (package_value v) first second) o p e
  consulted_written good verdict h held is o p e writes =
      let line = verdict_text verdict ++ codes "\n" in
      writes_alike [] (IsWritten line) (ConsultsLabels (package_value v) first second)
      (λ d t w. consulted verdict h w.0 w.1)
      (λ d t w. one_consulting (package_value v) good first second d Done t line w (consulted verdict h refl refl)) o p e (writes_text held line is o p e writes)
