-- The bit that row products end in is the answer of two ports.
use Rattle.std.proofs.Common.{◌≡◌, ℕ, ◌<◌, ◌↔◌, IsTrue, Bool, true, false, cond, List, [], ◌∷◌, ◌++◌, drop, get_or, sym, ◌∙◌, subst, append_assoc, true≢false}
use Rattle.bool_mat.specs.Matrix.{has}
use Rattle.wf_model.specs.Grammar.{Grammar, Assignment, inputs_of, outputs_of}
use Rattle.wf_model.specs.View.{View}
use Rattle.wf_model.specs.Reach.{Step, Reaches}
use Rattle.wf_model.specs.Routes.{Agree}
use Rattle.verdict_model.specs.declared.verdict.Verdict.TheVariants.{Yes, No}
use Rattle.decode_model.specs.Rows.{Through}
use Rattle.decode_model.specs.Legs.{way_up, way_down, crossing}
use Rattle.decode_model.proofs.Decided.{decided_law}
use Rattle.wf_vlabel.specs.Seen.{ViewLabelSeen, IsLabelOfView, IsViewLabel, matrices_of, full_in}
use Rattle.wf_decode.specs.declared.leg.Leg.{Leg as LegHeld}
use Rattle.wf_decode.specs.HeldLegs.{held_steps, legs_of}
use Rattle.wf_decode.specs.Parting.{AreLeftFrom, AreAcross}
use Rattle.wf_decode.specs.Products.{IsBit}
use Rattle.wf_decode.specs.Answers.{AreEnds, IsAnswerOfAddresses}
use Rattle.wf_decode.proofs.Ways.{agree_apart, agree_on, agree_off, way_left, ways_apart}

-- a bit that tells whether the port is reached is the answer
answer_by : (g : Grammar) (d : Assignment) (a b : List Step) (i o last : ℕ) (bit : Bool) → Agree a b → bit ≡ has last o → IsTrue (has last o) ↔ Reaches g d g.start a b i o → IsAnswerOfAddresses g d a b i o (cond bit Yes No)
answer_by g d a b i o last true agree e r = (agree, r.0 (sym e))
answer_by g d a b i o last false agree e r = (agree, λ h. true≢false (sym (r.1 h) ∙ sym e))

module _ (l : ViewLabelSeen) (is : IsViewLabel l) (u : View) (of : IsLabelOfView l u) where
  pub across_answer : (a b : List Step) (x x' : List LegHeld) (m i : ℕ) (y y' : List LegHeld) (n o : ℕ) (s t : Step) (p q start now : ℕ) (bit : Bool) → AreEnds l u a b x m i y n o → AreAcross l x y s t p q x' y' →
      IsBit (crossing l.grammar (matrices_of l) s (legs_of l (drop p x')) t (legs_of l (drop q y'))) (get_or ((matrices_of l).full m).rows i 0) start now o bit →
      IsAnswerOfAddresses l.grammar (full_in (matrices_of l)) a b i o (cond bit Yes No)
  across_answer a b x x' m i y y' n o s t p q start now bit ends r h =
      let g = l.grammar in
      let v = matrices_of l in
      let d = full_in v in
      let w = ways_apart l is u of a b x x' m i y y' n o s t p q ends r in
      let xs = held_steps l (drop p x') in
      let ys = held_steps l (drop q y') in
      let through = subst (λ z. Through (crossing g v s (legs_of l (drop p x')) t (legs_of l (drop q y'))) (get_or (v.full z).rows i 0) h.last) (sym w.first.leads) h.after.through in
      let told = (decided_law g u d v of.matrices g.start r.common).across s t (legs_of l (drop p x')) (legs_of l (drop q y')) w.first_open w.second_open r.body r.apart w.first.gone w.second.gone i o h.last
      (subst (λ z. i < inputs_of g z) (sym w.first.leads) ends.input) (subst (λ z. o < outputs_of g z) (sym w.second.leads) ends.output) through in
      let ea : r.common ++ s ∷ xs ≡ a = sym (append_assoc r.common (s ∷ []) xs) ∙ (sym r.first.steps ∙ ends.first.steps) in
      let eb : r.common ++ t ∷ ys ≡ b = sym (append_assoc r.common (t ∷ []) ys) ∙ (sym r.second.steps ∙ ends.second.steps) in
      let e = subst (λ z. IsAnswerOfAddresses g d z (r.common ++ t ∷ ys) i o (cond bit Yes No)) ea
      (answer_by g d (r.common ++ s ∷ xs) (r.common ++ t ∷ ys) i o h.last bit (agree_apart r.common s t xs ys r.body r.apart) h.bit told) in
      subst (λ z. IsAnswerOfAddresses g d a z i o (cond bit Yes No)) eb e

  pub down_answer : (a b : List Step) (x : List LegHeld) (m i : ℕ) (y y' : List LegHeld) (n o j first start now : ℕ) (bit : Bool) → AreEnds l u a b x m i y n o → AreLeftFrom l y (held_steps l x) j y' →
      ((k : ℕ) → IsTrue (has first k) ↔ (k ≡ i)) → IsBit (way_down (matrices_of l) (legs_of l (drop j y')) ++ (matrices_of l).full n ∷ []) first start now o bit →
      IsAnswerOfAddresses l.grammar (full_in (matrices_of l)) a b i o (cond bit Yes No)
  down_answer a b x m i y y' n o j first start now bit ends left one h =
      let g = l.grammar in
      let v = matrices_of l in
      let d = full_in v in
      let left' = subst (λ z. AreLeftFrom l y z j y') ends.first.steps left in
      let w = (way_left l is u of b a n j y y' ends.second left').0 in
      let ys = held_steps l (drop j y') in
      let through = subst (λ z. Through (way_down v (legs_of l (drop j y')) ++ v.full z ∷ []) first h.last) (sym w.leads) h.after.through in
      let told = (decided_law g u d v of.matrices g.start a).down w.seen (legs_of l (drop j y')) w.gone i o first h.last
      (subst (λ z. i < inputs_of g z) ends.first.module_is ends.input) (subst (λ z. o < outputs_of g z) (sym w.leads) ends.output) one through in
      let eb : a ++ ys ≡ b = sym left'.steps ∙ ends.second.steps in
      subst (λ z. IsAnswerOfAddresses g d a z i o (cond bit Yes No)) eb (answer_by g d a (a ++ ys) i o h.last bit (agree_on a ys) h.bit told)

  pub up_answer : (a b : List Step) (x x' : List LegHeld) (m i : ℕ) (y : List LegHeld) (n o j start now : ℕ) (bit : Bool) → AreEnds l u a b x m i y n o → AreLeftFrom l x (held_steps l y) j x' →
      IsBit (way_up (matrices_of l) (legs_of l (drop j x'))) (get_or ((matrices_of l).full m).rows i 0) start now o bit →
      IsAnswerOfAddresses l.grammar (full_in (matrices_of l)) a b i o (cond bit Yes No)
  up_answer a b x x' m i y n o j start now bit ends left h =
      let g = l.grammar in
      let v = matrices_of l in
      let d = full_in v in
      let left' = subst (λ z. AreLeftFrom l x z j x') ends.second.steps left in
      let w = (way_left l is u of a b m j x x' ends.first left').0 in
      let xs = held_steps l (drop j x') in
      let through = subst (λ z. Through (way_up v (legs_of l (drop j x'))) (get_or (v.full z).rows i 0) h.last) (sym w.leads) h.after.through in
      let told = (decided_law g u d v of.matrices g.start b).up w.seen (legs_of l (drop j x')) w.gone i o h.last
      (subst (λ z. i < inputs_of g z) (sym w.leads) ends.input) (subst (λ z. o < outputs_of g z) ends.second.module_is ends.output) through in
      let ea : b ++ xs ≡ a = sym left'.steps ∙ ends.first.steps in
      subst (λ z. IsAnswerOfAddresses g d z b i o (cond bit Yes No)) ea (answer_by g d (b ++ xs) b i o h.last bit (agree_off b xs) h.bit told)
