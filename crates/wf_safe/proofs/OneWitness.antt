-- A view has one first witness.
use Rattle.std.proofs.Common.{◌≡◌, ◌⊎◌, ℕ, ◌<◌, IsTrue, List, [], ◌∷◌, map, get_or, refl, sym, ap, ◌∙◌, subst, inl, inr, ⊎_elim, arith}
use Rattle.wf_model.specs.Lists.{IsIn}
use Rattle.wf_model.specs.Grammar.{Grammar, Assignment, inputs_of, outputs_of, head_of}
use Rattle.wf_model.specs.WellFormed.{IsWellFormed}
use Rattle.wf_model.specs.View.{View, expands, IsSeenModule}
use Rattle.wf_model.specs.Safe.{IsChosen, IsInducedBy}
use Rattle.wf_model.proofs.Lists.{in_map_from}
use Rattle.wf_laws.specs.Settled.{IsInducedWhereSettled}
use Rattle.wf_check.specs.Proper.{Ranking}
use Rattle.wf_safe.specs.declared.witness.Choice.{Choice}
use Rattle.wf_safe.specs.declared.witness.Witness.{Witness}
use Rattle.wf_safe.specs.Witness.{chosen_in, modules_in, IsChoiceOf, IsFirstWitness, ComesBefore, AgreesOn, OneWitnessLaw}
use Rattle.wf_model.proofs.Rising.{same_rising}
use Rattle.wf_safe.proofs.Disagreeing.{head_seen, head_expanded, not_agreeing, joined_told}

-- a list of pairs by its modules, where these tell the productions
by_modules : (f : ℕ → ℕ) (l : List (ℕ × ℕ)) → ((m p : ℕ) → IsIn (m, p) l → p ≡ f m) → l ≡ map (λ (m : ℕ). (m, f m)) (modules_in l)
by_modules f [] h = refl
by_modules f (c ∷ l) h =
    let e : ◌≡◌ {A = ℕ × ℕ} c (c.0, f c.0) = ap (λ (p : ℕ). (c.0, p)) (h c.0 c.1 (inl refl)) in
    ap (λ z. z ∷ l) e ∙ ap (λ z. (c.0, f c.0) ∷ z) (by_modules f l (λ m p i. h m p (inr i)))

-- a choice from its pair of numbers
abbrev choice_of : ℕ × ℕ → Choice
choice_of c = record { «module» = record { 0 = c.0 }; production = record { 0 = c.1 } }

choices_back : (l : List Choice) → map choice_of (chosen_in l) ≡ l
choices_back [] = refl
choices_back (c ∷ l) = ap (λ z. c ∷ z) (choices_back l)

module _ (g : Grammar) (u : View) where
  some_module : (choice : List (ℕ × ℕ)) → IsChoiceOf g u choice → (m : ℕ) → IsIn m (modules_in choice) → IsSeenModule g u m × IsTrue (expands u m)
  some_module choice h m i =
      let a = in_map_from (λ (c : ℕ × ℕ). c.0) m choice i in
      h.seen m a.0.1 (subst (λ z. IsIn (z, a.0.1) choice) (sym a.2) a.1)

  -- two choices that are told by one ranking are equal
  same_choice : (r : Ranking) (w v : Witness) → IsFirstWitness g u r w → IsFirstWitness g u r v → chosen_in w.choice ≡ chosen_in v.choice
  same_choice r w v fw fv =
      let a = chosen_in w.choice in
      let b = chosen_in v.choice in
      let ha = fw.witness.choice in
      let hb = fv.witness.choice in
      let modules : modules_in (chosen_in w.choice) ≡ modules_in (chosen_in v.choice) = same_rising (modules_in a) (modules_in b) ha.in_order hb.in_order
      (λ m. (λ i. let s = some_module a ha m i in hb.all m s.0 s.1, λ i. let s = some_module b hb m i in ha.all m s.0 s.1)) in
      by_modules (λ m. get_or r.choices m 0) a fw.ranked ∙
      (ap (map (λ (m : ℕ). (m, get_or r.choices m 0))) modules ∙ sym (by_modules (λ m. get_or r.choices m 0) b fv.ranked))

  induced_there : (choice : List (ℕ × ℕ)) (d : Assignment) → IsInducedBy g u (IsChosen choice) d → IsInducedWhereSettled g u (IsChosen choice) d
  induced_there choice d ind = record { shown = ind.shown; induced = λ p hp c seen ex s. ind.induced p hp c seen ex }

  module _ (r : Ranking) (w v : Witness) (wf : IsWellFormed g) (fw : IsFirstWitness g u r w) (fv : IsFirstWitness g u r v) where
    -- the pairs of the second are induced by the choice of the first
    induced : IsInducedWhereSettled g u (IsChosen (chosen_in w.choice)) fv.pairs
    induced = subst (λ l. IsInducedWhereSettled g u (IsChosen l) fv.pairs) (sym (same_choice r w v fw fv)) (induced_there (chosen_in v.choice) fv.pairs fv.induced)

    not_agreeing_there : AgreesOn g fv.pairs w.other.0 w.input.0 w.output.0 → ⊥
    not_agreeing_there = not_agreeing g u w fv.pairs wf fw.witness induced

    not_less : w.other.0 < v.other.0 → ⊥
    not_less h =
        let m = fw.witness.other.1 in
        not_agreeing_there
        (fv.least w.other.0 h (head_seen g u w fv.pairs wf fw.witness induced) (head_expanded g u w fv.pairs wf fw.witness induced) w.input.0 w.output.0
        (subst (λ z. w.input.0 < inputs_of g z) (sym m) fw.witness.input) (subst (λ z. w.output.0 < outputs_of g z) (sym m) fw.witness.output))

    module _ (other : w.other.0 ≡ v.other.0) where
      same_module : w.«module».0 ≡ v.«module».0
      same_module = sym fw.witness.other.1 ∙ (ap (head_of g) other ∙ fv.witness.other.1)

      not_before : ComesBefore w.input.0 w.output.0 v.input.0 v.output.0 → ⊥
      not_before h =
          not_agreeing_there (subst (λ z. AgreesOn g fv.pairs z w.input.0 w.output.0) (sym other)
          (fv.first w.input.0 w.output.0 (subst (λ z. w.input.0 < inputs_of g z) same_module fw.witness.input) (subst (λ z. w.output.0 < outputs_of g z) same_module fw.witness.output) h))

one_of_order : (a b : ℕ) → (a < b → ⊥) → (b < a → ⊥) → a ≡ b
one_of_order a b f h = ⊎_elim (λ l. absurd (f l)) (λ q. ⊎_elim (λ e. e) (λ l. absurd (h l)) q) cases
  where
    cases : (a < b) ⊎ ((a ≡ b) ⊎ (b < a))
    cases = grind arith

pub one_witness_law : OneWitnessLaw
one_witness_law g u r w v wf rk fw fv =
    let other = one_of_order w.other.0 v.other.0 (not_less g u r w v wf fw fv) (not_less g u r v w wf fv fw) in
    let before = not_before g u r w v wf fw fv other in
    let after = not_before g u r v w wf fv fw (sym other) in
    let modules = same_module g u r w v wf fw fv other in
    let input = one_of_order w.input.0 v.input.0 (λ l. before (inl l)) (λ l. after (inl l)) in
    let output = one_of_order w.output.0 v.output.0 (λ l. before (inr (input, l))) (λ l. after (inr (sym input, l))) in
    let choice = same_choice g u r w v fw fv in
    let one = fw.ranked w.«module».0 w.one.0 fw.witness.one ∙ (ap (λ m. get_or r.choices m 0) modules ∙ sym (fv.ranked v.«module».0 v.one.0 fv.witness.one)) in
    let choices = sym (choices_back w.choice) ∙ (ap (map choice_of) choice ∙ choices_back v.choice) in
    let joined = joined_told g u w fv.pairs wf fw.witness (induced g u r w v wf fw fv) ∙
    (ap (λ m. fv.pairs m w.input.0 w.output.0) modules ∙ (ap (λ i. fv.pairs v.«module».0 i w.output.0) input ∙ (ap (fv.pairs v.«module».0 v.input.0) output ∙
    sym (joined_told g u v fv.pairs wf fv.witness (induced_there g u (chosen_in v.choice) fv.pairs fv.induced))))) in
    λ t. record {
      «module» = record { 0 = modules t };
      one = record { 0 = one t };
      other = record { 0 = other t };
      input = record { 0 = input t };
      output = record { 0 = output t };
      joined_by_one = joined t;
      choice = choices t;
    }
