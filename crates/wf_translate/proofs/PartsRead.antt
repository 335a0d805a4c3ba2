-- Steps and endings that are read number by number.
use Rattle.std.proofs.Common.{◌≡◌, ◌≢◌, ℕ, ◌+◌, ◌<◌, Bool, true, false, List, [], ◌∷◌, ◌++◌, length, replicate, ◌==◌, Option, Some, None, refl, sym, ap, ◌∙◌, subst, arith, true≢false}
use Rattle.std.proofs.lemmas.Bool.{eqb-true, eq-eqb, and_parts, and_from}
use Rattle.std.proofs.lemmas.List.{length-replicate}
use Rattle.wf_model.specs.Grammar.{Grammar, production_at, body_of, alternative_of, IsProductionOf}
use Rattle.wf_model.specs.Reach.{Step}
use Rattle.wf_model.proofs.Going.{same_step}
use Rattle.bit_pack.specs.Gamma.{gamma}
use Rattle.bit_pack.specs.Reading.{IsPadding}
use Rattle.bit_pack.proofs.Codes.{prefix_free_law as gamma_law}
use Rattle.label_model.specs.Continuing.{is_step}
use Rattle.label_model.proofs.Alternatives.{same_alternative}
use Rattle.package_model.specs.Translating.{Loops}
use Rattle.wf_label.specs.Parts.{HasNoNumber, HasNoAlternative}
use Rattle.wf_translate.specs.Parts.{BeginsByStep, IsEndingBy, HasNoPart, IsPositionRead, HasNoPosition, IsLastNumber, HasNoLastNumber}

-- the test of an option for a step
pub is_step_gives : (o : Option Step) (s : Step) → is_step o s ≡ true → o ≡ Some s
is_step_gives None s e = absurd (true≢false (sym e))
is_step_gives (Some t) s e =
    let r = and_parts (t.production == s.production) (t.position == s.position) e in
    ap Some (same_step t s (eqb-true t.production s.production r.0) (eqb-true t.position s.position r.1))

pub is_step_not : (o : Option Step) (s : Step) → is_step o s ≡ false → o ≢ Some s
is_step_not o s e is =
    true≢false (sym (ap (λ z. is_step z s) is ∙ and_from (s.production == s.production) (s.position == s.position) (eq-eqb s.production s.production refl) (eq-eqb s.position s.position refl)) ∙ e)

-- a number behind which the bits end
pub last_number : (count n : ℕ) (bits left : List Bool) → n < count → bits ≡ gamma (n + 1) ++ left → IsPadding left → IsLastNumber count bits n
last_number count n bits left low is pad = record { in_range = low; padding = length left; few = pad.few; is = is ∙ ap (λ z. gamma (n + 1) ++ z) pad.zeros }

pub no_last_number : (count : ℕ) (bits : List Bool) → HasNoNumber count bits → HasNoLastNumber count bits
no_last_number count bits none n h = none n (replicate h.padding false) h.in_range h.is

pub more_behind : (count n : ℕ) (bits left : List Bool) → bits ≡ gamma (n + 1) ++ left → (IsPadding left → ⊥) → HasNoLastNumber count bits
more_behind count n bits left is none k h =
    let r = gamma_law (n + 1) (k + 1) left (replicate h.padding false) (omega arith) (omega arith) (sym is ∙ h.is) in
    let long : length left ≡ h.padding = ap length r.1 ∙ length-replicate h.padding false in
    none (record { few = omega (arith, long, h.few); zeros = r.1 ∙ ap (λ z. replicate z false) (sym long) })

module _ (g : Grammar) (loop : Loops) (m : ℕ) where
  -- the position of a step
  pub position_read : (p : ℕ) (s : Step) (bits left : List Bool) → IsProductionOf g p m → s.production ≡ p → s.position < length (body_of g p) → is_step (loop m) s ≡ false → bits ≡ gamma (s.position + 1) ++ left → IsPositionRead g loop m p bits s left
  position_read p s bits left of_it same low other is = record {
    production = same;
    of_it = record { in_range = subst (λ z. z < length g.productions) (sym same) of_it.0; head = ap (λ z. (production_at g z).head) same ∙ of_it.1; position = subst (λ z. s.position < length (body_of g z)) (sym same) low };
    leaves = is_step_not (loop m) s other;
    is = is;
  }

  pub no_position : (p count : ℕ) (bits : List Bool) → count ≡ length (body_of g p) → HasNoNumber count bits → HasNoPosition g loop m p bits
  no_position p count bits same none s left h =
      none s.position left (subst (λ z. s.position < z) (sym same) (subst (λ z. s.position < length (body_of g z)) h.production h.of_it.position)) h.is

  pub loop_position : (p : ℕ) (s : Step) (bits left : List Bool) → s.production ≡ p → is_step (loop m) s ≡ true → bits ≡ gamma (s.position + 1) ++ left → HasNoPosition g loop m p bits
  loop_position p s bits left same own is t rest h =
      let r = gamma_law (s.position + 1) (t.position + 1) left rest (omega arith) (omega arith) (sym is ∙ h.is) in
      let e : s.position ≡ t.position = omega (arith, r.0) in
      h.leaves (is_step_gives (loop m) s own ∙ ap Some (same_step s t (same ∙ sym h.production) e))

  -- a step
  pub part_step : (p : ℕ) (b : Bool) (s : Step) (old y z new : List Bool) → old ≡ b ∷ y → b ≡ true → y ≡ gamma (alternative_of g p + 1) ++ z → IsPositionRead g loop m p z s new → BeginsByStep g loop m old s new
  part_step p b s old y z new bit one code h = record {
    of_it = h.of_it;
    leaves = h.leaves;
    is = bit ∙ (ap (λ x. x ∷ y) one ∙ (ap (λ x. true ∷ x) code ∙ (ap (λ x. true ∷ (gamma (alternative_of g p + 1) ++ x)) h.is ∙
        ap (λ x. true ∷ (gamma (alternative_of g x + 1) ++ (gamma (s.position + 1) ++ new))) (sym h.production))));
  }

  -- an ending
  pub part_end : (p : ℕ) (b : Bool) (e : ℕ) (old y z : List Bool) → IsProductionOf g p m → old ≡ b ∷ y → b ≡ false → y ≡ gamma (alternative_of g p + 1) ++ z → IsLastNumber (length (production_at g p).edges) z e → IsEndingBy g m old p e
  part_end p b e old y z of_it bit zero code h = record {
    of_it = of_it;
    in_range = h.in_range;
    padding = h.padding;
    few = h.few;
    is = bit ∙ (ap (λ x. x ∷ y) zero ∙ (ap (λ x. false ∷ x) code ∙ ap (λ x. false ∷ (gamma (alternative_of g p + 1) ++ x)) h.is));
  }

  -- no bit comes
  pub no_bit : (old : List Bool) → old ≡ [] → HasNoPart g loop m old
  no_bit old is = record {
    no_step = λ s left h. let e = sym is ∙ h.is in absurd (cc);
    no_ending = λ p e h. let q = sym is ∙ h.is in absurd (cc);
  }

  -- no alternative number comes
  pub no_alternative : (b : Bool) (old y : List Bool) → old ≡ b ∷ y → HasNoAlternative g m y → HasNoPart g loop m old
  no_alternative b old y bit none = record {
    no_step = λ s left h. let e = sym bit ∙ h.is in none s.production (gamma (s.position + 1) ++ left) (h.of_it.in_range, h.of_it.head) (cc);
    no_ending = λ p e h. let q = sym bit ∙ h.is in none p (gamma (e + 1) ++ replicate h.padding false) h.of_it (cc);
  }

  -- no position comes
  pub no_step_position : (p : ℕ) (b : Bool) (old y z : List Bool) → IsProductionOf g p m → old ≡ b ∷ y → b ≡ true → y ≡ gamma (alternative_of g p + 1) ++ z → HasNoPosition g loop m p z → HasNoPart g loop m old
  no_step_position p b old y z of_it bit one code none = record {
    no_step = λ s left h.
        let e = sym bit ∙ h.is in
        let e2 : gamma (alternative_of g p + 1) ++ z ≡ gamma (alternative_of g s.production + 1) ++ (gamma (s.position + 1) ++ left) = cc in
        let r = gamma_law (alternative_of g p + 1) (alternative_of g s.production + 1) z (gamma (s.position + 1) ++ left) (omega arith) (omega arith) e2 in
        let same : p ≡ s.production = same_alternative g p s.production of_it.0 h.of_it.in_range (of_it.1 ∙ sym h.of_it.head) (omega (arith, r.0)) in
        none s left (record { production = sym same; of_it = h.of_it; leaves = h.leaves; is = r.1 });
    no_ending = λ q f h. let e = sym bit ∙ h.is in absurd (cc);
  }

  -- no edge comes, behind which the bits end
  pub no_edge : (p : ℕ) (b : Bool) (old y z : List Bool) → IsProductionOf g p m → old ≡ b ∷ y → b ≡ false → y ≡ gamma (alternative_of g p + 1) ++ z → HasNoLastNumber (length (production_at g p).edges) z → HasNoPart g loop m old
  no_edge p b old y z of_it bit zero code none = record {
    no_step = λ s left h. let e = sym bit ∙ h.is in absurd (cc);
    no_ending = λ q f h.
        let e = sym bit ∙ h.is in
        let e2 : gamma (alternative_of g p + 1) ++ z ≡ gamma (alternative_of g q + 1) ++ (gamma (f + 1) ++ replicate h.padding false) = cc in
        let r = gamma_law (alternative_of g p + 1) (alternative_of g q + 1) z (gamma (f + 1) ++ replicate h.padding false) (omega arith) (omega arith) e2 in
        let same : p ≡ q = same_alternative g p q of_it.0 h.of_it.0 (of_it.1 ∙ sym h.of_it.1) (omega (arith, r.0)) in
        none f (record { in_range = subst (λ x. f < length (production_at g x).edges) (sym same) h.in_range; padding = h.padding; few = h.few; is = r.1 });
  }
