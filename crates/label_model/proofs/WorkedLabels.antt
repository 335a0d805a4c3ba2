-- The worked labels are computed; one of them is shown to be a label, and bytes to be none.
use Rattle.std.proofs.Common.{◌≡◌, ℕ, zero, suc, ◌<◌, Bool, true, false, List, [], ◌∷◌, get_or, Some, refl, sym, subst, arith, lit<, lit≤}
use Rattle.wf_model.specs.Grammar.{head_of, body_of, alternative_of}
use Rattle.wf_model.specs.Reach.{Step, target_of}
use Rattle.wf_model.specs.Linear.{IsStepOf}
use Rattle.bit_pack.specs.Bits.{low_bits, packed}
use Rattle.bit_pack.specs.Gamma.{digits, binary, gamma}
use Rattle.wf_laws.specs.TwistingGrammar.{twisting}
use Rattle.label_model.specs.Continuing.{derives_within, derives, continuing}
use Rattle.label_model.specs.Labels.{label_bits, IsLabel}
use Rattle.label_model.specs.RunLabels.{address_in}
use Rattle.label_model.specs.Reading.{IsLabelBytes, IsPlaceLeft}
use Rattle.label_model.specs.Bound.{bound}
use Rattle.label_model.specs.Examples.{loop, edge_after, LabelsAreWorked}
use Rattle.label_model.proofs.ReadFromFront.{reading_law}
use Rattle.label_model.proofs.ReadByParts.{parts_law}

-- edge 0 of the second L
loop_label : IsLabel loop (edge_after 1)
unfolding derives_within derives continuing
loop_label = record {
  entered = 1;
  leads = (record { production = 0; position = 0 }, record { from = 0; chain = (refl, refl); step = record { in_range = lit< tt; head = refl; position = lit< tt }; alternative = refl; position = refl; leaves = λ e. (cc) }, refl);
  from = 1;
  chain = ((λ e. (cc)), lit≤ tt, refl);
  production = 1;
  of_it = (lit< tt, refl);
  alternative = refl;
  edge = lit< tt;
}

-- S has one production
from_start : (t : Step) → IsStepOf twisting 0 t → t.production ≡ 0
from_start t h = go t.production h.in_range h.head
  where
    go : (p : ℕ) → p < 3 → head_of twisting p ≡ 0 → p ≡ 0
    go zero a b = refl
    go (suc zero) a b = absurd (omega (arith, b))
    go (suc (suc zero)) a b = absurd (omega (arith, b))
    go (suc (suc (suc p))) a b = absurd (omega arith)

-- the first production of L is production 1
from_loop : (t : Step) → IsStepOf twisting 1 t → alternative_of twisting t.production ≡ 0 → t.production ≡ 1
from_loop t h a = go t.production h.in_range h.head a
  where
    go : (p : ℕ) → p < 3 → head_of twisting p ≡ 1 → alternative_of twisting p ≡ 0 → p ≡ 1
    go zero a b c = absurd (omega (arith, b))
    go (suc zero) a b c = refl
    go (suc (suc zero)) a b c = absurd (omega (arith, c))
    go (suc (suc (suc p))) a b c = absurd (omega arith)

-- what is left after the step from S to L, and what is left after the chain number there
abbrev after_step : List Bool
after_step = true ∷ true ∷ true ∷ false ∷ true ∷ false ∷ true ∷ false ∷ true ∷ true ∷ false ∷ false ∷ []

abbrev after_chain : List Bool
after_chain = true ∷ true ∷ false ∷ true ∷ false ∷ true ∷ false ∷ true ∷ true ∷ false ∷ false ∷ []

-- a step that is the continuing one is no part of a label
twisting_no_label : IsLabelBytes twisting (0xfe ∷ 0xac ∷ []) → ⊥
unfolding digits binary gamma low_bits derives_within derives continuing
twisting_no_label h =
    let a = (reading_law.label twisting (0xfe ∷ 0xac ∷ [])).0 h in
    let b = (parts_law.no_chain twisting 0 _ refl).0 ((reading_law.place twisting 0 _).0 a) in
    let c = (parts_law.a_step twisting 0 0 0 after_step).0 b in
    let t : target_of twisting c.0 ≡ 1 = (λ i. get_or (body_of twisting (from_start c.0 c.1 i)) (c.3 i) 0) in
    let d : IsPlaceLeft twisting 1 after_step = subst (λ k. IsPlaceLeft twisting k after_step) t c.5 in
    let e = (parts_law.a_chain twisting 1 0 after_chain (λ q. (cc))).0 ((reading_law.place twisting 1 _).0 d) in
    let f = (parts_law.a_step twisting 1 0 1 (true ∷ false ∷ true ∷ true ∷ false ∷ false ∷ [])).0 e.1 in
    let p = from_loop f.0 f.1 f.2 in
    let s : Some (record { production = 1; position = 1 }) ≡ Some f.0 = sym (λ i. Some (record { production = p i; position = f.3 i })) in
    f.4 s

pub labels_are_worked : LabelsAreWorked
unfolding digits binary gamma packed derives_within derives continuing label_bits address_in bound
labels_are_worked = record {
  line_labels = refl;
  fork_labels = refl;
  loop_labels = refl;
  pair_labels = refl;
  line_entries = refl;
  loop_entries = refl;
  loop_label = loop_label;
  twisting_label = refl;
  twisting_no_label = twisting_no_label;
  twisting_constant = refl;
  twisting_components = refl;
  twisting_cycles = refl;
  twisting_bound = refl;
  twisting_per_digit = refl;
  line_constant = refl;
  line_cycles = refl;
}
