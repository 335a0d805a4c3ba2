-- Labels that begin with the bits of a checkpoint.
use Rattle.std.proofs.Common.{◌≡◌, ◌≢◌, ◌↔◌, ℕ, ◌<◌, ◌≤◌, Bool, true, false, List, [], ◌∷◌, length, take, drop, refl, sym, ap, ◌∙◌, subst, arith, length-append}
use Rattle.std.proofs.Math.Seq.{take-append_seam}
use Rattle.std.proofs.lemmas.List.{length-take-le, take-append-drop}
use Rattle.wf_model.specs.declared.numbers.ModNo.{ModNo}
use Rattle.wf_model.specs.Grammar.{Grammar}
use Rattle.bit_pack.specs.Bits.{number}
use Rattle.bit_pack.specs.Reading.{Reading}
use Rattle.bit_pack.proofs.Numbers.{same_from_number}
use Rattle.label_model.specs.Reading.{IsLabelLeft, IsPlaceLeft}
use Rattle.wf_label.specs.declared.checker.Checkpoint.{Checkpoint}
use Rattle.wf_label.specs.Parts.{IsPassed}
use Rattle.wf_label.proofs.Passes.{passed_then, passed_back}
use Rattle.wf_label.specs.Checkpoints.{IsLeftAt, GoesOn, IsCheckpoint, IsShared}

-- a reader of these bits, behind the first, so many
abbrev pub behind : List Bool → ℕ → Reading
behind bits n = record { at = n; left = drop n bits }

-- all that is left is passed by two that are one grammar
pub passed_on : (g k : Grammar) (R : List Bool → Type 0) (S T : Grammar → List Bool → Type 0) (x a b : Reading) → k ≡ g → IsPassed R (S g) x a → IsPassed (S k) (T k) a b → IsPassed R (T g) x b
passed_on g k R S T x a b e h p = passed_then R (S g) (T g) x a b h (subst (λ z. IsPassed (S z) (T z) a b) e p)

pub nothing_on : (g k : Grammar) (R : List Bool → Type 0) (S : Grammar → List Bool → Type 0) (x a : Reading) → k ≡ g → IsPassed R (S g) x a → ¬ S k a.left → ¬ R x.left
nothing_on g k R S x a e h none = passed_back R (S g) x a h (subst (λ z. ¬ S z a.left) e none)

-- every label of an edge begins with a one, and then a place at the start module is left
pub first_checkpoint : (g : Grammar) (start : ModNo) → start.0 ≡ g.start → g.start < length g.modules → IsCheckpoint g (record { front = 1; bits = 1; chained = false; at = start })
first_checkpoint g start is inside = record {
  front = true ∷ [];
  long = refl;
  some = omega arith;
  few = omega arith;
  told = refl;
  in_range = subst (λ k. k < length g.modules) (sym is) inside;
  goes_on = λ left. subst (λ k. IsLabelLeft g (true ∷ left) ↔ IsPlaceLeft g k left) (sym is) ((λ h. h), (λ h. h));
}

module _ (g : Grammar) (bits : List Bool) where
  -- a label that has the number of a checkpoint begins with its bits
  pub shared_with : (s : Checkpoint) → IsCheckpoint g s → s.bits ≤ length bits → number (take s.bits bits) ≡ s.front → IsShared g bits s
  shared_with s checkpoint inside is =
      let same : take s.bits bits ≡ checkpoint.front = same_from_number (take s.bits bits) checkpoint.front (length-take-le s.bits bits inside ∙ sym checkpoint.long) (is ∙ sym checkpoint.told) in
      record { few = checkpoint.few; inside = inside; in_range = checkpoint.in_range; goes_on = subst (λ f. GoesOn g f s.chained s.at.0) (sym same) checkpoint.goes_on }

  -- it is passed up to the checkpoint,
  pub passed_to : (s : Checkpoint) → IsShared g bits s → IsPassed (IsLabelLeft g) (IsLeftAt g s.chained s.at.0) (behind bits 0) (behind bits s.bits)
  passed_to s h = record { bits = take s.bits bits; is = sym (take-append-drop s.bits bits); at = omega (arith, length-take-le s.bits bits h.inside); same = h.goes_on }

  module _ (chained : Bool) (m : ModNo) (r : Reading) (h : IsPassed (IsLabelLeft g) (IsLeftAt g chained m.0) (behind bits 0) r) where
    front_is : take r.at bits ≡ h.bits
    front_is = ap (λ n. take n bits) (h.at ∙ omega arith) ∙ (ap (take (length h.bits)) h.is ∙ take-append_seam h.bits r.left)

    pub at_inside : r.at ≤ length bits
    at_inside = omega (arith, h.at, ap length h.is, length-append h.bits r.left)

    -- and so is every label with the bits that were passed
    pub goes_on_at : GoesOn g (take r.at bits) chained m.0
    goes_on_at = subst (λ f. GoesOn g f chained m.0) (sym front_is) h.same

  -- a checkpoint behind the first bits, so many
  pub checkpoint_at : (n front : ℕ) (chained : Bool) (m : ModNo) → n ≢ 0 → n < 64 → n ≤ length bits → front ≡ number (take n bits) → m.0 < length g.modules → GoesOn g (take n bits) chained m.0 →
      IsCheckpoint g (record { front = front; bits = n; chained = chained; at = m })
  checkpoint_at n front chained m some few inside is low goes_on = record { front = take n bits; long = length-take-le n bits inside; some = omega (arith, some); few = few; told = sym is; in_range = low; goes_on = goes_on }
