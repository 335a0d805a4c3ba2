-- Parts of a label that are read one after another.
use Rattle.std.proofs.Common.{◌≡◌, ◌↔◌, ℕ, ◌+◌, Bool, List, [], ◌++◌, length, refl, sym, ap, ◌∙◌, subst, arith, append_assoc, length-append}
use Rattle.bit_pack.specs.Gamma.{gamma}
use Rattle.bit_pack.specs.Reading.{Reading}
use Rattle.wf_label.specs.Parts.{IsPassed, IsNumberRead}

-- nothing is read
pub passed_none : (R S : List Bool → Type 0) (r : Reading) → ((bits : List Bool) → R bits ↔ S bits) → IsPassed R S r r
passed_none R S r same = record { bits = []; is = refl; at = omega arith; same = same }

-- these bits are read, whatever they tell
pub passed_front : (R : List Bool → Type 0) (bits : List Bool) (a b : Reading) → a.left ≡ bits ++ b.left → b.at ≡ a.at + length bits → IsPassed R (λ left. R (bits ++ left)) a b
passed_front R bits a b is at = record { bits = bits; is = is; at = at; same = λ left. ((λ h. h), (λ h. h)) }

-- a number is read, and it tells what is left
pub passed_number : (R S : List Bool → Type 0) (n : ℕ) (a b : Reading) → IsNumberRead n a b → ((left : List Bool) → R (gamma (n + 1) ++ left) ↔ S left) → IsPassed R S a b
passed_number R S n a b read same = record { bits = gamma (n + 1); is = read.is; at = read.at; same = same }

-- one part after another
pub passed_then : (R S T : List Bool → Type 0) (a b c : Reading) → IsPassed R S a b → IsPassed S T b c → IsPassed R T a c
passed_then R S T a b c h k = record {
  bits = h.bits ++ k.bits;
  is = h.is ∙ (ap (λ z. h.bits ++ z) k.is ∙ sym (append_assoc h.bits k.bits c.left));
  at = omega (arith, h.at, k.at, length-append h.bits k.bits);
  same = λ left. (
    (λ r. (k.same left).0 ((h.same (k.bits ++ left)).0 (subst R (append_assoc h.bits k.bits left) r))),
    (λ t. subst R (sym (append_assoc h.bits k.bits left)) ((h.same (k.bits ++ left)).1 ((k.same left).1 t))),
  );
}

-- what is not left now was not left before
pub passed_back : (R S : List Bool → Type 0) (a b : Reading) → IsPassed R S a b → ¬ S b.left → ¬ R a.left
passed_back R S a b h none r = none ((h.same b.left).0 (subst R h.is r))
