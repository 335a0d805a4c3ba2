-- The bytes of names as the binary digits of two words, tried byte by byte.
use Rattle.std.proofs.Common.{◌≡◌, ℕ, zero, suc, ◌+◌, ◌<◌, ◌&&◌, ◌==◌, Bool, true, false, not, refl, sym, ap, ◌∙◌, ⊎_elim, arith}
use Rattle.std.specs.Int.{bit_at}
use Rattle.wf_model.specs.Faults.{is_name_byte}
use Rattle.std.proofs.lemmas.Bool.{not-true}
use Rattle.wf_model.proofs.Deciding.{number_either}
use Rattle.wf_model.proofs.Tests.{and_left, and_right}

-- whether two tests have one answer
same : Bool → Bool → Bool
same true b = b
same false b = not b

same_gives : (a b : Bool) → same a b ≡ true → a ≡ b
unfolding same
same_gives true b e = sym e
same_gives false b e = sym (not-true b e)

-- whether a test passes at each number below another
below : ℕ → (ℕ → Bool) → Bool
below zero p = true
below (suc n) p = p n && below n p

below_gives : (n : ℕ) (p : ℕ → Bool) → below n p ≡ true → (k : ℕ) → k < n → p k ≡ true
unfolding below
below_gives zero p e k l = absurd (omega arith)
below_gives (suc n) p e k l = ⊎_elim (λ q. ap p q ∙ and_left (p n) (below n p) e) (λ d. below_gives n p (and_right (p n) (below n p) e) k (omega (arith, d, l))) (number_either k n)

pub low_told : (b : ℕ) → b < 64 → (bit_at 287984085547089920 b == 1) ≡ is_name_byte b
unfolding below same
low_told b l = same_gives _ _ (below_gives 64 (λ k. same (bit_at 287984085547089920 k == 1) (is_name_byte k)) refl b l)

pub high_told : (k : ℕ) → k < 64 → (bit_at 576460745995190270 k == 1) ≡ is_name_byte (64 + k)
unfolding below same
high_told k l = same_gives _ _ (below_gives 64 (λ k. same (bit_at 576460745995190270 k == 1) (is_name_byte (64 + k))) refl k l)

pub none_told : (k : ℕ) → k < 128 → false ≡ is_name_byte (128 + k)
unfolding below same
none_told k l = same_gives _ _ (below_gives 128 (λ k. same false (is_name_byte (128 + k))) refl k l)
