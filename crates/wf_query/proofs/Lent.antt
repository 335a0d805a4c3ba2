-- What was lent, where the loan is over.
use Rattle.std.proofs.Common.{◌≡◌, ℕ, sym, subst}

-- what holds of the last value behind a reference holds of what was lent, where the reference is the one that was made
pub given_back : {A : Type 0} (P : A → Type 0) (x y : A) (n m : ℕ) → n ≡ m → (n ≡ m → x ≡ y) → P y → P x
given_back P x y n m same back = subst P (sym (back same))
