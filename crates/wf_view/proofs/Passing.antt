-- Tests, and what passes them in a list with one element more.
use Rattle.std.proofs.Common.{◌≡◌, ◌||◌, Bool, true, false, refl}

pub or_true : (b : Bool) → true ≡ b || true
or_true true = refl
or_true false = refl
