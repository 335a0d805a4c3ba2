-- What a line, or the end of a file, made where it stopped what takes it.
use Rattle.std.proofs.Common.{◌≡◌, ◌⊎◌, Option, Some, None, refl, inl, inr}

-- an end is told, or none is, and then this is so
pub told_or : {E F P : Type 0} (StopsIn : E → Type 0) (end_of : F → Option E) (f : F) → ((e : E) → end_of f ≡ Some e → StopsIn e) → (end_of f ≡ None → P) → ((e : E) × StopsIn e) ⊎ P
told_or {E} {F} {P} StopsIn end_of f told none = go (end_of f) refl
  where
    go : (o : Option E) → end_of f ≡ o → ((e : E) × StopsIn e) ⊎ P
    go None is = inr (none is)
    go (Some e) is = inl (e, told e is)
