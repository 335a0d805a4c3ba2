-- Clauses of an answer, by what is known of it.
use Rattle.std.proofs.Common.{◌≡◌, OnOk, IfErr, Result, Ok, Err, sym, subst}

pub ok_then : {T E P Q : Type 0} (r : Result T E) → OnOk r P → (P → Q) → OnOk r Q
ok_then (Ok v) p h = h p
ok_then (Err f) p h = p

pub ok_each : {T E P Q R S : Type 0} (r : Result T E) → OnOk r P → OnOk r Q → OnOk r R → (P → Q → R → S) → OnOk r S
ok_each (Ok v) p q o h = h p q o
ok_each (Err f) p q o h = p

pub err_then : {T E : Type 0} {P Q : E → Type 0} (r : Result T E) → IfErr r P → ((f : E) → P f → Q f) → IfErr r Q
err_then (Ok v) p h = p
err_then (Err f) p h = h f p

-- whatever the error is
pub err_any : {T E : Type 0} {P : E → Type 0} (r : Result T E) → ((f : E) → P f) → IfErr r P
err_any (Ok v) h = tt
err_any (Err f) h = h f

-- an error that is passed on
pub passed : {T E : Type 0} (P : E → Type 0) (r : Result T E) (f : E) → (y : E) × (r ≡ Err y) × (y ≡ f) → P f → IfErr r P
passed P r f e p = subst (λ z. IfErr z P) (sym e.1) (subst P (sym e.2) p)
