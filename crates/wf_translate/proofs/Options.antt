-- What options and results hold.
use Rattle.std.proofs.Common.{◌≡◌, Result, Ok, Err, Option, Some, None, refl, sym, ap, ◌∙◌, subst}
use Rattle.std.specs.Prelude.{option_map, is_some}
use Rattle.std.specs.Result.{IfErr}

-- a function changes nothing of it
some_same : {A B : Type 0} (f : A → B) (o : Option A) → is_some o ≡ is_some (option_map f o)
some_same f None = refl
some_same f (Some x) = refl

-- nor do two
pub some_mapped : {A B C : Type 0} (f : B → C) (e : A → B) (o : Option A) {p : Option B} {q : Option C} → option_map e o ≡ p → option_map f p ≡ q → is_some o ≡ is_some q
some_mapped f e o {p} {q} h k = some_same e o ∙ (ap is_some h ∙ (some_same f p ∙ ap is_some k))

-- what is so of each error is so of that of a result
pub at_error : {T E : Type 0} (Q : E → Type 0) (r : Result T E) → ((f : E) → r ≡ Err f → Q f) → IfErr r Q
at_error Q (Ok x) h = tt
at_error Q (Err f) h = h f refl

-- what is so of an error is so of a result that hands it on
pub passed_error : {T E : Type 0} (Q : E → Type 0) (r : Result T E) (e : E) → ((x : E) × (r ≡ Err x) × (x ≡ e)) → Q e → IfErr r Q
passed_error Q r e p h = subst (λ y. IfErr y Q) (sym p.1) (subst Q (sym p.2) h)
