-- What is told of an option, by whether something is held.
use Rattle.std.proofs.Common.{◌≡◌, ◌≢◌, true, false, Option, Some, None, sym, true≢false}
use Rattle.std.specs.Prelude.{option_map, is_some}

-- where nothing is held, nothing is told
pub none_told : {A B : Type 0} (f : A → B) (o : Option A) (p : Option B) → option_map f o ≡ p → is_some o ≡ false → p ≡ None
none_told f None p e h = sym e
none_told f (Some x) p e h = absurd (true≢false h)

-- where something is held, something is told
pub some_told : {A B : Type 0} (f : A → B) (o : Option A) (p : Option B) → option_map f o ≡ p → is_some o ≡ true → p ≢ None
some_told f None p e h q = true≢false (sym h)
some_told f (Some x) p e h q = absurd (cc)
