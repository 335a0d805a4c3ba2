-- What was appended to a sink that may tell its bytes.
use Rattle.std.proofs.Common.{◌≡◌, ℕ, ◌+◌, List, [], ◌++◌, length, take, Option, Some, None, option_map, min, sym, ap, ◌∙◌, subst, arith, append_assoc, append-nil}
use Rattle.std.proofs.Math.Seq.{take-append-add}
use Rattle.std.proofs.lemmas.List.{take-append-le, take_min}
use Rattle.wf_io.specs.Told.{Appended}

-- nothing was appended
pub appended_none : (old new : Option (List ℕ)) → new ≡ old → Appended [] old new
appended_none None new e = e
appended_none (Some b) new e = e ∙ ap Some (sym (append-nil b))

-- so also as the first 0 bytes of a text
pub begun_none : (text : List ℕ) (old new : Option (List ℕ)) → new ≡ old → (k : ℕ) × Appended (take k text) old new
begun_none text old new e = (0, appended_none old new e)

-- one text after another
pub appended_twice : (xs ys : List ℕ) (a b c : Option (List ℕ)) → Appended xs a b → Appended ys b c → Appended (xs ++ ys) a c
appended_twice xs ys None b c p q = q ∙ ap (option_map (λ l. l ++ ys)) p
appended_twice xs ys (Some l) b c p q = q ∙ (ap (option_map (λ l. l ++ ys)) p ∙ ap Some (append_assoc l xs ys))

-- a beginning of a text is one of a longer text
pub shorter : (k : ℕ) (xs ys : List ℕ) → (j : ℕ) × (take j (xs ++ ys) ≡ take k xs)
shorter k xs ys = (min k (length xs), take-append-le (min k (length xs)) xs ys (omega arith) ∙ take_min k xs)

pub begun_longer : (k : ℕ) (xs ys : List ℕ) (a b : Option (List ℕ)) → Appended (take k xs) a b → (j : ℕ) × Appended (take j (xs ++ ys)) a b
begun_longer k xs ys a b p = let s = shorter k xs ys in (s.0, subst (λ l. Appended l a b) (sym s.1) p)

-- so is it one of the same text
pub begun_same : (xs ys : List ℕ) (a b : Option (List ℕ)) → xs ≡ ys → (k : ℕ) × Appended (take k xs) a b → (k : ℕ) × Appended (take k ys) a b
begun_same xs ys a b e = subst (λ l. (k : ℕ) × Appended (take k l) a b) e

-- a text, and then the beginning of another
pub begun_after : (xs ys : List ℕ) (k : ℕ) (a b c : Option (List ℕ)) → Appended xs a b → Appended (take k ys) b c → (j : ℕ) × Appended (take j (xs ++ ys)) a c
begun_after xs ys k a b c p q = (length xs + k, subst (λ l. Appended l a c) (sym (take-append-add xs ys k)) (appended_twice xs (take k ys) a b c p q))
