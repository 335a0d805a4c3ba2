-- What is known of an option in each case.
use Rattle.std.proofs.Common.{◌≡◌, Option, None, Some, MatchOption, is_some, true, false, sym, true≢false}

pub match_some : {A : Type 0} (o : Option A) (P : Type 0) (Q : A → Type 0) → MatchOption o P Q → is_some o ≡ true → (x : A) × Q x
match_some None P Q h t = absurd (true≢false (sym t))
match_some (Some x) P Q h t = (x, h)

pub match_none : {A : Type 0} (o : Option A) (P : Type 0) (Q : A → Type 0) → MatchOption o P Q → is_some o ≡ false → P
match_none None P Q h t = h
match_none (Some x) P Q h t = absurd (true≢false t)
