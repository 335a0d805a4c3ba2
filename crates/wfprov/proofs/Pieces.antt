-- What a writer holds after the parts of a piece, one behind the other.
use Rattle.std.proofs.Common.{ℕ, ◌+◌, ◌-◌, length, List, ◌++◌, take, drop, None, Some, sym, ap, ◌∙◌, append_assoc}
use Rattle.std.proofs.Math.Seq.{take-add}
use Rattle.std.proofs.lemmas.List.{take_rest}
use Rattle.std.specs.Prelude.{Option}
use Rattle.std.specs.Io.KnownBytes.{Appends, Keeps}

-- a part of the piece, and then a part of the rest of it
pub appends_more : (a b c : Option (List ℕ)) (piece : List ℕ) (k n : ℕ)
    → Appends a b (take k piece) → Appends b c (take n (take (length piece - k) (drop k piece))) → Appends a c (take (k + n) piece)
appends_more None b c piece k n p q = tt
appends_more (Some x) None c piece k n p q = absurd p
appends_more (Some x) (Some y) None piece k n p q = absurd q
appends_more (Some x) (Some y) (Some z) piece k n p q =
    q ∙ ap (λ l. y ++ take n l) (take_rest piece k) ∙ ap (λ l. l ++ take n (drop k piece)) p
    ∙ append_assoc x (take k piece) (take n (drop k piece)) ∙ ap (λ l. x ++ l) (sym (take-add k n piece))

-- a part of the piece, and a call that wrote nothing
pub appends_kept : (a b c : Option (List ℕ)) (piece : List ℕ) (k : ℕ)
    → Appends a b (take k piece) → Keeps b c → Appends a c (take k piece)
appends_kept None b c piece k p q = tt
appends_kept (Some x) None c piece k p q = absurd p
appends_kept (Some x) (Some y) None piece k p q = absurd q
appends_kept (Some x) (Some y) (Some z) piece k p q = q ∙ p
