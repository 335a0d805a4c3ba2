-- Pieces of text that were put one after the other.
use Rattle.std.proofs.Common.{◌≡◌, ℕ, ◌≤◌, Bool, List, ◌++◌, Option, ◌∙◌, subst, inl, inr}
use Rattle.std.specs.Prelude.{Result, Ok, Err, IsErrAnd}
use Rattle.wf_io.specs.Told.{Rose, Appended}
use Rattle.wf_io.proofs.Appending.{appended_twice, begun_longer, begun_after}
use Rattle.wf_message.specs.Puts.{IsPut, IsPutInPart, Puts}

-- seen from a sink
module _ {S : Type 0} (bytes : S → Option (List ℕ)) (faults : S → ℕ) (last : S → Bool) where
  -- a piece was put, and then the rest
  pub puts_more : {T E : Type 0} (xs ys : List ℕ) (a b c : S) (r : Result T E) → Appended xs (bytes a) (bytes b) × (faults b ≡ faults a) → Puts bytes faults last ys b c r → Puts bytes faults last (xs ++ ys) a c r
  puts_more xs ys a b c (Ok v) p q = (appended_twice xs ys (bytes a) (bytes b) (bytes c) p.0 q.0, q.1 ∙ p.1)
  puts_more xs ys a b c (Err e) p q = record {
    rose = subst (λ n. Rose n (faults c) (last c)) p.1 q.rose;
    later = subst (λ n. n ≤ faults c) p.1 q.later;
    begun = begun_after xs ys q.begun.0 (bytes a) (bytes b) (bytes c) p.0 q.begun.1;
  }

  -- a piece that failed, and then nothing
  pub puts_part : {T E : Type 0} (Q : E → Type 0) (xs ys : List ℕ) (a b : S) (r : Result T E) → IsErrAnd r Q → IsPutInPart xs (bytes a) (bytes b) (faults a) (faults b) (last b) → Puts bytes faults last (xs ++ ys) a b r
  puts_part Q xs ys a b (Ok v) e h = absurd e
  puts_part Q xs ys a b (Err y) e h = record { rose = h.rose; later = h.later; begun = begun_longer h.begun.0 xs ys (bytes a) (bytes b) h.begun.1 }

  -- whether it failed or not, a text was put whole or in part
  pub put_by : {T E : Type 0} (text : List ℕ) (a b : S) (r : Result T E) → Puts bytes faults last text a b r → IsPut text (bytes a) (bytes b) (faults a) (faults b) (last b)
  put_by text a b (Ok v) h = inl h
  put_by text a b (Err e) h = inr h
