-- The least of numbers that come out of a heap.
use Rattle.std.proofs.Common.{◌≡◌, ℕ, ◌≤◌, List, [], ◌∷◌, map, length, Option, Some, None, IsPermutation, slice_index_or, subst, sym, ap, ◌∙◌, arith}
use Rattle.std.specs.Prelude.{IfSome, IfNone}
use Rattle.std.specs.List.{AllByRecursion}
use Rattle.std.specs.Ordering.{nat_cmp}
use Rattle.std.specs.BinaryHeap.{IsUpperBound}
use Rattle.std.proofs.HeapSift.{at_most}
use Rattle.std.proofs.lemmas.List.Sorted.{IsPermutation-map}
use Rattle.wf_inbox.specs.Places.{IsFirst}

pub least_of : {X : Type 0} (f : X → ℕ) (x : X) (xs : List X) → IsUpperBound (λ a b. nat_cmp (f b) (f a)) x xs → AllByRecursion (λ k. f x ≤ k) (map f xs)
least_of f x [] h = tt
least_of f x (y ∷ xs) h = (at_most (f y) (f x) h.0, least_of f x xs h.1)

-- the first number of a list comes out
module _ {X : Type 0} (f : X → ℕ) (p : ℕ) (new : List X) where
  pub first_out : (r : Option X) (old : List X) → IsFirst (map f old) p → IfNone r (length old ≡ 0) → IfSome r (λ x. x ≡ slice_index_or old 0 x) → IfSome r (λ x. IsPermutation old (x ∷ new)) → IsPermutation (map f old) (p ∷ map f new)
  first_out r [] i n t h = let l = i.0 in absurd (omega arith)
  first_out None (y ∷ old) i n t h = absurd (omega arith)
  first_out (Some x) (y ∷ old) i n t h = subst (λ q. IsPermutation (map f (y ∷ old)) (q ∷ map f new)) (ap f t ∙ sym i.1) (IsPermutation-map f _ _ h)

  pub first_least : (r : Option X) (old : List X) → IsFirst (map f old) p → IfNone r (length old ≡ 0) → IfSome r (λ x. x ≡ slice_index_or old 0 x) → IfSome r (λ x. IsUpperBound (λ a b. nat_cmp (f b) (f a)) x new) → AllByRecursion (λ q. p ≤ q) (map f new)
  first_least r [] i n t h = let l = i.0 in absurd (omega arith)
  first_least None (y ∷ old) i n t h = absurd (omega arith)
  first_least (Some x) (y ∷ old) i n t h = subst (λ q. AllByRecursion (λ k. q ≤ k) (map f new)) (ap f t ∙ sym i.1) (least_of f x new h)

-- clauses on what comes out
pub none_in : {X : Type 0} (r : Option X) (n m : ℕ) → n ≡ m → IfNone r (n ≡ 0) → IfNone r (m ≡ 0)
none_in None n m e h = sym e ∙ h
none_in (Some x) n m e h = tt

pub where_some : {X : Type 0} (r : Option X) (A : Type 0) (B : X → Type 0) → IfSome r (λ x. A → B x) → A → IfSome r B
where_some None A B h a = tt
where_some (Some x) A B h a = h a
