-- The event that expands an instance.
use Rattle.std.proofs.Common.{◌≡◌, ℕ, Bool, true, false, cond, List, [], ◌∷◌, bytes_eq, Option, Some, refl, sym, ◌∙◌, inl, inr}
use Rattle.wf_model.specs.Lists.{IsIn}
use Rattle.wf_model.specs.declared.event.Event.{Event}
use Rattle.wf_model.specs.declared.event.Event.TheVariants.{Start, Expand}
use Rattle.wf_model.specs.Run.{Expanded, expanded_by}
use Rattle.wf_model.proofs.Lists.{same_bytes}

pub expanded_from : (a : List Event) (n : List ℕ) (x : Expanded) → expanded_by a n ≡ Some x → IsIn (Expand n x.production x.names) a
expanded_from [] n x h = absurd (cc)
expanded_from (Start r ∷ a) n x h = inr (expanded_from a n x h)
expanded_from (Expand i p names ∷ a) n x h = go (λ q. expanded_from a n x q) (bytes_eq i n) refl h
  where
    go : (expanded_by a n ≡ Some x → IsIn (Expand n x.production x.names) a) → (t : Bool) → bytes_eq i n ≡ t → cond t (Some (record { production = p; names = names })) (expanded_by a n) ≡ Some x → IsIn (Expand n x.production x.names) (Expand i p names ∷ a)
    go ih false e q = inr (ih q)
    go ih true e q =
        let s : ◌≡◌ {A = Expanded} (record { production = p; names = names }) x = cc in
        let same = same_bytes i n e in
        inl (λ t. Expand (sym same t) (sym s t).production (sym s t).names)

pub one_expansion : (o : Option Expanded) (x y : Expanded) → o ≡ Some x → o ≡ Some y → x ≡ y
one_expansion o x y e f = let z : Some x ≡ Some y = sym e ∙ f in cc
