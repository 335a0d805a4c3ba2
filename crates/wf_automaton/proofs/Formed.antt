-- Members that have their forms, and the first that has not.
use Rattle.std.proofs.Common.{◌≡◌, Bool, false, Option, Some, None, sym, ap, ◌∙◌, true≢false}
use Rattle.std.specs.Prelude.{is_some, IsSome}
use Rattle.wf_spec.specs.FirstFaults.{FailsFirstAt}
use Rattle.wf_spec.proofs.FirstFaults.{once_fails}

-- a member that has its form, as it is read
pub formed : {A : Type 0} (o read : Option A) (x : A) → read ≡ o → read ≡ Some x → IsSome o
formed o read x of is = ap is_some (sym of ∙ is)

-- one that has not
pub not_formed : {A : Type 0} (o read : Option A) → read ≡ o → read ≡ None → FailsFirstAt 1 (λ k. IsSome o) 0
not_formed o read of is = once_fails (IsSome o) (λ h. true≢false (sym h ∙ ap is_some (sym of ∙ is)))

-- and what a test does not find
pub not_found : {A : Type 0} (o : Option A) (b : Bool) → b ≡ is_some o → b ≡ false → FailsFirstAt 1 (λ k. IsSome o) 0
not_found o b of is = once_fails (IsSome o) (λ h. true≢false (sym h ∙ (sym of ∙ is)))
