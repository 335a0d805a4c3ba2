-- The faults of the names of new instances, by what is known of them.
use Rattle.std.proofs.Common.{◌≡◌, ℕ, ◌+◌, ◌<◌, ◌≤◌, true, false, cond, List, length, Option, Some, None, sym, ap, arith}
use Rattle.std.specs.Prelude.{nat_lt, IfSome, IfNone}
use Rattle.std.proofs.lemmas.Bool.Decides.{nat_tests}
use Rattle.wf_model.specs.declared.event.RunFault.{RunFault}
use Rattle.wf_model.specs.declared.event.RunFault.TheVariants.{NameTwice, TooManyInstances}
use Rattle.wf_model.specs.Faults.{some_twice}
use Rattle.wf_model.proofs.Taking.{skipped}
use Rattle.run_faults.specs.Order.{names_fault}
use Rattle.run_faults.specs.NewNames.{twice_fault}

pub none_twice : (taken names : List (List ℕ)) → some_twice taken names ≡ false → twice_fault taken names ≡ None
none_twice taken names e = ap (λ b. cond {A = Option RunFault} b (Some NameTwice) None) e

pub one_twice : (taken names : List (List ℕ)) → some_twice taken names ≡ true → twice_fault taken names ≡ Some NameTwice
one_twice taken names e = ap (λ b. cond {A = Option RunFault} b (Some NameTwice) None) e

-- where there is room, no more than a name that is taken stands against them
pub fault_with_room : (most : ℕ) (taken names : List (List ℕ)) → length taken + length names ≤ most → names_fault most taken names ≡ twice_fault taken names
fault_with_room most taken names room =
    let f : nat_lt most (length taken + length names) ≡ false = grind (arith, nat_tests) in
    ap (λ b. cond (some_twice taken names) (Some NameTwice) (cond b (Some TooManyInstances) None)) f

-- where there is none, they have a fault
pub faulty_without_room : (most : ℕ) (taken names : List (List ℕ)) (o : Option RunFault) → o ≡ names_fault most taken names → most < length taken + length names → (X : Type 0) → IfNone o X
faulty_without_room most taken names (Some f) e past X = tt
faulty_without_room most taken names None e past X =
    let t : nat_lt most (length taken + length names) ≡ false = (skipped (nat_lt most (length taken + length names)) TooManyInstances None (skipped (some_twice taken names) NameTwice (cond (nat_lt most (length taken + length names)) (Some TooManyInstances) None) (sym e)).1).0 in
    absurd (grind (arith, nat_tests))

-- what an option tells
pub told_some : {A : Type 0} (o p : Option A) → o ≡ p → IfSome o (λ x. p ≡ Some x)
told_some None p e = tt
told_some (Some x) p e = sym e

pub if_none : {A : Type 0} (o : Option A) (P Q : Type 0) → (P → Q) → IfNone o P → IfNone o Q
if_none None P Q f h = f h
if_none (Some x) P Q f h = tt
