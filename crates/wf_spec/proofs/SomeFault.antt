-- Rules of which it is told at each place whether they hold: all hold, or one has the first fault.
use Rattle.std.proofs.Common.{◌⊎◌, ℕ, zero, suc, ◌<◌, List, [], ◌∷◌, get_or, take, refl, sym, subst, inl, inr, ⊎_elim}
use Rattle.wf_model.specs.Lists.{IsIn, IsAt}
use Rattle.wf_model.proofs.Deciding.{Either, either_not, bytes_either, in_either, all_or_first}
use Rattle.wf_spec.specs.Naming.{IsNewAt}
use Rattle.wf_spec.specs.FirstFaults.{Rule, FailsFirstAt, HoldsThroughout, AllHold, IsFirstFault}

-- at each of its places a rule holds or not
abbrev pub IsDecided : {F : Type 0} → Rule F → Type 0
IsDecided r = (k : ℕ) → k < r.places → Either (r.holds k)

-- so it is of all of these rules
abbrev pub AreDecided : {F : Type 0} → List (Rule F) → Type 0
AreDecided [] = Unit {0}
AreDecided (r ∷ rs) = IsDecided r × AreDecided rs

-- a rule that is asked of each element of a list
pub each_decided : {A : Type 0} (Holds : A → Type 0) (list : List A) → ((x : A) → IsIn x list → Either (Holds x)) → (k : ℕ) → Either ((x : A) → IsAt x k list → Holds x)
each_decided Holds [] either k = inl (λ x at. absurd at)
each_decided Holds (y ∷ ys) either zero = ⊎_elim (λ h. inl (λ x e. subst Holds (sym e) h)) (λ n. inr (λ all. n (all y refl))) (either y (inl refl))
each_decided Holds (y ∷ ys) either (suc k) = each_decided Holds ys (λ x i. either x (inr i)) k

-- the name at a place is new, or not
pub new_decided : (names : List (List ℕ)) (k : ℕ) → Either (IsNewAt names k)
new_decided names k = either_not (in_either bytes_either (get_or names k []) (take k names))

-- a rule holds throughout, or fails first at some place
rule_or_place : {F : Type 0} (r : Rule F) → IsDecided r → HoldsThroughout r ⊎ ((k : ℕ) × FailsFirstAt r.places r.holds k)
rule_or_place r either = ⊎_elim (λ all. inl all) (λ f. inr (f.0, record { is_place = f.1; before = f.3; fails = f.2 })) (all_or_first r.holds r.places either)

-- all rules hold, or one has the first fault
pub some_fault : {F : Type 0} (rs : List (Rule F)) → AreDecided rs → AllHold rs ⊎ ((f : F) × IsFirstFault rs f)
some_fault [] either = inl tt
some_fault (r ∷ rs) either = ⊎_elim
    (λ all. ⊎_elim (λ others. inl (all, others)) (λ f. inr (f.0, inr (all, f.1))) (some_fault rs either.1))
    (λ f. inr (r.fault f.0, inl (f.0, f.1, refl)))
    (rule_or_place r either.0)
