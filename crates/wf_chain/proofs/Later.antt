-- The children of an instance were made after it.
use Rattle.std.proofs.Common.{◌≡◌, ℕ, zero, suc, ◌<◌, ◌≤◌, ◌⊎◌, List, [], ◌∷◌, ◌++◌, length, sym, ap, subst, ◌∙◌, inl, inr, ⊎_elim, arith, append_assoc}
use Rattle.std.proofs.lemmas.List.{map-append}
use Rattle.wf_model.specs.Lists.{IsIn, IsAt, AllDiffer}
use Rattle.wf_model.specs.Grammar.{Grammar, head_of}
use Rattle.wf_model.specs.declared.event.Event.{Event}
use Rattle.wf_model.specs.declared.event.Event.TheVariants.{Expand}
use Rattle.wf_model.specs.Run.{Instance, made, made_by, names_of, AllExtend, CanExpand, IsRun}
use Rattle.wf_model.proofs.Lists.{at_in, in_at, at_below, differ_at}
use Rattle.wf_model.proofs.Runs.{made-append, name_in}
use Rattle.wf_model.proofs.Taking.{run_differs}

-- what stands at a place of the first of two lists stands there in both
at_left : {A : Type 0} (x : A) (k : ℕ) (xs ys : List A) → IsAt x k xs → IsAt x k (xs ++ ys)
at_left x k [] ys h = absurd h
at_left x zero (y ∷ xs) ys h = h
at_left x (suc k) (y ∷ xs) ys h = at_left x k xs ys h

-- and what stands there below its end stands in the first
left_at : {A : Type 0} (x : A) (k : ℕ) (xs ys : List A) → IsAt x k (xs ++ ys) → k < length xs → IsAt x k xs
left_at x k [] ys h l = absurd (omega arith)
left_at x zero (y ∷ xs) ys h l = h
left_at x (suc k) (y ∷ xs) ys h l = let r : k < length xs = omega arith in left_at x k xs ys h r

-- a number below another, or not below it
low_or_high : (k n : ℕ) → (k < n) ⊎ (n ≤ k)
low_or_high k zero = inr (omega arith)
low_or_high zero (suc n) = inl (omega arith)
low_or_high (suc k) (suc n) = ⊎_elim (λ h. inl (omega arith)) (λ h. inr (omega arith)) (low_or_high k n)

-- an instance that an event expands stands before what the event makes
at_expansion : (g : Grammar) (m : ℕ) (b rest : List Event) (i : List ℕ) (p : ℕ) (names : List (List ℕ)) → CanExpand g m b i p names → (n : List ℕ) → IsIn n names →
    (all : List (List ℕ)) (more : List (List ℕ)) → all ≡ names_of (made g m b) ++ more → AllDiffer all → (j k : ℕ) → IsAt i j all → IsAt n k all → j < k
at_expansion g m b rest i p names can n h all more e differ j k hj hk =
    let before = names_of (made g m b) in
    let place = in_at i before (name_in (record { name = i; module_no = head_of g p }) (made g m b) can.stands) in
    let low : place.0 < length before = at_below i place.0 before place.1 in
    let same : j ≡ place.0 = differ_at i j place.0 all differ hj (subst (IsAt i place.0) (sym e) (at_left i place.0 before more place.1)) in
    ⊎_elim
    (λ l. absurd (can.new n h (at_in n k before (left_at n k before more (subst (IsAt n k) e hk) l))))
    (λ l. omega arith)
    (low_or_high k (length before))

made_later : (g : Grammar) (m : ℕ) (b a : List Event) (i : List ℕ) (p : ℕ) (names : List (List ℕ)) (n : List ℕ) → AllExtend g m b a → IsIn (Expand i p names) a → IsIn n names →
    AllDiffer (names_of (made g m (b ++ a))) → (j k : ℕ) → IsAt i j (names_of (made g m (b ++ a))) → IsAt n k (names_of (made g m (b ++ a))) → j < k
made_later g m b [] i p names n x h q differ j k hj hk = absurd h
made_later g m b (e ∷ a) i p names n x (inl w) q differ j k hj hk =
    at_expansion g m b a i p names (subst (Rattle.wf_model.specs.Run.Extends g m b) (sym w) x.0) n q (names_of (made g m (b ++ e ∷ a))) (names_of (made g m (e ∷ a)))
    (ap names_of (made-append g m b (e ∷ a)) ∙ map-append (λ (z : Instance). z.name) (made g m b) (made g m (e ∷ a))) differ j k hj hk
made_later g m b (e ∷ a) i p names n x (inr w) q differ j k hj hk =
    let s : (b ++ e ∷ []) ++ a ≡ b ++ e ∷ a = append_assoc b (e ∷ []) a in
    made_later g m (b ++ e ∷ []) a i p names n x.1 w q (subst (λ z. AllDiffer (names_of (made g m z))) (sym s) differ) j k
    (subst (λ z. IsAt i j (names_of (made g m z))) (sym s) hj) (subst (λ z. IsAt n k (names_of (made g m z))) (sym s) hk)

-- in a run whose events expand an instance, what this makes stands behind it
pub child_later : (g : Grammar) (m : ℕ) (events : List Event) → IsRun g m events → (i : List ℕ) (p : ℕ) (names : List (List ℕ)) (n : List ℕ) → IsIn (Expand i p names) events → IsIn n names →
    (j k : ℕ) → IsAt i j (names_of (made g m events)) → IsAt n k (names_of (made g m events)) → j < k
child_later g m events run i p names n h q j k hj hk = made_later g m [] events i p names n run h q (run_differs g m events run) j k hj hk
