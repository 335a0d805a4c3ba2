-- The first report that passes a test, and the others.
use Rattle.std.proofs.Common.{◌≡◌, suc, ◌≤◌, ◌⊎◌, Bool, true, false, cond, List, [], ◌∷◌, ◌++◌, length, Some, None, refl, sym, ap, ◌∙◌, subst, inl, inr, ⊎_elim, arith, true≢false}
use Rattle.std.specs.List.{find}
use Rattle.std.proofs.lemmas.List.{map-append}
use Rattle.wf_model.specs.Lists.{IsIn, AllDiffer}
use Rattle.wf_model.specs.declared.event.Event.{Event}
use Rattle.wf_model.proofs.Lists.{in_map, in_map_from, in_append_right, in_append_cases}
use Rattle.report_model.specs.Reports.{Report, reported}
use Rattle.report_model.specs.Intake.{without_first}

pub report_in : (r : Report) (rs : List Report) → IsIn r rs → IsIn r.event (reported rs)
report_in r rs h = in_map (λ (k : Report). k.event) r rs h

pub report_from : (x : Event) (rs : List Report) → IsIn x (reported rs) → (r : Report) × IsIn r rs × (x ≡ r.event)
report_from x rs h = in_map_from (λ (k : Report). k.event) x rs h

pub reported-more : (rs : List Report) (r : Report) → reported (rs ++ r ∷ []) ≡ reported rs ++ r.event ∷ []
reported-more rs r = map-append (λ (k : Report). k.event) rs (r ∷ [])

-- the last of a list, or one before it
pub more_cases : {A : Type 0} (x y : A) (xs : List A) → IsIn x (xs ++ y ∷ []) → IsIn x xs ⊎ (x ≡ y)
more_cases x y xs h = ⊎_elim (λ a. inl a) (λ a. ⊎_elim (λ e. inr e) (λ z. absurd z) a) (in_append_cases x xs (y ∷ []) h)

pub last_in : {A : Type 0} (y : A) (xs : List A) → IsIn y (xs ++ y ∷ [])
last_in y xs = in_append_right y xs (y ∷ []) (inl refl)

-- the first report that passes is taken out, and the rest is left
pub record IsTakenOut (test : Report → Bool) (rs rest : List Report) (r : Report) : Type 0 where
  pub here : IsIn r rs
  pub passes : test r ≡ true
  pub back : (k : Report) → IsIn k rest → IsIn k rs
  pub forth : (k : Report) → IsIn k rs → (k ≡ r) ⊎ IsIn k rest
  pub gone : AllDiffer (reported rs) → IsIn r.event (reported rest) → ⊥
  pub differ : AllDiffer (reported rs) → AllDiffer (reported rest)
  pub shorter : length rs ≡ suc (length rest)

pub taken_out : (test : Report → Bool) (rs : List Report) (r : Report) → find test rs ≡ Some r → IsTakenOut test rs (without_first test rs) r
taken_out test [] r h = absurd (cc)
taken_out test (y ∷ rs) r h = go (taken_out test rs r) (test y) refl h
  where
    go : (find test rs ≡ Some r → IsTakenOut test rs (without_first test rs) r) → (b : Bool) → test y ≡ b → cond b (Some y) (find test rs) ≡ Some r → IsTakenOut test (y ∷ rs) (cond b rs (y ∷ without_first test rs)) r
    go ih true t q =
        let e : y ≡ r = cc in
        subst (λ z. IsTakenOut test (y ∷ rs) rs z) e (record { here = inl refl; passes = t; back = λ k h. inr h; forth = λ k h. h; gone = λ d h. d.0 h; differ = λ d. d.1; shorter = refl })
    go ih false t q =
        let s = ih q in
        let back : (x : Event) → IsIn x (reported (without_first test rs)) → IsIn x (reported rs) = λ x h. let w = report_from x _ h in subst (λ z. IsIn z (reported rs)) (sym w.2) (report_in w.0 rs (s.back w.0 w.1)) in
        record {
          here = inr s.here;
          passes = s.passes;
          back = λ k h. ⊎_elim (λ a. inl a) (λ a. inr (s.back k a)) h;
          forth = λ k h. ⊎_elim (λ a. inr (inl a)) (λ a. ⊎_elim (λ b. inl b) (λ b. inr (inr b)) (s.forth k a)) h;
          gone = λ d h. ⊎_elim (λ a. d.0 (subst (λ z. IsIn z (reported rs)) a (report_in r rs s.here))) (λ a. s.gone d.1 a) h;
          differ = λ d. ((λ h. d.0 (back y.event h)), s.differ d.1);
          shorter = ap suc s.shorter;
        }

-- what stands before the others in the list after it is taken out
pub none_passes : (test : Report → Bool) (rs : List Report) → find test rs ≡ None → (k : Report) → IsIn k rs → test k ≡ true → ⊥
none_passes test [] h k i t = i
none_passes test (y ∷ rs) h k i t = go (none_passes test rs) (test y) refl h i
  where
    go : (find test rs ≡ None → (k : Report) → IsIn k rs → test k ≡ true → ⊥) → (b : Bool) → test y ≡ b → cond b (Some y) (find test rs) ≡ None → IsIn k (y ∷ rs) → ⊥
    go ih true e q i = absurd (cc)
    go ih false e q (inl a) = true≢false (sym t ∙ (ap test a ∙ e))
    go ih false e q (inr a) = ih q k a t

pub none_of_none : (rs : List Report) → length rs ≤ 0 → (k : Report) → IsIn k rs → ⊥
none_of_none [] h k i = i
none_of_none (r ∷ rs) h k i = absurd (omega arith)
