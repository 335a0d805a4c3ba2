-- Reports that are held and ready, by their places.
use Rattle.std.proofs.Common.{◌≡◌, ℕ, zero, suc, ◌+◌, ◌<◌, ◌≤◌, ◌≢◌, Bool, true, false, not, cond, ◌&&◌, List, [], ◌∷◌, ◌++◌, length, refl, ap, sym, ◌∙◌, arith, true≢false, ◌⊎◌, inl, inr, ⊎_elim}
use Rattle.std.specs.Prelude.{◌==◌}
use Rattle.std.specs.List.{count_by, slice_set}
use Rattle.std.proofs.lemmas.Bool.{cases_eq, cases_lt, and_from}
use Rattle.std.proofs.lemmas.List.{get_or_past, get_or-set_same, get_or-set_other, get_or_append_left, length-append}
use Rattle.std.proofs.Math.Seq.{get_or-append_seam}
use Rattle.std.proofs.lemmas.List.Sums.{sum_by-set, sum_by-append, sum_by-cons}
use Rattle.wf_model.proofs.Tests.{and_left, and_right}
use Rattle.report_model.specs.Reports.{Report}
use Rattle.report_model.specs.Kept.{Kept, is_held, kept_at, let_go}
use Rattle.wf_inbox.specs.Keeping.{is_due, subject_kept, made_ready}
use Rattle.report_model.proofs.Events.{number_same}
use Rattle.wf_inbox.proofs.Times.{one_if, other_number}

abbrev pub due_at : List Kept → ℕ → ℕ
due_at kept k = one_if (is_due (kept_at kept k))

pub none_past : (kept : List Kept) (k : ℕ) → length kept ≤ k → due_at kept k ≡ 0
none_past kept k l = ap (λ z. one_if (is_due z)) (get_or_past kept k _ l)

pub due_from : (kept : List Kept) (k : ℕ) → 1 ≤ due_at kept k → is_due (kept_at kept k) ≡ true
due_from kept k l = by (is_due (kept_at kept k)) refl
  where
    by : (b : Bool) → is_due (kept_at kept k) ≡ b → is_due (kept_at kept k) ≡ true
    by true e = e
    by false e = let z : due_at kept k ≡ 0 = ap one_if e in absurd (omega arith)

pub due_within : (kept : List Kept) (k : ℕ) → is_due (kept_at kept k) ≡ true → k < length kept
due_within [] k e = absurd (true≢false (sym e))
due_within (x ∷ kept) zero e = omega arith
due_within (x ∷ kept) (suc k) e = let l = due_within kept k e in omega arith

pub due_held : (x : Kept) → is_due x ≡ true → x.held ≡ true
due_held x e = and_left x.held x.ready e

pub due_ready : (x : Kept) → is_due x ≡ true → x.ready ≡ true
due_ready x e = and_right x.held x.ready e

pub is_due_from : (x : Kept) → x.held ≡ true → x.ready ≡ true → is_due x ≡ true
is_due_from x h r = and_from x.held x.ready h r

-- one report is put in the place of another
pub due_set_same : (kept : List Kept) (p : ℕ) (y : Kept) → p < length kept → due_at (slice_set kept p y) p ≡ one_if (is_due y)
due_set_same kept p y l = ap (λ z. one_if (is_due z)) (get_or-set_same kept p y _ l)

pub due_set_other : (kept : List Kept) (p k : ℕ) (y : Kept) → k ≢ p → due_at (slice_set kept p y) k ≡ due_at kept k
due_set_other kept p k y n = ap (λ z. one_if (is_due z)) (get_or-set_other kept p k y _ n)

pub held_set : (kept : List Kept) (p : ℕ) (y : Kept) → p < length kept → count_by is_held (slice_set kept p y) + one_if (kept_at kept p).held ≡ count_by is_held kept + one_if y.held
held_set kept p y l = sum_by-set (λ (k : Kept). cond k.held 1 0) kept p y _ l

pub one_and : (b c : Bool) → c ≡ false → one_if (b && c) ≡ 0
one_and true c e = ap one_if e
one_and false c e = refl

pub one_both : (b c : Bool) → c ≡ true → one_if (b && c) ≡ one_if b
one_both true c e = ap one_if e
one_both false c e = refl

-- one more report
pub due_more : (kept : List Kept) (y : Kept) (k : ℕ) → due_at (kept ++ y ∷ []) k ≡ due_at kept k + one_if (is_due y && k == length kept)
due_more kept y k = ⊎_elim (λ e. here e) (λ n. there n (cases_lt k (length kept))) (cases_eq k (length kept))
  where
    here : k ≡ length kept → due_at (kept ++ y ∷ []) k ≡ due_at kept k + one_if (is_due y && k == length kept)
    here e =
        let a : due_at (kept ++ y ∷ []) k ≡ one_if (is_due y) = ap (due_at (kept ++ y ∷ [])) e ∙ ap (λ z. one_if (is_due z)) (get_or-append_seam kept y [] _) in
        let b = none_past kept k (omega arith) in
        let c = one_both (is_due y) (k == length kept) (ap (λ n. n == length kept) e ∙ number_same (length kept)) in
        omega arith

    there : (k ≡ length kept → ⊥) → (k < length kept) ⊎ (length kept ≤ k) → due_at (kept ++ y ∷ []) k ≡ due_at kept k + one_if (is_due y && k == length kept)
    there n (inl l) =
        let a : due_at (kept ++ y ∷ []) k ≡ due_at kept k = ap (λ z. one_if (is_due z)) (get_or_append_left kept (y ∷ []) _ k l) in
        let c = one_and (is_due y) (k == length kept) (other_number k (length kept) n) in
        omega arith
    there n (inr l) =
        let m : length (kept ++ y ∷ []) ≡ length kept + 1 = length-append kept (y ∷ []) in
        let d : length kept ≢ k = λ e. n (sym e) in
        let a = none_past (kept ++ y ∷ []) k (omega arith) in
        let b = none_past kept k l in
        let c = one_and (is_due y) (k == length kept) (other_number k (length kept) n) in
        omega arith

pub held_more : (kept : List Kept) (y : Kept) → count_by is_held (kept ++ y ∷ []) ≡ count_by is_held kept + one_if y.held
held_more kept y =
    let a = sum_by-append (λ (k : Kept). cond k.held 1 0) kept (y ∷ []) in
    let b = sum_by-cons (λ (k : Kept). cond k.held 1 0) y [] in
    a ∙ (ap (λ n. count_by is_held kept + n) (b ∙ zero_last (one_if y.held)))
  where
    zero_last : (n : ℕ) → n + 0 ≡ n
    zero_last n = omega arith

-- no report is held where their number is 0
pub none_held_at : (kept : List Kept) (j : ℕ) → 0 ≡ count_by is_held kept → j < length kept → (kept_at kept j).held ≡ false
none_held_at kept j e l = by (kept_at kept j).held refl
  where
    by : (b : Bool) → (kept_at kept j).held ≡ b → (kept_at kept j).held ≡ false
    by false h = h
    by true h =
        let a = held_set kept j (let_go (kept_at kept j)) l in
        let b : one_if (kept_at kept j).held ≡ 1 = ap one_if h in
        absurd (omega arith)

-- a report that is made ready if it is held
pub made_subject : (x : Kept) → subject_kept (made_ready x) ≡ subject_kept x
made_subject x = by x.held
  where
    by : (b : Bool) → subject_kept (cond b (record { report = x.report; held = x.held; ready = true }) x) ≡ subject_kept x
    by true = refl
    by false = refl

pub made_held : (x : Kept) → (made_ready x).held ≡ x.held
made_held x = by x.held
  where
    by : (b : Bool) → (cond b (record { report = x.report; held = x.held; ready = true }) x).held ≡ x.held
    by true = refl
    by false = refl

pub made_due : (x : Kept) → one_if (is_due (made_ready x)) ≡ one_if (is_due x) + one_if (x.held && not x.ready)
made_due x = by x.report x.held x.ready
  where
    by : (p : Report) (h r : Bool) → one_if (is_due (made_ready (record { report = p; held = h; ready = r }))) ≡ one_if (h && r) + one_if (h && not r)
    by p true true = refl
    by p true false = refl
    by p false r = refl
