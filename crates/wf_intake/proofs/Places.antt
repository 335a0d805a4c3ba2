-- Reports that are kept, by their places: what is marked, and what is let go.
use Rattle.std.proofs.Common.{◌≡◌, ℕ, zero, suc, ◌<◌, Bool, true, false, cond, ◌&&◌, ◌||◌, List, [], ◌∷◌, map, filter, length, refl, sym, ap, ◌∙◌, subst, inl, inr, arith, true≢false, bytes_eq}
use Rattle.std.specs.List.{slice_set}
use Rattle.std.proofs.lemmas.List.{length-map}
use Rattle.wf_model.specs.Lists.{IsIn, AllDiffer}
use Rattle.wf_model.specs.declared.event.Event.{Event}
use Rattle.wf_model.specs.declared.event.Event.TheVariants.{Start, Expand}
use Rattle.wf_model.specs.Faults.{is_one_of}
use Rattle.report_model.specs.Reports.{subject_of}
use Rattle.report_model.specs.Kept.{Kept, report_of, is_held, kept_at, let_go}
use Rattle.wf_inbox.specs.Inboxes.{is_about, marked}
use Rattle.wf_intake.specs.Intakes.{subjects_of}
use Rattle.wf_intake.specs.Rounds.{all_marked, held_count}

-- a report that is held has its place in the list
pub held_within : (kept : List Kept) (j : ℕ) → (kept_at kept j).held ≡ true → j < length kept
held_within [] j h = absurd (true≢false (sym h))
held_within (k ∷ kept) zero h = omega arith
held_within (k ∷ kept) (suc j) h = let l = held_within kept j h in omega (arith, l)

pub subject_in : (kept : List Kept) (k : ℕ) → k < length kept → IsIn (subject_of (kept_at kept k).report.event) (subjects_of kept)
subject_in [] k l = absurd (omega (arith, l))
subject_in (x ∷ kept) zero l = inl refl
subject_in (x ∷ kept) (suc k) l = inr (subject_in kept k (omega (arith, l)))

-- reports about the same have one place
pub one_place : (kept : List Kept) → AllDiffer (subjects_of kept) → (j k : ℕ) → j < length kept → k < length kept → subject_of (kept_at kept j).report.event ≡ subject_of (kept_at kept k).report.event → j ≡ k
one_place [] d j k l m e = absurd (omega (arith, l))
one_place (x ∷ kept) d zero zero l m e = refl
one_place (x ∷ kept) d zero (suc k) l m e = absurd (d.0 (subst (λ z. IsIn z (subjects_of kept)) (sym e) (subject_in kept k (omega (arith, m)))))
one_place (x ∷ kept) d (suc j) zero l m e = absurd (d.0 (subst (λ z. IsIn z (subjects_of kept)) e (subject_in kept j (omega (arith, l)))))
one_place (x ∷ kept) d (suc j) (suc k) l m e = ap suc (one_place kept d.1 j k (omega (arith, l)) (omega (arith, m)) e)

-- where one is held no longer, another that is held is as it was
pub held_other : (kept : List Kept) (k j : ℕ) (y : Kept) → y.held ≡ false → (kept_at (slice_set kept k y) j).held ≡ true → (kept_at (slice_set kept k y) j ≡ kept_at kept j) × (j ≡ k → ⊥)
held_other [] k j y n h = absurd (true≢false (sym h))
held_other (x ∷ kept) zero zero y n h = absurd (true≢false (sym h ∙ n))
held_other (x ∷ kept) zero (suc j) y n h = (refl, λ e. absurd (omega (arith, e)))
held_other (x ∷ kept) (suc k) zero y n h = (refl, λ e. absurd (omega (arith, e)))
held_other (x ∷ kept) (suc k) (suc j) y n h = let r = held_other kept k j y n h in (r.0, λ e. r.1 (omega (arith, e)))

-- where one that is held is let go, one less is held
pub one_less : (kept : List Kept) (k : ℕ) → (kept_at kept k).held ≡ true → held_count kept ≡ suc (held_count (slice_set kept k (let_go (kept_at kept k))))
one_less [] k h = absurd (true≢false (sym h))
one_less (x ∷ kept) zero h = ap (λ b. length (cond b (x ∷ filter is_held kept) (filter is_held kept))) h
one_less (x ∷ kept) (suc k) h = go (x.held) (one_less kept k h)
  where
    left : List Kept
    left = slice_set kept k (let_go (kept_at kept k))

    go : (b : Bool) → held_count kept ≡ suc (held_count left) → length (cond b (x ∷ filter is_held kept) (filter is_held kept)) ≡ suc (length (cond b (x ∷ filter is_held left) (filter is_held left)))
    go true e = ap suc e
    go false e = e

-- the subjects are the same
pub subjects_left : (kept : List Kept) (k : ℕ) → subjects_of (slice_set kept k (let_go (kept_at kept k))) ≡ subjects_of kept
subjects_left [] k = refl
subjects_left (x ∷ kept) zero = refl
subjects_left (x ∷ kept) (suc k) = ap (λ l. subject_of x.report.event ∷ l) (subjects_left kept k)

report_marked : (n : List ℕ) (k : Kept) → (marked n k).report ≡ k.report
report_marked n k = go (k.held && is_about n k)
  where
    go : (b : Bool) → (cond b (record { report = k.report; held = k.held; ready = true }) k).report ≡ k.report
    go true = refl
    go false = refl

held_marked : (n : List ℕ) (k : Kept) → (marked n k).held ≡ k.held
held_marked n k = go (k.held && is_about n k)
  where
    go : (b : Bool) → (cond b (record { report = k.report; held = k.held; ready = true }) k).held ≡ k.held
    go true = refl
    go false = refl

-- one report, with the marks of these names
abbrev pub each_marked : List (List ℕ) → Kept → Kept
each_marked [] k = k
each_marked (n ∷ names) k = each_marked names (marked n k)

at_marked : (n : List ℕ) (kept : List Kept) (j : ℕ) → kept_at (map (marked n) kept) j ≡ marked n (kept_at kept j)
at_marked n [] j = refl
at_marked n (k ∷ kept) zero = refl
at_marked n (k ∷ kept) (suc j) = at_marked n kept j

pub at_all_marked : (names : List (List ℕ)) (kept : List Kept) (j : ℕ) → kept_at (all_marked names kept) j ≡ each_marked names (kept_at kept j)
at_all_marked [] kept j = refl
at_all_marked (n ∷ names) kept j = at_all_marked names (map (marked n) kept) j ∙ ap (each_marked names) (at_marked n kept j)

pub report_each : (names : List (List ℕ)) (k : Kept) → (each_marked names k).report ≡ k.report
report_each [] k = refl
report_each (n ∷ names) k = report_each names (marked n k) ∙ report_marked n k

pub held_each : (names : List (List ℕ)) (k : Kept) → (each_marked names k).held ≡ k.held
held_each [] k = refl
held_each (n ∷ names) k = held_each names (marked n k) ∙ held_marked n k

-- a held report
abbrev pub holding : ℕ → Event → Bool → Kept
holding line x ready = record { report = record { line = line; event = x }; held = true; ready = ready }

-- that of a start is not marked
pub start_each : (names : List (List ℕ)) (line : ℕ) (r : List ℕ) (b : Bool) → (each_marked names (holding line (Start r) b)).ready ≡ b
start_each [] line r b = refl
start_each (n ∷ names) line r b = start_each names line r b

-- and that of an expansion is marked where its instance has one of these names
pub expand_each : (names : List (List ℕ)) (line : ℕ) (i : List ℕ) (p : ℕ) (ms : List (List ℕ)) (b : Bool) → (each_marked names (holding line (Expand i p ms) b)).ready ≡ b || is_one_of names i
expand_each [] line i p ms true = refl
expand_each [] line i p ms false = refl
expand_each (n ∷ names) line i p ms b = go (expand_each names line i p ms) (bytes_eq i n) b
  where
    go : ((c : Bool) → (each_marked names (holding line (Expand i p ms) c)).ready ≡ c || is_one_of names i) →
        (t c : Bool) → (each_marked names (cond t (holding line (Expand i p ms) true) (holding line (Expand i p ms) c))).ready ≡ c || (t || is_one_of names i)
    go ih true true = ih true
    go ih true false = ih true
    go ih false c = ih c

held_reports_one : (n : List ℕ) (kept : List Kept) → map report_of (filter is_held (map (marked n) kept)) ≡ map report_of (filter is_held kept)
held_reports_one n [] = refl
held_reports_one n (x ∷ kept) = ap (λ b. map report_of (cond b (marked n x ∷ filter is_held (map (marked n) kept)) (filter is_held (map (marked n) kept)))) (held_marked n x) ∙ go (x.held) (held_reports_one n kept)
  where
    go : (b : Bool) → map report_of (filter is_held (map (marked n) kept)) ≡ map report_of (filter is_held kept) →
        map report_of (cond b (marked n x ∷ filter is_held (map (marked n) kept)) (filter is_held (map (marked n) kept))) ≡ map report_of (cond b (x ∷ filter is_held kept) (filter is_held kept))
    go true e = let r = report_marked n x in λ t. r t ∷ e t
    go false e = e

-- marks change neither the reports that are held
pub held_reports : (names : List (List ℕ)) (kept : List Kept) → map report_of (filter is_held (all_marked names kept)) ≡ map report_of (filter is_held kept)
held_reports [] kept = refl
held_reports (n ∷ names) kept = held_reports names (map (marked n) kept) ∙ held_reports_one n kept

subjects_one : (n : List ℕ) (kept : List Kept) → subjects_of (map (marked n) kept) ≡ subjects_of kept
subjects_one n [] = refl
subjects_one n (x ∷ kept) = let r = report_marked n x in let e = subjects_one n kept in λ t. subject_of (r t).event ∷ e t

-- nor their subjects
pub subjects_marked : (names : List (List ℕ)) (kept : List Kept) → subjects_of (all_marked names kept) ≡ subjects_of kept
subjects_marked [] kept = refl
subjects_marked (n ∷ names) kept = subjects_marked names (map (marked n) kept) ∙ subjects_one n kept

-- nor how many there are
pub length_marked : (names : List (List ℕ)) (kept : List Kept) → length (all_marked names kept) ≡ length kept
length_marked [] kept = refl
length_marked (n ∷ names) kept = length_marked names (map (marked n) kept) ∙ length-map kept (marked n)

-- nor how many are held
pub count_marked : (names : List (List ℕ)) (kept : List Kept) → held_count (all_marked names kept) ≡ held_count kept
count_marked names kept = sym (length-map (filter is_held (all_marked names kept)) report_of) ∙ (ap length (held_reports names kept) ∙ length-map (filter is_held kept) report_of)
