-- What is known on a subject, and which held reports are ready.
use Rattle.std.proofs.Common.{◌≡◌, ℕ, zero, suc, ◌≤◌, ◌<◌, Bool, true, false, cond, ◌||◌, List, [], ◌∷◌, ◌++◌, map, filter, length, Option, None, Some, option_map, refl, sym, ap, ◌∙◌, subst, arith, true≢false}
use Rattle.std.specs.Prelude.{not, bytes_eq}
use Rattle.std.specs.Option.{option_eq, option_or}
use Rattle.std.specs.List.{find, slice_set}
use Rattle.std.proofs.lemmas.List.Folds.{find-append}
use Rattle.wf_model.specs.Lists.{IsIn, AllDiffer}
use Rattle.wf_model.specs.Grammar.{Grammar}
use Rattle.wf_model.specs.declared.event.Event.{Event}
use Rattle.wf_model.specs.declared.event.Event.TheVariants.{Start, Expand}
use Rattle.wf_model.specs.Run.{made, made_by, names_of}
use Rattle.wf_model.specs.Faults.{is_one_of}
use Rattle.report_model.specs.Reports.{Report, subject_of, same_subject, about}
use Rattle.report_model.specs.Intake.{without_first, is_ready, ready_in}
use Rattle.report_model.specs.Kept.{Kept, report_of, is_held, kept_at, let_go, NoneReadyBefore, IsFirstReady, AreMarked}
use Rattle.report_model.proofs.Events.{subjects_same, same_subjects, subject_itself}
use Rattle.report_model.proofs.Rounds.{ready_after}
use Rattle.report_model.proofs.Marked.{IsBefore, none_marked, first_marked, find-map, without_first-map}
use Rattle.wf_inbox.specs.Inboxes.{known_on, NoneReady}
use Rattle.wf_intake.specs.Intakes.{subjects_of}
use Rattle.wf_intake.proofs.Places.{subject_in}

-- what is known is known on a subject
pub known_alike : (known : List Report) (x y : Event) → subject_of x ≡ subject_of y → find (about x) known ≡ find (about y) known
known_alike known x y e = ap (λ o. find (λ (r : Report). option_eq bytes_eq (subject_of r.event) o) known) e

pub or_none : {A : Type 0} (o : Option A) → option_or o None ≡ o
or_none None = refl
or_none (Some x) = refl

-- one report more
pub known_more : (known : List Report) (r : Report) (x : Event) → find (about x) (known ++ r ∷ []) ≡ option_or (find (about x) known) (cond (same_subject r.event x) (Some r) None)
known_more known r x = find-append (about x) known (r ∷ [])

-- the reports that are held
abbrev pub held_of : List Kept → List Report
held_of kept = map report_of (filter is_held kept)

-- the first of those that are held
held_first : (y : Kept) (kept : List Kept) (x : Event) → find (about x) (held_of (y ∷ kept)) ≡ cond y.held (cond (same_subject y.report.event x) (Some y.report) (find (about x) (held_of kept))) (find (about x) (held_of kept))
held_first y kept x = go y.held
  where
    go : (b : Bool) → find (about x) (map report_of (cond b (y ∷ filter is_held kept) (filter is_held kept))) ≡ cond b (cond (same_subject y.report.event x) (Some y.report) (find (about x) (held_of kept))) (find (about x) (held_of kept))
    go true = refl
    go false = refl

-- a report that is held is the one that is held on its subject
pub held_known : (kept : List Kept) (k : ℕ) → k < length kept → (kept_at kept k).held ≡ true → AllDiffer (subjects_of kept) → find (about (kept_at kept k).report.event) (held_of kept) ≡ Some (kept_at kept k).report
held_known [] k l h d = absurd (omega (arith, l))
held_known (y ∷ kept) zero l h d =
    held_first y kept y.report.event ∙
    (ap (λ b. cond b (cond (same_subject y.report.event y.report.event) (Some y.report) (find (about y.report.event) (held_of kept))) (find (about y.report.event) (held_of kept))) h ∙
    ap (λ b. cond b (Some y.report) (find (about y.report.event) (held_of kept))) (subject_itself y.report.event))
held_known (y ∷ kept) (suc k) l h d = held_first y kept x ∙ go y.held (same_subject y.report.event x) refl (held_known kept k (omega (arith, l)) h d.1)
  where
    x : Event
    x = (kept_at kept k).report.event

    go : (a b : Bool) → same_subject y.report.event x ≡ b → find (about x) (held_of kept) ≡ Some (kept_at kept k).report → cond a (cond b (Some y.report) (find (about x) (held_of kept))) (find (about x) (held_of kept)) ≡ Some (kept_at kept k).report
    go false b q e = e
    go true false q e = e
    go true true q e = absurd (d.0 (subst (λ z. IsIn z (subjects_of kept)) (sym (subjects_same y.report.event x q)) (subject_in kept k (omega (arith, l)))))

-- none is held on a subject where none of the reports that are held is about it
pub none_held_on : (kept : List Kept) (x : Event) → ((k : ℕ) → k < length kept → (kept_at kept k).held ≡ true → subject_of (kept_at kept k).report.event ≡ subject_of x → ⊥) → find (about x) (held_of kept) ≡ None
none_held_on [] x h = refl
none_held_on (y ∷ kept) x h = held_first y kept x ∙ go y.held (same_subject y.report.event x) refl refl (none_held_on kept x (λ k l. h (suc k) (omega (arith, l))))
  where
    go : (a b : Bool) → y.held ≡ a → same_subject y.report.event x ≡ b → find (about x) (held_of kept) ≡ None → cond a (cond b (Some y.report) (find (about x) (held_of kept))) (find (about x) (held_of kept)) ≡ None
    go false b p q e = e
    go true false p q e = e
    go true true p q e = absurd (h 0 (omega arith) p (subjects_same y.report.event x q))

-- where each report on a subject is held, one is known on it as one is held
pub held_as_kept : (kept : List Kept) (x : Event) → ((k : ℕ) → k < length kept → (kept_at kept k).held ≡ false → subject_of (kept_at kept k).report.event ≡ subject_of x → ⊥) → find (about x) (held_of kept) ≡ known_on kept x
held_as_kept [] x h = refl
held_as_kept (y ∷ kept) x h = held_first y kept x ∙ go y.held (same_subject y.report.event x) refl refl (held_as_kept kept x (λ k l. h (suc k) (omega (arith, l))))
  where
    go : (a b : Bool) → y.held ≡ a → same_subject y.report.event x ≡ b → find (about x) (held_of kept) ≡ known_on kept x → cond a (cond b (Some y.report) (find (about x) (held_of kept))) (find (about x) (held_of kept)) ≡ cond b (Some y.report) (known_on kept x)
    go true b p q e = ap (λ o. cond b (Some y.report) o) e
    go false false p q e = e
    go false true p q e = absurd (h 0 (omega arith) p (subjects_same y.report.event x q))

-- whether an event is ready is told by its subject
pub ready_alike : (g : Grammar) (run : List Event) (x y : Event) → subject_of x ≡ subject_of y → is_ready g run x ≡ is_ready g run y
ready_alike g run (Start a) (Start b) e = refl
ready_alike g run (Start a) (Expand j q ms) e = absurd (cc)
ready_alike g run (Expand i p ns) (Start b) e = absurd (cc)
ready_alike g run (Expand i p ns) (Expand j q ms) e = let f : i ≡ j = cc in ap (is_one_of (names_of (made g g.start run))) f

-- a report past the end, which is not held
abbrev past : Kept
past = record { report = record { line = 0; event = Start [] }; held = false; ready = false }

-- where a report is let go, on other subjects as before one is held
pub held_without : (kept : List Kept) (k : ℕ) (x : Event) → k < length kept → same_subject (kept_at kept k).report.event x ≡ false → find (about x) (held_of (slice_set kept k (let_go (kept_at kept k)))) ≡ find (about x) (held_of kept)
held_without [] k x l q = refl
held_without (y ∷ kept) zero x l q = sym (held_first y kept x ∙ go y.held)
  where
    go : (a : Bool) → cond a (cond (same_subject y.report.event x) (Some y.report) (find (about x) (held_of kept))) (find (about x) (held_of kept)) ≡ find (about x) (held_of kept)
    go false = refl
    go true = ap (λ b. cond b (Some y.report) (find (about x) (held_of kept))) q
held_without (y ∷ kept) (suc k) x l q =
    held_first y (slice_set kept k (let_go (kept_at kept k))) x ∙
    (ap (λ o. cond y.held (cond (same_subject y.report.event x) (Some y.report) o) o) (held_without kept k x (omega (arith, l)) q) ∙ sym (held_first y kept x))

-- what is known without the reports on a subject
pub known_without : (e x : Event) (known : List Report) → find (about x) (filter (λ (r : Report). not (about e r)) known) ≡ cond (same_subject e x) None (find (about x) known)
known_without e x [] = go (same_subject e x)
  where
    go : (b : Bool) → None ≡ cond {A = Option Report} b None None
    go true = refl
    go false = refl
known_without e x (r ∷ known) = go (same_subject r.event e) (same_subject r.event x) (same_subject e x) refl refl refl (known_without e x known)
  where
    rest : List Report
    rest = filter (λ (y : Report). not (about e y)) known

    go : (a b c : Bool) → same_subject r.event e ≡ a → same_subject r.event x ≡ b → same_subject e x ≡ c → find (about x) rest ≡ cond (same_subject e x) None (find (about x) known) →
        find (about x) (cond (not (same_subject r.event e)) (r ∷ rest) rest) ≡ cond (same_subject e x) None (cond (same_subject r.event x) (Some r) (find (about x) known))
    go true true true p q t ih = ap (λ z. find (about x) (cond (not z) (r ∷ rest) rest)) p ∙ (ih ∙ (ap (λ z. cond z None (find (about x) known)) t ∙ sym (ap (λ z. cond z None (cond (same_subject r.event x) (Some r) (find (about x) known))) t)))
    go true true false p q t ih = absurd (true≢false (sym (same_subjects e x (sym (subjects_same r.event e p) ∙ subjects_same r.event x q)) ∙ t))
    go true false c p q t ih = ap (λ z. find (about x) (cond (not z) (r ∷ rest) rest)) p ∙ (ih ∙ ap (λ z. cond (same_subject e x) None (cond z (Some r) (find (about x) known))) (sym q))
    go false true true p q t ih = absurd (true≢false (sym (same_subjects r.event e (subjects_same r.event x q ∙ sym (subjects_same e x t))) ∙ p))
    go false true false p q t ih =
        ap (λ z. find (about x) (cond (not z) (r ∷ rest) rest)) p ∙
        (ap (λ z. cond z (Some r) (find (about x) rest)) q ∙ sym (ap (λ z. cond z None (cond (same_subject r.event x) (Some r) (find (about x) known))) t ∙ ap (λ z. cond z (Some r) (find (about x) known)) q))
    go false false c p q t ih =
        ap (λ z. find (about x) (cond (not z) (r ∷ rest) rest)) p ∙
        (ap (λ z. cond z (Some r) (find (about x) rest)) q ∙ (ih ∙ ap (λ z. cond (same_subject e x) None (cond z (Some r) (find (about x) known))) (sym q)))

-- an expansion that is ready stays so
pub ready_still : (g : Grammar) (run : List Event) (e x : Event) → (subject_of x ≡ None → ⊥) → is_ready g run x ≡ true → is_ready g (run ++ e ∷ []) x ≡ true
ready_still g run e (Start r) n h = absurd (n refl)
ready_still g run e (Expand i p names) n h = ready_after g run e i p names ∙ ap (λ b. b || is_one_of (names_of (made_by g g.start e)) i) h

-- where one is let go, each has the report that it had
pub report_left : (kept : List Kept) (k j : ℕ) → (kept_at (slice_set kept k (let_go (kept_at kept k))) j).report ≡ (kept_at kept j).report
report_left [] k j = refl
report_left (x ∷ kept) zero zero = refl
report_left (x ∷ kept) zero (suc j) = refl
report_left (x ∷ kept) (suc k) zero = refl
report_left (x ∷ kept) (suc k) (suc j) = report_left kept k j

-- and each other is held as it was
pub held_others : (kept : List Kept) (k j : ℕ) → (j ≡ k → ⊥) → (kept_at (slice_set kept k (let_go (kept_at kept k))) j).held ≡ (kept_at kept j).held
held_others [] k j n = refl
held_others (x ∷ kept) zero zero n = absurd (n refl)
held_others (x ∷ kept) zero (suc j) n = refl
held_others (x ∷ kept) (suc k) zero n = refl
held_others (x ∷ kept) (suc k) (suc j) n = held_others kept k j (λ e. n (ap suc e))

module _ (g : Grammar) (run : List Event) (kept : List Kept) (marks : AreMarked g run kept) where
  abbrev ready_kept : Kept → Bool
  ready_kept k = ready_in g run k.report

  before : (k : ℕ) → k ≤ length kept → NoneReadyBefore kept k → IsBefore is_held ready_kept kept k past
  before k m h j l held ready = h j l held (marks j (omega (arith, l, m)) held ∙ ready)

  -- no held report is ready where none is marked as ready
  pub none_found : NoneReady kept → find (ready_in g run) (map report_of (filter is_held kept)) ≡ None
  none_found h = find-map report_of (ready_in g run) (filter is_held kept) ∙ ap (option_map report_of) (none_marked is_held ready_kept kept past (before (length kept) (omega arith) h))

  module _ (k : ℕ) (first : IsFirstReady kept k) where
    small : k ≤ length kept
    small = let l = first.within in omega (arith, l)

    ready : ready_kept (kept_at kept k) ≡ true
    ready = sym (marks k first.within first.held) ∙ first.ready

    -- the first that is held and marked is the first that is ready
    pub first_found : find (ready_in g run) (map report_of (filter is_held kept)) ≡ Some (kept_at kept k).report
    first_found =
        find-map report_of (ready_in g run) (filter is_held kept) ∙
        ap (option_map report_of) (first_marked is_held ready_kept kept k past (let_go (kept_at kept k)) first.within first.held ready (before k small first.first) refl).0

    -- without it the others are held
    pub others_held : without_first (ready_in g run) (map report_of (filter is_held kept)) ≡ map report_of (filter is_held (slice_set kept k (let_go (kept_at kept k))))
    others_held =
        without_first-map report_of (ready_in g run) (filter is_held kept) ∙
        ap (map report_of) (first_marked is_held ready_kept kept k past (let_go (kept_at kept k)) first.within first.held ready (before k small first.first) refl).1

-- the last of a list is taken out where no other passes
pub without_last : (test : Report → Bool) (xs : List Report) (y : Report) → find test xs ≡ None → test y ≡ true → without_first test (xs ++ y ∷ []) ≡ xs
without_last test [] y h t = ap (λ b. cond b [] (y ∷ [])) t
without_last test (x ∷ xs) y h t = go (test x) (without_last test xs y) h
  where
    go : (b : Bool) → (find test xs ≡ None → test y ≡ true → without_first test (xs ++ y ∷ []) ≡ xs) → cond b (Some x) (find test xs) ≡ None → cond b (xs ++ y ∷ []) (x ∷ without_first test (xs ++ y ∷ [])) ≡ x ∷ xs
    go true ih q = absurd (cc)
    go false ih q = ap (λ l. x ∷ l) (ih q t)
