-- The parts of an inbox stay together.
use Rattle.std.proofs.Common.{◌≡◌, ℕ, ◌+◌, ◌-◌, ◌<◌, ◌≤◌, ◌^◌, ◌≢◌, Bool, true, not, ◌&&◌, List, [], ◌∷◌, ◌++◌, map, length, get_or, Option, IsPermutation, refl, ap, sym, ◌∙◌, subst, arith, ⊎_elim}
use Rattle.std.specs.Prelude.{◌==◌}
use Rattle.std.specs.List.{AllByRecursion, count_by, slice_set}
use Rattle.std.proofs.lemmas.Bool.{cases_eq, cases_lt}
use Rattle.std.proofs.lemmas.List.Sorted.{IsPermutation-refl}
use Rattle.std.proofs.lemmas.List.{length-set, map-append, length-append, get_or_default}
use Rattle.report_model.specs.Reports.{Report}
use Rattle.report_model.specs.Kept.{Kept, is_held, kept_at, let_go, IsFirstReady}
use Rattle.report_model.proofs.Marked.{same_made}
use Rattle.wf_inbox.specs.declared.inbox.Held.{Held}
use Rattle.wf_inbox.specs.Inboxes.{NoneReady, IsFirstHeld, IsFirstLetGo}
use Rattle.wf_inbox.specs.Places.{IsFirst}
use Rattle.wf_inbox.specs.Keeping.{AreTogether, subject_kept, is_due, made_ready, times}
use Rattle.report_model.proofs.Events.{number_same}
use Rattle.wf_inbox.proofs.Times.{one_if, first_times, times_popped, below_all, other_number}
use Rattle.wf_inbox.proofs.Due.{due_at, due_from, due_within, due_held, due_ready, is_due_from, due_set_same, due_set_other, held_set, due_more, held_more, made_subject, made_held, made_due, one_and, one_both}

-- where no place is ready, no report is
pub none_ready : (names : List (Option (List ℕ))) (kept : List Kept) (count : ℕ) (ready : List ℕ) → ready ≡ [] → AreTogether names kept ready count → NoneReady kept
none_ready names kept count ready e t j l h r =
    let a : times j ready ≡ 0 = ap (times j) e in
    let b : due_at kept j ≡ 1 = ap one_if (is_due_from (kept_at kept j) h r) in
    let c = t.places j in
    absurd (omega arith)

-- the report of the first place is there
pub first_within : (names : List (Option (List ℕ))) (kept : List Kept) (ready : List ℕ) (count p : ℕ) → AreTogether names kept ready count → IsFirst ready p → p < length kept
first_within names kept ready count p t f = let a = t.places p in let b = first_times p ready f in due_within kept p (due_from kept p (omega arith))

-- the least place is taken out
module _ (names : List (Option (List ℕ))) (kept : List Kept) (old new : List ℕ) (count p : ℕ) (t : AreTogether names kept old count)
    (taken : IsPermutation old (p ∷ new)) (least : AllByRecursion (λ q. p ≤ q) new) where
  pub is_ready : is_due (kept_at kept p) ≡ true
  is_ready =
      let a = t.places p in
      let b = times_popped p p old new taken in
      let c : one_if (p == p) ≡ 1 = ap one_if (number_same p) in
      due_from kept p (omega arith)

  pub is_within : p < length kept
  is_within = due_within kept p is_ready

  pub is_first : IsFirstReady kept p
  is_first = record {
    within = is_within;
    held = due_held (kept_at kept p) is_ready;
    ready = due_ready (kept_at kept p) is_ready;
    first = λ j l h r.
        let a : due_at kept j ≡ 1 = ap one_if (is_due_from (kept_at kept j) h r) in
        let b = t.places j in
        let c = times_popped j p old new taken in
        let d = below_all j p new l least in
        let n : j ≢ p = λ e. omega arith in
        let e : one_if (j == p) ≡ 0 = ap one_if (other_number j p n) in
        absurd (omega arith);
  }

  taken_held : count_by is_held (slice_set kept p (let_go (kept_at kept p))) + 1 ≡ count_by is_held kept
  taken_held =
      let a = held_set kept p (let_go (kept_at kept p)) is_within in
      let b : one_if (kept_at kept p).held ≡ 1 = ap one_if (due_held (kept_at kept p) is_ready) in
      omega arith

  pub some_held : 1 ≤ count
  some_held = let a = taken_held in let b = t.held in omega arith

  taken_places : (k : ℕ) → times k new ≡ due_at (slice_set kept p (let_go (kept_at kept p))) k
  taken_places k = ⊎_elim (λ e. here e) (λ n. there n) (cases_eq k p)
    where
      here : k ≡ p → times k new ≡ due_at (slice_set kept p (let_go (kept_at kept p))) k
      here e =
          let a = t.places p in
          let b = times_popped p p old new taken in
          let c : one_if (p == p) ≡ 1 = ap one_if (number_same p) in
          let d : due_at kept p ≡ 1 = ap one_if is_ready in
          let f = due_set_same kept p (let_go (kept_at kept p)) is_within in
          let g : times p new ≡ due_at (slice_set kept p (let_go (kept_at kept p))) p = let z : times p new ≡ 0 = omega arith in z ∙ sym f in
          subst (λ z. times z new ≡ due_at (slice_set kept p (let_go (kept_at kept p))) z) (sym e) g

      there : (k ≡ p → ⊥) → times k new ≡ due_at (slice_set kept p (let_go (kept_at kept p))) k
      there n =
          let a = t.places k in
          let b = times_popped k p old new taken in
          let c : one_if (k == p) ≡ 0 = ap one_if (other_number k p n) in
          let d = due_set_other kept p k (let_go (kept_at kept p)) n in
          omega arith

  pub taken_together : AreTogether names (slice_set kept p (let_go (kept_at kept p))) new (count - 1)
  taken_together = record {
    subjects = t.subjects ∙ sym (same_made subject_kept kept p _ (let_go (kept_at kept p)) refl);
    places = taken_places;
    held = let a = taken_held in let b = t.held in omega arith;
    few = subst (λ n. n ≤ 2 ^ 32) (sym (length-set kept p (let_go (kept_at kept p)))) t.few;
  }

-- the first place is the least, and so its report is the first that is ready
pub first_of_all : (names : List (Option (List ℕ))) (kept : List Kept) (ready : List ℕ) (count p : ℕ) → AreTogether names kept ready count → IsFirst ready p → AllByRecursion (λ q. p ≤ q) ready → IsFirstReady kept p
first_of_all names kept [] count p t f l = absurd (omega (arith, f.0))
first_of_all names kept (q ∷ ready) count p t f l = is_first names kept (q ∷ ready) ready count p t (subst (λ z. IsPermutation (q ∷ ready) (z ∷ ready)) (sym f.1) (IsPermutation-refl (q ∷ ready))) l.1

-- no other report is the first
pub one_first : (kept : List Kept) (j k : ℕ) → IsFirstReady kept j → IsFirstReady kept k → j ≡ k
one_first kept j k a b = ⊎_elim (λ e. e) (λ n. absurd (⊎_elim (λ l. b.first j l a.held a.ready) (λ l. let m : j ≢ k = n in a.first k (omega (arith, l, m)) b.held b.ready) (cases_lt j k))) (cases_eq j k)

-- the report of its place is held no longer
pub first_let_go : (kept : List Kept) (p : ℕ) (x y : Kept) → x ≡ kept_at kept p → IsFirstReady kept p → y ≡ let_go x → IsFirstLetGo kept (slice_set kept p y)
first_let_go kept p x y e first g k f =
    let at : p ≡ k = one_first kept p k first f in
    ap (slice_set kept p) (g ∙ ap let_go e) ∙ ap (λ j. slice_set kept j (let_go (kept_at kept j))) at

-- where none is ready none is the first
pub none_let_go : (kept : List Kept) → NoneReady kept → IsFirstLetGo kept kept
none_let_go kept none k f = absurd (none k f.within f.held f.ready)

-- where one is the first, one is ready
pub first_not_none : (kept : List Kept) (p : ℕ) → IsFirstReady kept p → NoneReady kept → ⊥
first_not_none kept p first none = none p first.within first.held first.ready

-- what is read at a place
pub read_at : (kept : List Kept) (p : ℕ) (x : Kept) → p < length kept → x ≡ get_or kept p x → x ≡ kept_at kept p
read_at kept p x l e = e ∙ get_or_default kept p x _ l

-- what the first report is
pub first_is : (kept : List Kept) (p : ℕ) (x : Kept) (h : Held) → x ≡ kept_at kept p → IsFirstReady kept p → h.line ≡ x.report.line → h.event ≡ x.report.event → IsFirstHeld kept h
first_is kept p x h e first l m =
    let r : ◌≡◌ {A = Report} x.report (record { line = h.line; event = h.event }) = λ t. record { line = sym l t; event = sym m t } in
    (p, first, ap (λ z. z.report) (sym e) ∙ r)

-- a report is made ready if it is held, and its place is put to the others if it was not ready
pub marked_together : (names : List (Option (List ℕ))) (kept : List Kept) (old new : List ℕ) (count i : ℕ) (x y : Kept) (newly : Bool) → AreTogether names kept old count → i < length kept → x ≡ kept_at kept i → y ≡ made_ready x →
    newly ≡ (x.held && not x.ready) → ((k : ℕ) → times k new ≡ times k old + one_if (newly && k == i)) → AreTogether names (slice_set kept i y) new count
marked_together names kept old new count i x y newly t l e f g h = record {
  subjects = t.subjects ∙ sym (same_made subject_kept kept i _ y (ap subject_kept f ∙ (made_subject x ∙ ap subject_kept e)));
  places = λ k. ⊎_elim (λ d. here k d) (λ n. there k n) (cases_eq k i);
  held =
      let a = held_set kept i y l in
      let b : y.held ≡ (kept_at kept i).held = ap (λ z. z.held) f ∙ (made_held x ∙ ap (λ z. z.held) e) in
      let c : one_if y.held ≡ one_if (kept_at kept i).held = ap one_if b in
      let d = t.held in
      omega arith;
  few = subst (λ n. n ≤ 2 ^ 32) (sym (length-set kept i y)) t.few;
}
  where
    here : (k : ℕ) → k ≡ i → times k new ≡ due_at (slice_set kept i y) k
    here k d =
        let a = h k in
        let b = t.places k in
        let c : one_if (newly && k == i) ≡ one_if newly = one_both newly (k == i) (ap (λ n. n == i) d ∙ number_same i) in
        let m : due_at kept k ≡ one_if (is_due x) = ap (due_at kept) d ∙ ap (λ z. one_if (is_due z)) (sym e) in
        let n : due_at (slice_set kept i y) k ≡ one_if (is_due (made_ready x)) = ap (due_at (slice_set kept i y)) d ∙ (due_set_same kept i y l ∙ ap (λ z. one_if (is_due z)) f) in
        let o = made_due x in
        let p : one_if newly ≡ one_if (x.held && not x.ready) = ap one_if g in
        omega arith

    there : (k : ℕ) → (k ≡ i → ⊥) → times k new ≡ due_at (slice_set kept i y) k
    there k n =
        let a = h k in
        let b = t.places k in
        let c = one_and newly (k == i) (other_number k i n) in
        let d = due_set_other kept i k y n in
        omega arith

-- one more report
pub more_together : (names names2 : List (Option (List ℕ))) (kept kept2 : List Kept) (old new : List ℕ) (count : ℕ) (r : Kept) → AreTogether names kept old count → names2 ≡ names ++ subject_kept r ∷ [] → kept2 ≡ kept ++ r ∷ [] →
    ((k : ℕ) → times k new ≡ times k old + one_if (is_due r && k == length kept)) → length kept < 2 ^ 32 → r.held ≡ true → AreTogether names2 kept2 new (count + 1)
more_together names names2 kept kept2 old new count r t e f h l held = record {
  subjects = e ∙ (ap (λ ns. ns ++ subject_kept r ∷ []) t.subjects ∙ (sym (map-append subject_kept kept (r ∷ [])) ∙ ap (map subject_kept) (sym f)));
  places = λ k.
      let a = h k in
      let b = t.places k in
      let c = due_more kept r k in
      let d : due_at kept2 k ≡ due_at (kept ++ r ∷ []) k = ap (λ ks. due_at ks k) f in
      omega arith;
  held =
      let a = held_more kept r in
      let b : count_by is_held kept2 ≡ count_by is_held (kept ++ r ∷ []) = ap (count_by is_held) f in
      let c : one_if r.held ≡ 1 = ap one_if held in
      let d = t.held in
      omega arith;
  few = let a : length kept2 ≡ length kept + 1 = ap length f ∙ length-append kept (r ∷ []) in omega arith;
}
