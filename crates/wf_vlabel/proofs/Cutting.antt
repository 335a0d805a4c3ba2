-- Where chains leave what is expanded, place by place.
use Rattle.std.proofs.Common.{◌≡◌, ◌≢◌, ℕ, zero, suc, ◌+◌, ◌%◌, ◌<◌, ◌≤◌, Bool, true, false, IsTrue, List, length, get_or, set, IfSome, Option, Some, None, refl, sym, ap, ◌∙◌, subst, inl, inr, arith}
use Rattle.std.proofs.lemmas.List.{get_or-set_same, get_or-set_other}
use Rattle.std.proofs.lemmas.Bool.{cases_eq}
use Rattle.wf_model.specs.Grammar.{Grammar}
use Rattle.wf_model.specs.WellFormed.{IsWellFormed}
use Rattle.wf_model.specs.Linear.{IsLinear}
use Rattle.label_model.specs.Continuing.{continuing, after}
use Rattle.label_model.proofs.Periods.{after-add}
use Rattle.wf_recur.specs.Cycles.{CyclesSeen, round_at, least_of, AreCyclesOf}
use Rattle.wf_recur.proofs.Places.{stands_somewhere, place_from_first, rounds_left_out}
use Rattle.wf_vlabel.specs.Cuts.{IsCut, IsCutWithin, cut_before}

-- no steps lead to fewer modules than none
pub cut_none : (g : Grammar) (e : ℕ → Bool) (m : ℕ) → IsCutWithin g e m 0 None
cut_none g e m k l = absurd (omega arith)

-- one step earlier
pub cut_step : (g : Grammar) (e : ℕ → Bool) (m bound : ℕ) (o : Option ℕ) → IsCutWithin g e (after g 1 m) bound o → IsCutWithin g e m (suc bound) (cut_before (e m) o)
cut_step g e m bound o h = go (e m) refl o h
  where
    go : (b : Bool) → e m ≡ b → (o : Option ℕ) → IsCutWithin g e (after g 1 m) bound o → IsCutWithin g e m (suc bound) (cut_before b o)
    go false x o h = (omega arith, x, λ k l. absurd (omega arith))
    go true x None h = each
      where
        each : (k : ℕ) → k < suc bound → IsTrue (e (after g k m))
        each zero l = x
        each (suc k) l = h k (omega arith)
    go true x (Some n) h =
        let one : n + 1 ≡ suc n = omega arith in
        let low = h.0 in
        (omega arith, ap (λ k. e (after g k m)) one ∙ h.1, each)
      where
        each : (k : ℕ) → k < n + 1 → IsTrue (e (after g k m))
        each zero l = x
        each (suc k) l = h.2 k (omega arith)

-- what lies within a whole round is all
pub cut_whole : (g : Grammar) (t : CyclesSeen) (c j : ℕ) (e : ℕ → Bool) (bound : ℕ) (o : Option ℕ) → IsWellFormed g → IsLinear g → AreCyclesOf g t → c < length t.rounds → j < length (round_at t c) → length (round_at t c) ≤ bound →
    IsCutWithin g e (get_or (round_at t c) j 0) bound o → IsCut g e (get_or (round_at t c) j 0) o
cut_whole g t c j e bound (Some n) wf lin h i l b w = (w.1, w.2)
cut_whole g t c j e bound None wf lin h i l b w = λ k.
    let r : k % length (round_at t c) < bound = omega arith in
    subst (λ z. IsTrue (e z)) (sym (rounds_left_out g t wf lin h c j k i l)) (w (k % length (round_at t c)) r)

-- one place earlier on a cycle
pub cut_place : (g : Grammar) (t : CyclesSeen) (c j : ℕ) (e : ℕ → Bool) (bound : ℕ) (o : Option ℕ) → IsWellFormed g → IsLinear g → AreCyclesOf g t → c < length t.rounds → j < length (round_at t c) →
    IsCutWithin g e (after g (suc j) (least_of (round_at t c))) bound o → IsCutWithin g e (after g j (least_of (round_at t c))) (suc bound) (cut_before (e (get_or (round_at t c) j 0)) o)
cut_place g t c j e bound o wf lin h i l w =
    let first = least_of (round_at t c) in
    let one : suc j ≡ j + 1 = omega arith in
    subst (λ z. IsCutWithin g e (after g j first) (suc bound) (cut_before (e z) o)) (place_from_first g t wf lin h c j i l)
    (cut_step g e (after g j first) bound o (subst (λ z. IsCutWithin g e z bound o) (ap (λ z. after g z first) one ∙ after-add g j 1 first) w))

-- what is found lies within the bound
pub cut_few : (g : Grammar) (e : ℕ → Bool) (m bound limit : ℕ) (o : Option ℕ) → IsCutWithin g e m bound o → bound ≤ limit → IfSome o (λ n. n < limit)
cut_few g e m bound limit None h l = tt
cut_few g e m bound limit (Some n) h l = let low = h.0 in omega arith

-- going backwards: what is told at a place is told at the one before
pub cut_back : (g : Grammar) (t : CyclesSeen) (c : ℕ) (e : ℕ → Bool) (place j total m : ℕ) (o next : Option ℕ) → IsWellFormed g → IsLinear g → AreCyclesOf g t → c < length t.rounds →
    place ≡ suc j → place ≤ length (round_at t c) → length (round_at t c) ≤ total → m ≡ get_or (round_at t c) j 0 → next ≡ cut_before (e m) o →
    ((b : ℕ) → place + b ≡ total → IsCutWithin g e (after g place (least_of (round_at t c))) b o) →
    (b : ℕ) → j + b ≡ total → IsCutWithin g e (after g j (least_of (round_at t c))) b next
cut_back g t c e place j total m o next wf lin h i one low high is n w zero s = absurd (omega arith)
cut_back g t c e place j total m o next wf lin h i one low high is n w (suc b) s =
    let first = least_of (round_at t c) in
    subst (IsCutWithin g e (after g j first) (suc b)) (sym (n ∙ ap (λ z. cut_before (e z) o) is))
    (cut_place g t c j e b o wf lin h i (omega arith) (subst (λ z. IsCutWithin g e (after g z first) b o) one (w b (omega arith))))

-- what was right of a module stays right
pub cut_kept : (g : Grammar) (e : ℕ → Bool) (cuts : List (Option ℕ)) (at m : ℕ) (o : Option ℕ) → IsCut g e at o → at < length cuts → IsCut g e m (get_or cuts m None) → IsCut g e m (get_or (set cuts at o) m None)
cut_kept g e cuts at m o h l old =
    elim (cases_eq m at) [
      | inl is ↦ subst (λ z. IsCut g e z (get_or (set cuts at o) z None)) (sym is) (subst (IsCut g e at) (sym (get_or-set_same cuts at o None l)) h)
      | inr not ↦ subst (IsCut g e m) (sym (get_or-set_other cuts at m o None not)) old
    ]

-- one place more of a cycle is told
pub cut_told : (g : Grammar) (e : ℕ → Bool) (round : List ℕ) (cuts : List (Option ℕ)) (place size : ℕ) (o : Option ℕ) → IsCut g e (get_or round place 0) o → get_or round place 0 < length cuts →
    ((j : ℕ) → suc place ≤ j → j < size → IsCut g e (get_or round j 0) (get_or cuts (get_or round j 0) None)) →
    (j : ℕ) → place ≤ j → j < size → IsCut g e (get_or round j 0) (get_or (set cuts (get_or round place 0) o) (get_or round j 0) None)
cut_told g e round cuts place size o h l told j low high =
    elim (cases_eq j place) [
      | inl is ↦ subst (λ z. IsCut g e (get_or round z 0) (get_or (set cuts (get_or round place 0) o) (get_or round z 0) None)) (sym is) (subst (IsCut g e (get_or round place 0)) (sym (get_or-set_same cuts (get_or round place 0) o None l)) h)
      | inr not ↦ cut_kept g e cuts (get_or round place 0) (get_or round j 0) o h l (told j (omega arith) high)
    ]

-- the modules of one cycle more are told
pub cuts_more : (g : Grammar) (t : CyclesSeen) (e : ℕ → Bool) (c : ℕ) (old new : List (Option ℕ)) →
    ((m : ℕ) → IsCut g e m (get_or old m None) → IsCut g e m (get_or new m None)) →
    ((j : ℕ) → j < length (round_at t c) → IsCut g e (get_or (round_at t c) j 0) (get_or new (get_or (round_at t c) j 0) None)) →
    ((k j : ℕ) → k < c → j < length (round_at t k) → IsCut g e (get_or (round_at t k) j 0) (get_or old (get_or (round_at t k) j 0) None)) →
    (k j : ℕ) → k < c + 1 → j < length (round_at t k) → IsCut g e (get_or (round_at t k) j 0) (get_or new (get_or (round_at t k) j 0) None)
cuts_more g t e c old new kept told before k j l h =
    elim (cases_eq k c) [
      | inl is ↦ subst (λ z. (i : ℕ) → i < length (round_at t z) → IsCut g e (get_or (round_at t z) i 0) (get_or new (get_or (round_at t z) i 0) None)) (sym is) told j h
      | inr not ↦ kept (get_or (round_at t k) j 0) (before k j (omega arith) h)
    ]

-- they are all the modules that continue
pub cuts_all : (g : Grammar) (t : CyclesSeen) (e : ℕ → Bool) (cuts : List (Option ℕ)) → AreCyclesOf g t →
    ((k j : ℕ) → k < length t.rounds → j < length (round_at t k) → IsCut g e (get_or (round_at t k) j 0) (get_or cuts (get_or (round_at t k) j 0) None)) →
    (m : ℕ) → m < length g.modules → continuing g m ≢ None → IsCut g e m (get_or cuts m None)
cuts_all g t e cuts h told m i n =
    let o = stands_somewhere g t h m i n in
    let s = h.on_one m o.0 o.1 in
    subst (λ z. IsCut g e z (get_or cuts z None)) s.is (told o.0.cycle o.0.place s.cycle s.place)
