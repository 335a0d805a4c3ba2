-- A search by steps, as it goes on.
use Rattle.std.proofs.Common.{◌≡◌, ℕ, zero, suc, ◌+◌, ◌-◌, ◌<◌, ◌≤◌, Bool, true, false, List, [], ◌∷◌, ◌++◌, length, get_or, replicate, refl, sym, ap, ◌∙◌, subst, ⊎_elim, arith, length-append}
use Rattle.std.proofs.lemmas.List.{get_or_append_left, length-replicate}
use Rattle.std.proofs.Math.Seq.{get_or-append_right}
use Rattle.std.proofs.lemmas.Bool.{cases_lt, cases_eq}
use Rattle.wf_model.specs.Lists.{IsIn}
use Rattle.wf_model.proofs.Lists.{in_at, at_is, at_below, at_in, is_at}
use Rattle.wf_graph.specs.Routes.{place_of}
use Rattle.wf_graph.specs.Search.{MetAll}
use Rattle.wf_graph.specs.Trails.{IsTrail, IsTracked}

get_or-replicate : (n k x : ℕ) → k < n → get_or (replicate n x) k 0 ≡ x
get_or-replicate zero k x h = absurd (omega arith)
get_or-replicate (suc n) zero x h = refl
get_or-replicate (suc n) (suc k) x h = let r : k < n = omega arith in get_or-replicate n k x r

-- a search that has met nothing by a step
pub tracked_none : (row : ℕ → List ℕ) (n from : ℕ) (m : List Bool) (q came : List ℕ) → length m ≡ n → ((v : ℕ) → get_or m v false ≡ true → ⊥) → q ≡ from ∷ [] → came ≡ 0 ∷ [] → IsTracked row n from m q came 0
tracked_none row n from m q came count none is noted =
    let one : length q ≡ 1 = ap length is in
    record {
      count_is = count;
      some = omega arith;
      within = omega arith;
      trail = record {
        each = ap length noted ∙ sym one;
        first = ap (λ l. get_or l 0 0) is;
        back = λ j p l. absurd (omega arith);
        gone = λ j p l. absurd (omega arith);
        led = λ j p l. absurd (omega arith);
        rising = λ i j p l h. absurd (omega arith);
        order = λ i j p l h. absurd (omega arith);
        closed = λ k h. absurd (omega arith);
      };
      marked = λ v h. absurd (none v h);
      queued = λ j p l. absurd (omega arith);
    }

-- The search has gone on from one vertex more
module _ (row : ℕ → List ℕ) (n from : ℕ) (m : List Bool) (q came : List ℕ) (done : ℕ) (s : IsTracked row n from m q came done) (some : done < length q)
    (m' : List Bool) (q' came' : List ℕ) (a : MetAll m q (row (get_or q done 0)) m' q') (noted : came' ≡ came ++ replicate (length q' - length came) done) where
  t : IsTrail row from q came done
  t = s.trail

  longer : length q' ≡ length q + length a.more
  longer = ap length a.appended ∙ length-append q a.more

  each_more : length came' ≡ length q'
  each_more = omega (arith, ap length noted, length-append came (replicate (length q' - length came) done), length-replicate (length q' - length came) done, longer, t.each)

  old : (k : ℕ) → k < length q → get_or q' k 0 ≡ get_or q k 0
  old k l = ap (λ z. get_or z k 0) a.appended ∙ get_or_append_left q a.more 0 k l

  new : (k : ℕ) → length q ≤ k → get_or q' k 0 ≡ get_or a.more (k - length q) 0
  new k l = ap (λ z. get_or z k 0) a.appended ∙ get_or-append_right q a.more k 0 l

  came_old : (k : ℕ) → k < length q → get_or came' k 0 ≡ get_or came k 0
  came_old k l = ap (λ z. get_or z k 0) noted ∙ get_or_append_left came (replicate (length q' - length came) done) 0 k (omega (arith, t.each))

  came_new : (k : ℕ) → length q ≤ k → k < length q' → get_or came' k 0 ≡ done
  came_new k l h =
      let e = t.each in
      let c : length came ≤ k = omega arith in
      let d : k - length came < length q' - length came = omega arith in
      ap (λ z. get_or z k 0) noted ∙ (get_or-append_right came (replicate (length q' - length came) done) k 0 c ∙ get_or-replicate (length q' - length came) (k - length came) done d)

  new_in : (k : ℕ) → length q ≤ k → k < length q' → IsIn (get_or q' k 0) a.more
  new_in k l h =
      let i = k - length q in
      let there : i < length a.more = omega (arith, longer) in
      subst (λ z. IsIn z a.more) (sym (new k l)) (at_in (get_or a.more i 0) i a.more (is_at i a.more 0 there))

  -- where a vertex of the earlier queue came from is there too
  origin : (j : ℕ) → 0 < j → j < length q → get_or q' (get_or came' j 0) 0 ≡ get_or q (get_or came j 0) 0
  origin j p l =
      let b = t.back j p l in
      let h : get_or came j 0 < length q = omega arith in
      ap (λ k. get_or q' k 0) (came_old j l) ∙ old (get_or came j 0) h

  origin_new : (j : ℕ) → length q ≤ j → j < length q' → get_or q' (get_or came' j 0) 0 ≡ get_or q done 0
  origin_new j l h = ap (λ k. get_or q' k 0) (came_new j l h) ∙ old done some

  back : (j : ℕ) → 0 < j → j < length q' → get_or came' j 0 < j
  back j p h = ⊎_elim (λ l. omega (arith, came_old j l, t.back j p l)) (λ l. omega (arith, came_new j l h)) (cases_lt j (length q))

  gone : (j : ℕ) → 0 < j → j < length q' → get_or came' j 0 < done + 1
  gone j p h = ⊎_elim (λ l. omega (arith, came_old j l, t.gone j p l)) (λ l. omega (arith, came_new j l h)) (cases_lt j (length q))

  led : (j : ℕ) → 0 < j → j < length q' → IsIn (get_or q' j 0) (row (get_or q' (get_or came' j 0) 0))
  led j p h = ⊎_elim
      (λ l. subst (λ z. IsIn z (row (get_or q' (get_or came' j 0) 0))) (sym (old j l)) (subst (λ z. IsIn (get_or q j 0) (row z)) (sym (origin j p l)) (t.led j p l)))
      (λ l. subst (λ z. IsIn (get_or q' j 0) (row z)) (sym (origin_new j l h)) (a.from_list (get_or q' j 0) (new_in j l h)))
      (cases_lt j (length q))

  rising : (i j : ℕ) → 0 < i → i < j → j < length q' → get_or came' i 0 ≤ get_or came' j 0
  rising i j p l h = ⊎_elim
      (λ y. let x : i < length q = omega arith in omega (arith, came_old i x, came_old j y, t.rising i j p l y))
      (λ y. ⊎_elim
      (λ x. omega (arith, came_old i x, came_new j y h, t.gone i p x))
      (λ x. let k : i < length q' = omega arith in omega (arith, came_new i x k, came_new j y h))
      (cases_lt i (length q)))
      (cases_lt j (length q))

  order : (i j : ℕ) → 0 < i → i < j → j < length q' → get_or came' i 0 ≡ get_or came' j 0 → place_of (get_or q' i 0) (row (get_or q' (get_or came' j 0) 0)) < place_of (get_or q' j 0) (row (get_or q' (get_or came' j 0) 0))
  order i j p l h e = ⊎_elim
      (λ y.
      let x : i < length q = omega arith in
      let positive : 0 < j = omega arith in
      let same : get_or came i 0 ≡ get_or came j 0 = sym (came_old i x) ∙ (e ∙ came_old j y) in
      subst (λ v. place_of (get_or q' i 0) (row v) < place_of (get_or q' j 0) (row v)) (sym (origin j positive y))
      (subst (λ z. place_of z (row (get_or q (get_or came j 0) 0)) < place_of (get_or q' j 0) (row (get_or q (get_or came j 0) 0))) (sym (old i x))
      (subst (λ z. place_of (get_or q i 0) (row (get_or q (get_or came j 0) 0)) < place_of z (row (get_or q (get_or came j 0) 0))) (sym (old j y)) (t.order i j p l y same))))
      (λ y. ⊎_elim
      (λ x. absurd (omega (arith, came_old i x, came_new j y h, t.gone i p x, e)))
      (λ x.
      let i' = i - length q in
      let j' = j - length q in
      let lt : i' < j' = omega arith in
      let there : j' < length a.more = omega (arith, longer) in
      subst (λ v. place_of (get_or q' i 0) (row v) < place_of (get_or q' j 0) (row v)) (sym (origin_new j y h))
      (subst (λ z. place_of z (row (get_or q done 0)) < place_of (get_or q' j 0) (row (get_or q done 0))) (sym (new i x))
      (subst (λ z. place_of (get_or a.more i' 0) (row (get_or q done 0)) < place_of z (row (get_or q done 0))) (sym (new j y)) (a.order i' j' lt there))))
      (cases_lt i (length q)))
      (cases_lt j (length q))

  -- what is marked now was met
  met : (v : ℕ) → get_or m' v false ≡ true → (j : ℕ) × (0 < j) × (j < length q') × (get_or q' j 0 ≡ v) × (get_or came' j 0 ≤ done)
  met v h = ⊎_elim
      (λ o.
      let r = s.marked v o in
      (r.0, r.1, omega (arith, longer, r.2), old r.0 r.2 ∙ r.3, omega (arith, came_old r.0 r.2, t.gone r.0 r.1 r.2)))
      (λ i.
      let k = in_at v a.more i in
      let there = at_below v k.0 a.more k.1 in
      let j = length q + k.0 in
      let l : length q ≤ j = omega arith in
      let less : j < length q' = omega (arith, longer) in
      let d : j - length q ≡ k.0 = omega arith in
      (j, omega arith, less, new j l ∙ (ap (λ z. get_or a.more z 0) d ∙ at_is v k.0 a.more 0 k.1), omega (arith, came_new j l less)))
      (a.new_marks v h)

  closed : (k : ℕ) → k < done + 1 → (w : ℕ) → IsIn w (row (get_or q' k 0)) → (j : ℕ) × (0 < j) × (j < length q') × (get_or q' j 0 ≡ w) × (get_or came' j 0 ≤ k)
  closed k h w i = ⊎_elim
      (λ (d : k ≡ done).
      let there = subst (λ v. IsIn w (row v)) (ap (λ z. get_or q' z 0) d ∙ old done some) i in
      let r = met w (a.each w there) in
      (r.0, r.1, r.2, r.3, omega (arith, r.4, d)))
      (λ d.
      let l : k < done = omega (arith, d) in
      let less : k < length q = omega arith in
      let r = t.closed k l w (subst (λ v. IsIn w (row v)) (old k less) i) in
      (r.0, r.1, omega (arith, longer, r.2), old r.0 r.2 ∙ r.3, omega (arith, came_old r.0 r.2, r.4)))
      (cases_eq k done)

  queued : (j : ℕ) → 0 < j → j < length q' → get_or m' (get_or q' j 0) false ≡ true
  queued j p h = ⊎_elim
      (λ l. subst (λ v. get_or m' v false ≡ true) (sym (old j l)) (a.old_marks (get_or q j 0) (s.queued j p l)))
      (λ l. a.marks_more (get_or q' j 0) (new_in j l h))
      (cases_lt j (length q))

  pub tracked_more : IsTracked row n from m' q' came' (done + 1)
  tracked_more = record {
    count_is = a.count ∙ s.count_is;
    some = omega (arith, longer, s.some);
    within = omega (arith, longer);
    trail = record {
      each = each_more;
      first = old 0 s.some ∙ t.first;
      back = back;
      gone = gone;
      led = led;
      rising = rising;
      order = order;
      closed = closed;
    };
    marked = λ v h. let r = met v h in (r.0, r.1, r.2, r.3);
    queued = queued;
  }
