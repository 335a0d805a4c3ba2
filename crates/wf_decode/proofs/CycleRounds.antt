-- The continuing steps once round a cycle, from any of its places on.
use Rattle.std.proofs.Common.{◌≡◌, ◌≢◌, ℕ, suc, ◌<◌, IsTrue, List, [], ◌∷◌, ◌++◌, map, length, get_or, take, drop, Some, refl, sym, ap, ◌∙◌, subst, inl, inr, ⊎_elim, arith}
use Rattle.std.proofs.Math.Seq.{drop-cons}
use Rattle.std.proofs.lemmas.List.{length-take-le, take-append-drop}
use Rattle.wf_model.specs.Lists.{IsIn}
use Rattle.wf_model.specs.Grammar.{Grammar}
use Rattle.wf_model.specs.WellFormed.{IsWellFormed}
use Rattle.wf_model.specs.View.{View, expands, IsSeenModule}
use Rattle.wf_model.specs.Reach.{target_of, module_along}
use Rattle.wf_model.specs.Linear.{IsLinear, Continues, GoesOnBy}
use Rattle.wf_model.proofs.Lists.{in_append_left, in_append_right, in_append_cases}
use Rattle.wf_recur.specs.Cycles.{CyclesSeen, round_at, AreCyclesOf}
use Rattle.label_model.specs.Continuing.{after}
use Rattle.label_model.proofs.ContinuingSteps.{continuing_is}
use Rattle.wf_recur.proofs.Going.{by_more, by_same}
use Rattle.wf_recur.proofs.Places.{place_told, place_back_least}
use Rattle.wf_decode.proofs.ChainSteps.{length-round}
use Rattle.wf_decode.proofs.HeldRounds.{gone_round}
use Rattle.wf_model.specs.OpenRoutes.{IsOpenStep, IsOpenRoute}
use Rattle.decode_model.specs.Matrices.{IsOnceRound}
use Rattle.decode_model.specs.Rounds.{AreContinuing}
use Rattle.decode_model.proofs.Rounds.{continuing_take, along_after}
use Rattle.wf_model.proofs.OpenRoutes.{step_seen}
use Rattle.wf_decode.specs.HeldLegs.{step_by, step_on, module_on, round_from}

-- the modules follow one another by their continuing steps, from m, and the last leads to k
abbrev Follow : Grammar → CyclesSeen → ℕ → List ℕ → ℕ → Type 0
Follow g c m [] k = m ≡ k
Follow g c m (x ∷ xs) k = (x ≡ m) × Continues g m (step_on c m) × Follow g c (target_of g (step_on c m)) xs k

module _ (g : Grammar) (c : CyclesSeen) where
  follow_append : (m k n : ℕ) (xs ys : List ℕ) → Follow g c m xs k → Follow g c k ys n → Follow g c m (xs ++ ys) n
  follow_append m k n [] ys f h = subst (λ z. Follow g c z ys n) (sym f) h
  follow_append m k n (x ∷ xs) ys f h = (f.0, f.1, follow_append (target_of g (step_on c m)) k n xs ys f.2 h)

  follow_split : (m n : ℕ) (xs ys : List ℕ) → Follow g c m (xs ++ ys) n → (k : ℕ) × Follow g c m xs k × Follow g c k ys n
  follow_split m n [] ys f = (m, refl, f)
  follow_split m n (x ∷ xs) ys f = let r = follow_split (target_of g (step_on c m)) n xs ys f.2 in (r.0, (f.0, f.1, r.1), r.2)

  -- each leads to the next, so they follow one another
  follow_each : (k : ℕ) (x : ℕ) (xs : List ℕ) → ((i : ℕ) → i < length (x ∷ xs) → Continues g (get_or (x ∷ xs) i 0) (step_on c (get_or (x ∷ xs) i 0))) →
      ((i : ℕ) → suc i < length (x ∷ xs) → target_of g (step_on c (get_or (x ∷ xs) i 0)) ≡ get_or (x ∷ xs) (suc i) 0) →
      ((i : ℕ) → suc i ≡ length (x ∷ xs) → target_of g (step_on c (get_or (x ∷ xs) i 0)) ≡ k) → Follow g c x (x ∷ xs) k
  follow_each k x [] goes next last = (refl, goes 0 (omega arith), last 0 refl)
  follow_each k x (y ∷ xs) goes next last =
      let t : target_of g (step_on c x) ≡ y = next 0 (omega arith) in
      let rest = follow_each k y xs (λ i h. goes (suc i) (omega arith)) (λ i h. next (suc i) (omega arith)) (λ i h. last (suc i) (omega arith)) in
      (refl, goes 0 (omega arith), subst (λ z. Follow g c z (y ∷ xs) k) (sym t) rest)

  follow_continue : (m k : ℕ) (xs : List ℕ) → Follow g c m xs k → AreContinuing g m (map (step_on c) xs) × (module_along g m (map (step_on c) xs) ≡ k)
  follow_continue m k [] f = (tt, f)
  follow_continue m k (x ∷ xs) f =
      let r = follow_continue (target_of g (step_on c m)) k xs f.2 in
      subst (λ z. AreContinuing g m (step_on c z ∷ map (step_on c) xs) × (module_along g m (step_on c z ∷ map (step_on c) xs) ≡ k)) (sym f.0) ((f.1, r.0), r.1)

module _ (g : Grammar) (u : View) (c : CyclesSeen) where
  -- where their steps are open, the modules are expanded
  open_expanded : (m k : ℕ) (xs : List ℕ) → Follow g c m xs k → IsOpenRoute g u m (map (step_on c) xs) → (x : ℕ) → IsIn x xs → IsTrue (expands u x)
  open_expanded m k [] f o x h = absurd h
  open_expanded m k (y ∷ xs) f o x (inl e) = subst (λ z. IsTrue (expands u z)) (o.1 ∙ (sym f.0 ∙ sym e)) o.0.expanded
  open_expanded m k (y ∷ xs) f o x (inr h) =
      let t : target_of g (step_on c y) ≡ target_of g (step_on c m) = ap (λ z. target_of g (step_on c z)) f.0 in
      open_expanded (target_of g (step_on c m)) k xs f.2 (subst (λ z. IsOpenRoute g u z (map (step_on c) xs)) t o.2) x h

  -- where they are expanded, and the first of them is seen, their steps are open
  expanded_open : (m k : ℕ) (xs : List ℕ) → Follow g c m xs k → IsSeenModule g u m → ((x : ℕ) → IsIn x xs → IsTrue (expands u x)) → IsOpenRoute g u m (map (step_on c) xs)
  expanded_open m k [] f seen all = tt
  expanded_open m k (y ∷ xs) f seen all =
      let s = step_on c m in
      let st = f.1.0 in
      let o : IsOpenStep g u s = record {
        in_range = st.in_range;
        seen = subst (IsSeenModule g u) (sym st.head) seen;
        expanded = subst (λ z. IsTrue (expands u z)) (f.0 ∙ sym st.head) (all y (inl refl));
        position = st.position;
      } in
      let rest = expanded_open (target_of g s) k xs f.2 (step_seen g u s o) (λ x h. all x (inr h)) in
      subst (λ z. IsOpenRoute g u m (step_on c z ∷ map (step_on c) xs)) (sym f.0) (o, st.head, rest)

module _ (g : Grammar) (c : CyclesSeen) (wf : IsWellFormed g) (lin : IsLinear g) (cs : AreCyclesOf g c) where
  module _ (k : ℕ) (h : k < length c.rounds) where
    first_module : ℕ
    first_module = get_or (round_at c k) 0 0

    place_continues : (i : ℕ) → i < length (round_at c k) → Continues g (module_on c k i) (step_on c (module_on c k i))
    place_continues i l =
        let o = place_told g c wf lin cs k i h l in
        continuing_is g (module_on c k i) (step_on c (module_on c k i)) (o.2 ∙ ap (λ z. Some (step_by z)) (sym o.1))

    goes_next : (i : ℕ) → i < length (round_at c k) → GoesOnBy g (suc i) first_module (target_of g (step_on c (module_on c k i)))
    unfolding first_module
    goes_next i l = by_more g i first_module (module_on c k i) (target_of g (step_on c (module_on c k i))) ((cs.rounds k h).places i l).0 (step_on c (module_on c k i), place_continues i l, refl)

    round_follows : Follow g c first_module (round_at c k) first_module
    unfolding first_module
    round_follows = go (round_at c k) refl
      where
        go : (xs : List ℕ) → round_at c k ≡ xs → Follow g c (get_or xs 0 0) xs (get_or xs 0 0)
        go [] e = refl
        go (x ∷ xs) e =
            let same : (i : ℕ) → module_on c k i ≡ get_or (x ∷ xs) i 0 = λ i. ap (λ z. get_or z i 0) e in
            let n : length (round_at c k) ≡ length (x ∷ xs) = ap length e in
            follow_each g c x x xs
            (λ i l. subst (λ z. Continues g z (step_on c z)) (same i) (place_continues i (omega arith)))
            (λ i l. by_same g lin (suc i) first_module _ _ (subst (λ z. GoesOnBy g (suc i) first_module (target_of g (step_on c z))) (same i) (goes_next i (omega arith))) (subst (GoesOnBy g (suc i) first_module) (same (suc i)) ((cs.rounds k h).places (suc i) (omega arith)).0))
            (λ i l. by_same g lin (suc i) first_module _ _ (subst (λ z. GoesOnBy g (suc i) first_module (target_of g (step_on c z))) (same i) (goes_next i (omega arith)))
            (subst (λ z. GoesOnBy g z first_module x) (n ∙ sym l) (subst (GoesOnBy g (length (round_at c k)) first_module) (same 0) (cs.rounds k h).whole.1)))

    module _ (j : ℕ) (l : j < length (round_at c k)) where
      -- from its first place to the place j, and from there back to the first
      parts_follow : Follow g c first_module (take j (round_at c k)) (module_on c k j) × Follow g c (module_on c k j) (drop j (round_at c k)) first_module
      parts_follow =
          let round = round_at c k in
          let r = follow_split g c first_module first_module (take j round) (drop j round) (subst (λ z. Follow g c first_module z first_module) (sym (take-append-drop j round)) round_follows) in
          let at : module_on c k j ≡ r.0 = (subst (λ z. Follow g c r.0 z first_module) (drop-cons round j 0 l) r.2).0 in
          subst (λ z. Follow g c first_module (take j round) z × Follow g c z (drop j round) first_module) (sym at) (r.1, r.2)

      turned_follows : Follow g c (module_on c k j) (drop j (round_at c k) ++ take j (round_at c k)) (module_on c k j)
      turned_follows = follow_append g c (module_on c k j) first_module (module_on c k j) (drop j (round_at c k)) (take j (round_at c k)) parts_follow.1 parts_follow.0

      turned_in : (x : ℕ) → IsIn x (drop j (round_at c k) ++ take j (round_at c k)) → IsIn x (round_at c k)
      turned_in x i =
          let round = round_at c k in
          subst (IsIn x) (take-append-drop j round) (⊎_elim (in_append_right x (take j round) (drop j round)) (in_append_left x (take j round) (drop j round)) (in_append_cases x (drop j round) (take j round) i))

      in_turned : (x : ℕ) → IsIn x (round_at c k) → IsIn x (drop j (round_at c k) ++ take j (round_at c k))
      in_turned x i =
          let round = round_at c k in
          ⊎_elim (in_append_right x (drop j round) (take j round)) (in_append_left x (drop j round) (take j round)) (in_append_cases x (take j round) (drop j round) (subst (IsIn x) (sym (take-append-drop j round)) i))

      -- no fewer steps lead back to the place
      turned_least : (n : ℕ) → 0 < n → n < length (round_from c k j) → module_along g (module_on c k j) (take n (round_from c k j)) ≢ module_on c k j
      turned_least n some few back =
          let m = module_on c k j in
          let steps = take n (round_from c k j) in
          let many : length steps ≡ n = length-take-le n (round_from c k j) (omega arith) in
          let led = along_after g wf lin m steps (continuing_take g m n (round_from c k j) (gone_round g c wf lin cs k j h l).continuing) ∙ ap (λ z. after g z m) many in
          let whole = place_back_least g c wf lin cs k j n h l some (sym led ∙ back) in
          let e = length-round c k j l in
          absurd (omega arith)

      module _ (u : View) where
        -- a cycle that is expanded whole, and seen at the place, can be gone round from there
        pub whole_round : IsSeenModule g u (module_on c k j) → ((x : ℕ) → IsIn x (round_at c k) → IsTrue (expands u x)) → IsOnceRound g u (module_on c k j) (round_from c k j)
        whole_round seen all =
            let lt = length-round c k j l in
            record {
              goes_round = gone_round g c wf lin cs k j h l;
              some = omega arith;
              least = turned_least;
              open_route = expanded_open g u c (module_on c k j) (module_on c k j) (drop j (round_at c k) ++ take j (round_at c k)) turned_follows seen (λ x i. all x (turned_in x i));
            }

        -- and where the steps of a round are open, the cycle is expanded whole
        pub round_whole : IsOpenRoute g u (module_on c k j) (round_from c k j) → (x : ℕ) → IsIn x (round_at c k) → IsTrue (expands u x)
        round_whole o x i = open_expanded g u c (module_on c k j) (module_on c k j) (drop j (round_at c k) ++ take j (round_at c k)) turned_follows o x (in_turned x i)
