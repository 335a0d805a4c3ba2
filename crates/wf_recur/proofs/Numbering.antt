-- Cycles are numbered by their least modules.
use Rattle.std.proofs.Common.{◌≡◌, ℕ, suc, ◌+◌, ◌<◌, ◌≤◌, ◌⊎◌, ◌∙◌, List, [], ◌∷◌, ◌++◌, map, length, get_or, Option, None, Some, refl, sym, ap, subst, inl, ⊎_elim, arith}
use Rattle.std.proofs.lemmas.List.{get_or_append_left, get_or_push, length_push, map_push, get_or_past}
use Rattle.std.proofs.lemmas.Bool.{cases_lt}
use Rattle.wf_model.specs.Lists.{IsIn, Walk}
use Rattle.wf_model.specs.Grammar.{Grammar}
use Rattle.wf_model.specs.WellFormed.{IsWellFormed}
use Rattle.wf_model.specs.Linear.{IsLinear, IsOnCycle, GoesOn, GoesOnBy, IsLeast}
use Rattle.wf_model.proofs.Lists.{in_append_left, in_append_right, in_append_cases, in_map, at_in, at_below, is_at}
use Rattle.wf_model.proofs.Positions.{each_more, at_push}
use Rattle.wf_recur.specs.Cycles.{OnSeen, least_of, IsRound, StandsAt, AreCyclesOf}
use Rattle.wf_recur.specs.Rounds.{IsPlaced, IsPlaceOn, ArePlaced, IsRoundFrom, AreCyclesBelow, AreRoundsBelow}
use Rattle.wf_recur.proofs.Going.{walks_back, walk_on_cycle, by_walk, by_more, by_same}
use Rattle.wf_recur.proofs.Telling.{continues_below}
use Rattle.wf_recur.proofs.Ways.{less_or_same, none_some, closed_walk}

-- the least modules, with a new one
leasts_more : (g : Grammar) (n : ℕ) (leasts : List ℕ) → AreCyclesBelow g n leasts → IsLeast g n → AreCyclesBelow g (n + 1) (leasts ++ n ∷ [])
leasts_more g n leasts below least = record {
  in_order = λ j k a b h i l. ⊎_elim
      (λ l'. ⊎_elim (λ i'. below.in_order j k a b h i' l') (λ r. absurd (let q = at_below b k leasts l' in let e = r.0 in omega arith)) (at_push a j leasts n i))
      (λ r. ⊎_elim (λ i'. (let q = below.below a (at_in a j leasts i') in let e = r.1 in omega arith)) (λ s. absurd (let e = r.0 in let f = s.0 in omega arith)) (at_push a j leasts n i))
      (at_push b k leasts n l);
  below = λ m i. ⊎_elim (λ h. (let q = below.below m h in omega arith)) (λ h. ⊎_elim (λ (e : m ≡ n). omega arith) (λ z. absurd z) h) (in_append_cases m leasts (n ∷ []) i);
  each = λ m i. ⊎_elim (λ h. below.each m h) (λ h. ⊎_elim (λ (e : m ≡ n). subst (IsLeast g) (sym e) least) (λ z. absurd z) h) (in_append_cases m leasts (n ∷ []) i);
  all = λ m h i. ⊎_elim (λ l. in_append_left m leasts (n ∷ []) (below.all m l i)) (λ e. in_append_right m leasts (n ∷ []) (inl e)) (less_or_same m n h);
}

-- and with none
leasts_same : (g : Grammar) (n : ℕ) (leasts : List ℕ) → AreCyclesBelow g n leasts → (IsLeast g n → IsIn n leasts) → AreCyclesBelow g (n + 1) leasts
leasts_same g n leasts below known = record {
  in_order = below.in_order;
  below = λ m i. (let q = below.below m i in omega arith);
  each = below.each;
  all = λ m h i. ⊎_elim (λ l. below.all m l i) (λ (e : m ≡ n). subst (λ k. IsIn k leasts) (sym e) (known (subst (IsLeast g) e i))) (less_or_same m n h);
}

module _ (g : Grammar) (n : ℕ) (rounds : List (List ℕ)) (on : List (Option OnSeen)) (below : AreRoundsBelow g n rounds on) where
  -- the least module of the round on which a module stands leads to it
  from_least : (m : ℕ) (o : OnSeen) → get_or on m None ≡ Some o → Walk (GoesOn g) (least_of (get_or rounds o.cycle [])) m
  from_least m o e =
      let s = below.stands m o e in
      let l = least_of (get_or rounds o.cycle []) in
      let way = ((below.each o.cycle s.cycle).places o.place s.place).0 in
      by_walk g o.place l m (subst (GoesOnBy g o.place l) s.is way)

  least_known : (m : ℕ) (o : OnSeen) → get_or on m None ≡ Some o → IsIn (least_of (get_or rounds o.cycle [])) (map least_of rounds)
  least_known m o e =
      let s = below.stands m o e in
      in_map least_of (get_or rounds o.cycle []) rounds (at_in (get_or rounds o.cycle []) o.cycle rounds (is_at o.cycle rounds [] s.cycle))

  -- a module that has a place is the least of its cycle only if it is known
  placed_known : (m : ℕ) → IsPlaced on m → IsLeast g m → IsIn m (map least_of rounds)
  placed_known m p least =
      let l = least_of (get_or rounds p.0.cycle []) in
      let w = from_least m p.0 p.1 in
      let i = least_known m p.0 p.1 in
      let a : l ≤ m = (below.leasts.each l i).1 m w in
      let b : m ≤ l = least.1 l (walks_back g w) in
      let e : l ≡ m = omega arith in
      subst (λ k. IsIn k (map least_of rounds)) e i

  -- a module that has a place, or stands on no cycle, begins no round
  pub rounds_same : IsPlaced on n ⊎ ¬ IsOnCycle g n → AreRoundsBelow g (n + 1) rounds on
  rounds_same met = record {
    few = (let q = below.few in omega arith);
    leasts = leasts_same g n (map least_of rounds) below.leasts (λ least. placed_known n (place least.0) least);
    each = below.each;
    short = below.short;
    one_each = below.one_each;
    stands = below.stands;
    placed = λ m h c. ⊎_elim (λ l. below.placed m l c) (λ (e : m ≡ n). subst (IsPlaced on) (sym e) (place (subst (IsOnCycle g) e c))) (less_or_same m n h);
    closed = below.closed;
  }
    where
      place : IsOnCycle g n → IsPlaced on n
      place c = ⊎_elim (λ p. p) (λ no. absurd (no c)) met

  module _ (linear : IsLinear g) (round : List ℕ) (after : List (Option OnSeen)) (cycle : IsOnCycle g n) (none : get_or on n None ≡ None) (found : IsRoundFrom g n round) (placed : ArePlaced g (length rounds) round on after) where
    is_least : IsLeast g n
    is_least = (
      cycle,
      λ k w. ⊎_elim
          (λ l. absurd (let p = closed_walk g on below.closed (walks_back g w) (below.placed k l (walk_on_cycle g (walks_back g w) cycle)) in none_some (get_or on n None) p.0 none p.1))
          (λ l. l)
          (cases_lt k n),
    )

    size : length (rounds ++ round ∷ []) ≡ length rounds + 1
    size = length_push rounds round

    each_round : (k : ℕ) → k < length rounds + 1 → IsRound g (get_or (rounds ++ round ∷ []) k []) × (length (get_or (rounds ++ round ∷ []) k []) ≤ 1024)
    each_round = each_more (λ _ r. IsRound g r × (length r ≤ 1024)) rounds (length rounds) round [] refl (λ k h. (below.each k h, below.short k)) (found.whole, found.short)

    no_round : (k : ℕ) → length rounds + 1 ≤ k → length (get_or (rounds ++ round ∷ []) k []) ≤ 1024
    no_round k h = let e = ap length (get_or_past (rounds ++ round ∷ []) k [] (omega (arith, size))) in omega arith

    last : get_or (rounds ++ round ∷ []) (length rounds) [] ≡ round
    last = get_or_push rounds round [] (length rounds) refl

    stand : (m : ℕ) (o : OnSeen) → get_or after m None ≡ Some o → StandsAt g (record { rounds = rounds ++ round ∷ []; on = after }) m o
    stand m o e = ⊎_elim old new (placed.new m o e)
      where
        old : get_or on m None ≡ Some o → StandsAt g (record { rounds = rounds ++ round ∷ []; on = after }) m o
        old f =
            let s = below.stands m o f in
            let l = s.cycle in
            let is : get_or (rounds ++ round ∷ []) o.cycle [] ≡ get_or rounds o.cycle [] = get_or_append_left rounds (round ∷ []) [] o.cycle l in
            record {
              cycle = omega (arith, size);
              place = subst (λ (r : List ℕ). o.place < length r) (sym is) s.place;
              is = ap (λ r. get_or r o.place 0) is ∙ s.is;
              step = s.step;
            }

        new : IsPlaceOn g (length rounds) round m o → StandsAt g (record { rounds = rounds ++ round ∷ []; on = after }) m o
        new p =
            let q = p.cycle_no in
            let is : get_or (rounds ++ round ∷ []) o.cycle [] ≡ round = ap (λ k. get_or (rounds ++ round ∷ []) k []) q ∙ last in
            record {
              cycle = omega (arith, size);
              place = subst (λ (r : List ℕ). o.place < length r) (sym is) p.place;
              is = ap (λ r. get_or r o.place 0) is ∙ p.is;
              step = p.step;
            }

    -- the next module after one of the round is on it
    next_on : (j b : ℕ) → j < length round → GoesOn g (get_or round j 0) b → IsPlaced after b
    next_on j b h s = ⊎_elim
        (λ l.
        let met : get_or round (suc j) 0 ≡ b = by_same g linear (suc j) first (get_or round (suc j) 0) b (found.whole.places (suc j) l).0 way in
        subst (IsPlaced after) met (placed.each (suc j) l))
        (λ l.
        let e : suc j ≡ length round = omega arith in
        let some : 0 < length round = omega arith in
        let met : first ≡ b = by_same g linear (suc j) first first b (subst (λ k. GoesOnBy g k first first) (sym e) found.whole.whole.1) way in
        subst (IsPlaced after) met (placed.each 0 some))
        (cases_lt (suc j) (length round))
      where
        first : ℕ
        first = least_of round

        way : GoesOnBy g (suc j) (least_of round) b
        way = by_more g j (least_of round) (get_or round j 0) b (found.whole.places j h).0 s

    kept : (m : ℕ) → IsPlaced on m → IsPlaced after m
    kept m p = (p.0, placed.old m p.0 p.1)

    next_placed : (a b : ℕ) → IsPlaced after a → GoesOn g a b → IsPlaced after b
    next_placed a b p s = ⊎_elim
        (λ e. kept b (below.closed a b (p.0, e) s))
        (λ i. next_on p.0.place b i.place (subst (λ z. GoesOn g z b) (sym i.is) s))
        (placed.new a p.0 p.1)

    -- a module without a place begins a round
    pub rounds_more : AreRoundsBelow g (n + 1) (rounds ++ round ∷ []) after
    rounds_more = record {
      few = (let q = below.few in omega (arith, size));
      leasts = subst (AreCyclesBelow g (n + 1)) (sym (map_push least_of rounds round ∙ ap (λ l. map least_of rounds ++ l ∷ []) found.first)) (leasts_more g n (map least_of rounds) below.leasts is_least);
      each = λ k h. (each_round k (omega (arith, size))).0;
      short = λ k. ⊎_elim (λ l. (each_round k l).1) (λ l. no_round k l) (cases_lt k (length rounds + 1));
      one_each = placed.count ∙ below.one_each;
      stands = stand;
      placed = λ m h c. ⊎_elim
          (λ l. kept m (below.placed m l c))
          (λ (e : m ≡ n). (let some = found.whole.whole.0 in subst (IsPlaced after) (found.first ∙ sym e) (placed.each 0 some)))
          (less_or_same m n h);
      closed = next_placed;
    }

-- none at first
pub rounds_first : (g : Grammar) (on : List (Option OnSeen)) → length on ≡ length g.modules → ((m : ℕ) → get_or on m None ≡ None) → AreRoundsBelow g 0 [] on
rounds_first g on count none = record {
  few = omega arith;
  leasts = record { in_order = λ j k a b h i l. absurd i; below = λ m i. absurd i; each = λ m i. absurd i; all = λ m h i. absurd (omega arith) };
  each = λ k h. absurd (omega arith);
  short = λ k. omega arith;
  one_each = count;
  stands = λ m o e. absurd (none_some (get_or on m None) o (none m) e);
  placed = λ m h c. absurd (omega arith);
  closed = λ a b p s. absurd (none_some (get_or on a None) p.0 (none a) p.1);
}

-- all at last
pub rounds_done : (g : Grammar) → IsWellFormed g → (n : ℕ) (rounds : List (List ℕ)) (on : List (Option OnSeen)) → n ≡ length g.modules → AreRoundsBelow g n rounds on → AreCyclesOf g (record { rounds = rounds; on = on })
rounds_done g w n rounds on all below = record {
  numbered = record { in_order = below.leasts.in_order; each = below.leasts.each; all = λ m l. below.leasts.all m (low m l.0) l };
  rounds = below.each;
  one_each = below.one_each;
  on_none = λ m h e c. (let p = below.placed m (low m c) c in none_some (get_or on m None) p.0 e p.1);
  on_one = below.stands;
  few = (let a = below.few in let b = w.few_modules in omega arith);
  short = below.short;
}
  where
    low : (m : ℕ) → IsOnCycle g m → m < n
    low m c = subst (λ k. m < k) (sym all) (continues_below g w m c.0 c.1)
