-- Going round a cycle.
use Rattle.std.proofs.Common.{◌≡◌, ◌≢◌, ℕ, zero, suc, ◌+◌, ◌-◌, ◌<◌, ◌≤◌, ◌⊎◌, ◌∙◌, List, [], ◌∷◌, ◌++◌, length, get_or, set, Option, None, Some, refl, sym, ap, subst, inl, inr, ⊎_elim, arith}
use Rattle.std.proofs.lemmas.List.{get_or_append_left, get_or_push, length_push, length-set, get_or-set_same, get_or-set_other}
use Rattle.std.proofs.lemmas.List.Sums.{sum_by-set}
use Rattle.std.specs.Prelude.{is_none, cond}
use Rattle.std.proofs.lemmas.Bool.{cases_eq, cases_lt}
use Rattle.std.proofs.lemmas.Option.{same_Some}
use Rattle.wf_model.specs.Lists.{Walk, here, onward}
use Rattle.wf_model.specs.Grammar.{Grammar}
use Rattle.wf_model.specs.Reach.{Step, target_of}
use Rattle.wf_model.specs.Linear.{Continues, IsLinear, IsOnCycle, GoesOn, GoesOnBy, IsPlaceFrom, IsCycleLength}
use Rattle.wf_model.proofs.Positions.{each_more}
use Rattle.wf_recur.specs.Cycles.{OnSeen, least_of, IsRound}
use Rattle.wf_recur.specs.Rounds.{IsPlaced, IsClosed, unplaced, IsPlaceOn, ArePlaced, IsWay, IsRoundFrom}
use Rattle.wf_recur.proofs.Going.{walks_back, walk_on_cycle, by_walk, walk_by, by_more, by_join, by_same, by_after, by_fewer}

pub less_or_same : (k n : ℕ) → k < n + 1 → (k < n) ⊎ (k ≡ n)
less_or_same k n h = grind arith

pub none_some : {A : Type 0} (o : Option A) (x : A) → o ≡ None → o ≡ Some x → ⊥
none_some o x e f = cc

way_more : (g : Grammar) (from : ℕ) (round : List ℕ) (m : ℕ) (s : Step) → IsWay g from round m → Continues g m s → ((j : ℕ) → j < length round → get_or round j 0 ≢ m) → IsWay g from (round ++ m ∷ []) (target_of g s)
way_more g from round m s way c new = record {
  goes = λ j h. each_more (λ j x. GoesOnBy g j from x) round (length round) m 0 refl way.goes way.to j (omega (arith, size));
  to = subst (λ n. GoesOnBy g n from (target_of g s)) more (by_more g (length round) from m (target_of g s) way.to (s, c, refl));
  differ = λ i j h k. ⊎_elim
      (λ l e. (let i' : i < length round = omega arith in way.differ i j h l (sym (get_or_append_left round (m ∷ []) 0 i i') ∙ (e ∙ get_or_append_left round (m ∷ []) 0 j l))))
      (λ d e. (let i' : i < length round = omega arith in new i i' (sym (get_or_append_left round (m ∷ []) 0 i i') ∙ (e ∙ get_or_push round m 0 j (sym d)))))
      (less_or_same j (length round) (omega (arith, size)));
}
  where
    size : length (round ++ m ∷ []) ≡ length round + 1
    size = length_push round m

    more : suc (length round) ≡ length (round ++ m ∷ [])
    more = omega (arith, size)

-- a place that is given to a module that had none
set_keeps : (on : List (Option OnSeen)) (m k : ℕ) (n o : OnSeen) → get_or on m None ≡ None → get_or on k None ≡ Some o → get_or (set on m (Some n)) k None ≡ Some o
set_keeps on m k n o none e = ⊎_elim
    (λ d. absurd (none_some (get_or on k None) o (subst (λ z. get_or on z None ≡ None) (sym d) none) e))
    (λ d. get_or-set_other on m k (Some n) None d ∙ e)
    (cases_eq k m)

unplaced_less : (on : List (Option OnSeen)) (m : ℕ) (n : OnSeen) → m < length on → get_or on m None ≡ None → unplaced (set on m (Some n)) + 1 ≡ unplaced on
unplaced_less on m n h none =
    let f = λ (o : Option OnSeen). cond {A = ℕ} (is_none o) 1 0 in
    let e : unplaced (set on m (Some n)) + f (get_or on m None) ≡ unplaced on + 0 = sum_by-set f on m (Some n) None h in
    let d : f (get_or on m None) ≡ 1 = ap f none in
    omega arith

module _ (g : Grammar) (cycle : ℕ) (round : List ℕ) (before on : List (Option OnSeen)) (m : ℕ) (s : Step) (placed : ArePlaced g cycle round before on) (within : m < length on) (none : get_or on m None ≡ None) (step : Continues g m s) where
  abbrev own : OnSeen
  own = record { cycle = cycle; place = length round; step = s }

  size : length (round ++ m ∷ []) ≡ length round + 1
  size = length_push round m

  last : get_or (round ++ m ∷ []) (length round) 0 ≡ m
  last = get_or_push round m 0 (length round) refl

  here_it_is : get_or (set on m (Some own)) m None ≡ Some own
  here_it_is = get_or-set_same on m (Some own) None within

  kept : (k : ℕ) (o : OnSeen) → get_or on k None ≡ Some o → get_or (set on m (Some own)) k None ≡ Some o
  kept k o e = set_keeps on m k own o none e

  -- the place of another
  moved : (k : ℕ) (o : OnSeen) → IsPlaceOn g cycle round k o → IsPlaceOn g cycle (round ++ m ∷ []) k o
  moved k o p =
      let l = p.place in
      record {
        cycle_no = p.cycle_no;
        place = omega (arith, size);
        is = get_or_append_left round (m ∷ []) 0 o.place l ∙ p.is;
        step = p.step;
      }

  its_own : IsPlaceOn g cycle (round ++ m ∷ []) m own
  its_own = record { cycle_no = refl; place = omega (arith, size); is = last; step = step }

  told : (k : ℕ) (o : OnSeen) → get_or (set on m (Some own)) k None ≡ Some o → (get_or before k None ≡ Some o) ⊎ IsPlaceOn g cycle (round ++ m ∷ []) k o
  told k o e = ⊎_elim
      (λ (d : k ≡ m).
      let same : own ≡ o = same_Some own o (sym here_it_is ∙ (ap (λ z. get_or (set on m (Some own)) z None) (sym d) ∙ e)) in
      inr (subst (λ z. IsPlaceOn g cycle (round ++ m ∷ []) z o) (sym d) (subst (IsPlaceOn g cycle (round ++ m ∷ []) m) same its_own)))
      (λ d. ⊎_elim (λ a. inl a) (λ p. inr (moved k o p)) (placed.new k o (sym (get_or-set_other on m k (Some own) None d) ∙ e)))
      (cases_eq k m)

  placed_more : ArePlaced g cycle (round ++ m ∷ []) before (set on m (Some (record { cycle = cycle; place = length round; step = s })))
  placed_more = record {
    count = length-set on m (Some own) ∙ placed.count;
    old = λ k o e. kept k o (placed.old k o e);
    new = told;
    each = λ j h. ⊎_elim
        (λ l. (let p = placed.each j l in subst (IsPlaced (set on m (Some own))) (sym (get_or_append_left round (m ∷ []) 0 j l)) (p.0, kept (get_or round j 0) p.0 p.1)))
        (λ (d : j ≡ length round). subst (IsPlaced (set on m (Some own))) (sym (ap (λ z. get_or (round ++ m ∷ []) z 0) d ∙ last)) (own, here_it_is))
        (less_or_same j (length round) (omega (arith, size)));
  }

  -- a module without a place is not among those of the round
  not_yet : (j : ℕ) → j < length round → get_or round j 0 ≢ m
  not_yet j h e = let p = placed.each j h in none_some (get_or on m None) p.0 none (subst (λ z. get_or on z None ≡ Some p.0) e p.1)

pub closed_walk : (g : Grammar) (on : List (Option OnSeen)) → IsClosed g on → {a b : ℕ} → Walk (GoesOn g) a b → IsPlaced on a → IsPlaced on b
closed_walk g on closed here p = p
closed_walk g on closed (onward {x = x} {y = y} h w) p = closed_walk g on closed w (closed x y p h)

module _ (g : Grammar) (linear : IsLinear g) (from m : ℕ) (round : List ℕ) (way : IsWay g from round m) where
  back : Walk (GoesOn g) m from
  back = walks_back g (by_walk g (length round) from m way.to)

  -- the first is met again before another is
  returned : (j : ℕ) → j < length round → get_or round j 0 ≡ m → m ≡ from
  returned zero h e = sym e ∙ sym (way.goes 0 h)
  returned (suc i) h e =
      let split : length round ≡ suc i + (length round - suc i) = omega arith in
      let positive : 0 < length round - suc i = omega arith in
      let there : GoesOnBy g (suc i) from m = subst (GoesOnBy g (suc i) from) e (way.goes (suc i) h) in
      let again = by_after g linear (suc i) (length round - suc i) from m m there (subst (λ n. GoesOnBy g n from m) split way.to) in
      let home = walk_by g back in
      let soon = by_fewer g linear (length round - suc i) m from positive again home.0 home.0 (omega arith) home.1 in
      let less = soon.1 in
      let early : suc i + soon.0 < length round = omega arith in
      let later : 0 < suc i + soon.0 = omega arith in
      let first : 0 < length round = omega arith in
      let met : from ≡ get_or round (suc i + soon.0) 0 = by_same g linear (suc i + soon.0) from from (get_or round (suc i + soon.0) 0) (by_join g (suc i) soon.0 from m from there soon.2) (way.goes (suc i + soon.0) early) in
      absurd (way.differ 0 (suc i + soon.0) later early (sym (way.goes 0 first) ∙ met))

  -- a way that came back is a round
  way_round : 0 < length round → m ≡ from → IsRound g round × (least_of round ≡ from)
  way_round some e = (record { whole = parts.0; places = parts.1 }, is)
    where
      is : least_of round ≡ from
      is = sym (way.goes 0 some)

      home : GoesOnBy g (length round) from from
      home = subst (GoesOnBy g (length round) from) e way.to

      fewest : (k : ℕ) → 0 < k → GoesOnBy g k from from → length round ≤ k
      fewest k positive h = ⊎_elim
          (λ l. absurd (way.differ 0 k positive l (is ∙ by_same g linear k from from (get_or round k 0) h (way.goes k l))))
          (λ l. l)
          (cases_lt k (length round))

      soonest : (j : ℕ) → j < length round → (k : ℕ) → GoesOnBy g k from (get_or round j 0) → j ≤ k
      soonest j h k w = ⊎_elim
          (λ l. absurd (let k' : k < length round = omega arith in way.differ k j l h (by_same g linear k from (get_or round k 0) (get_or round j 0) (way.goes k k') w)))
          (λ l. l)
          (cases_lt k j)

      parts : IsCycleLength g (least_of round) (length round) × ((j : ℕ) → j < length round → IsPlaceFrom g (least_of round) j (get_or round j 0))
      parts = subst (λ l. IsCycleLength g l (length round) × ((j : ℕ) → j < length round → IsPlaceFrom g l j (get_or round j 0))) (sym is) ((some, home, fewest), λ j h. (way.goes j h, soonest j h))

-- where the way meets a module that has a place, it came back
pub round_end : (g : Grammar) → IsLinear g → (cycle from m : ℕ) (round : List ℕ) (before after : List (Option OnSeen)) → IsWay g from round m → ArePlaced g cycle round before after → IsClosed g before → IsOnCycle g from → get_or before from None ≡ None → IsPlaced after m ⊎ ¬ IsOnCycle g m → length round ≤ 1024 → IsRoundFrom g from round
round_end g linear cycle from m round before after way placed closed on none met short =
    record { whole = whole.0; first = whole.1; short = short }
  where
    there : Walk (GoesOn g) from m
    there = by_walk g (length round) from m way.to

    place : IsPlaced after m
    place = ⊎_elim (λ p. p) (λ no. absurd (no (walk_on_cycle g (walks_back g there) on))) met

    its : IsPlaceOn g cycle round m place.0
    its = ⊎_elim
        (λ e. absurd (let p = closed_walk g before closed (walks_back g there) (place.0, e) in none_some (get_or before from None) p.0 none p.1))
        (λ p. p)
        (placed.new m place.0 place.1)

    some : 0 < length round
    some = let l = its.place in omega arith

    whole : IsRound g round × (least_of round ≡ from)
    whole = way_round g linear from m round way some (returned g linear from m round way place.0.place its.place its.is)

-- the next module takes the next place
pub round_more : (g : Grammar) (cycle from m : ℕ) (round round' : List ℕ) (before on on' : List (Option OnSeen)) (s : Step) (place target : ℕ) → IsWay g from round m → ArePlaced g cycle round before on → Continues g m s → get_or on m None ≡ None → m < length on
    → round' ≡ round ++ m ∷ [] → place ≡ length round → on' ≡ set on m (Some (record { cycle = cycle; place = place; step = s })) → target ≡ target_of g s
    → IsWay g from round' target × ArePlaced g cycle round' before on' × (length round' + unplaced on' ≡ length round + unplaced on)
round_more g cycle from m round round' before on on' s place target way placed step none within longer number written goes = (
  subst (λ r. IsWay g from r target) (sym longer) (subst (IsWay g from (round ++ m ∷ [])) (sym goes) (way_more g from round m s way step (not_yet g cycle round before on m s placed within none step))),
  subst (λ r. ArePlaced g cycle r before on') (sym longer) (subst (ArePlaced g cycle (round ++ m ∷ []) before) (sym is) (placed_more g cycle round before on m s placed within none step)),
  (let a = ap length longer in let b = length_push round m in let d = ap unplaced is in let e = unplaced_less on m (record { cycle = cycle; place = length round; step = s }) within none in omega arith),
)
  where
    is : on' ≡ set on m (Some (record { cycle = cycle; place = length round; step = s }))
    is = written ∙ ap (λ n. set on m (Some (record { cycle = cycle; place = n; step = s }))) number
