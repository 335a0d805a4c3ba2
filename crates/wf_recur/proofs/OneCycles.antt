-- A strictly linear grammar has one table of cycles.
use Rattle.std.proofs.Common.{◌≡◌, ℕ, ◌<◌, List, [], length, get_or, map, Option, Some, None, refl, ap, ◌∙◌, subst, ⊎_elim, arith}
use Rattle.std.proofs.lemmas.Bool.{cases_lt}
use Rattle.std.proofs.lemmas.List.{get_or-map, length-map}
use Rattle.wf_model.specs.Lists.{IsAt}
use Rattle.wf_model.specs.Grammar.{Grammar}
use Rattle.wf_model.specs.Linear.{IsLinear, GoesOnBy, IsLeast, IsPlaceFrom}
use Rattle.wf_model.proofs.Lists.{is_at, at_in}
use Rattle.wf_model.proofs.Walks.{walk-append}
use Rattle.wf_model.proofs.Rising.{IsRising, same_rising}
use Rattle.wf_recur.specs.Cycles.{OnSeen, CyclesSeen, round_at, least_of, StandsAt, AreCyclesOf}
use Rattle.wf_recur.proofs.Going.{walks_back, by_walk}

-- a number stands at one place of a list in order
one_place : (xs : List ℕ) (j k x : ℕ) → IsRising xs → IsAt x j xs → IsAt x k xs → j ≡ k
one_place xs j k x order p q =
    ⊎_elim (λ h. absurd (let r = order j k x x h p q in omega arith))
    (λ h. ⊎_elim (λ l. absurd (let r = order k j x x l q p in omega arith)) (λ l. omega arith) (cases_lt k j)) (cases_lt j k)

-- the least module of the cycle of a module, by a table of cycles
module _ (g : Grammar) (c : CyclesSeen) (cycles : AreCyclesOf g c) (m : ℕ) (o : OnSeen) (stands : StandsAt g c m o) where
  abbrev least : ℕ
  least = least_of (round_at c o.cycle)

  least_at : IsAt least o.cycle (map least_of c.rounds)
  least_at =
      subst (λ n. IsAt n o.cycle (map least_of c.rounds)) (get_or-map least_of c.rounds o.cycle [] 0 stands.cycle)
      (is_at o.cycle (map least_of c.rounds) 0 (let e = length-map c.rounds least_of in let h = stands.cycle in let r : o.cycle < length (map least_of c.rounds) = omega arith in r))

  is_least : IsLeast g least
  is_least = cycles.numbered.each least (at_in least o.cycle (map least_of c.rounds) least_at)

  place_there : IsPlaceFrom g least o.place m
  place_there = subst (IsPlaceFrom g least o.place) stands.is ((cycles.rounds o.cycle stands.cycle).places o.place stands.place)

-- two ways to a module from two least modules: they are one
one_least : (g : Grammar) (l k i j m : ℕ) → IsLeast g l → IsLeast g k → GoesOnBy g i l m → GoesOnBy g j k m → l ≡ k
one_least g l k i j m p q there back =
    let a = p.1 k (walk-append (by_walk g i l m there) (walks_back g (by_walk g j k m back))) in
    let b = q.1 l (walk-append (by_walk g j k m back) (walks_back g (by_walk g i l m there))) in
    omega arith

one_place_from : (g : Grammar) (l m i j : ℕ) → IsPlaceFrom g l i m → IsPlaceFrom g l j m → i ≡ j
one_place_from g l m i j p q = let a = p.1 j q.0 in let b = q.1 i p.0 in omega arith

same_seen : (o p : OnSeen) → o.cycle ≡ p.cycle → o.place ≡ p.place → o.step ≡ p.step → o ≡ p
same_seen o p a b s =
    ap (λ k. record { cycle = k; place = o.place; step = o.step }) a
    ∙ (ap (λ k. record { cycle = p.cycle; place = k; step = o.step }) b ∙ ap (λ k. record { cycle = p.cycle; place = p.place; step = k }) s)

module _ (g : Grammar) (linear : IsLinear g) (c d : CyclesSeen) (p : AreCyclesOf g c) (q : AreCyclesOf g d) where
  pub same_leasts : map least_of c.rounds ≡ map least_of d.rounds
  same_leasts =
      same_rising (map least_of c.rounds) (map least_of d.rounds) p.numbered.in_order q.numbered.in_order
      (λ z. ((λ i. q.numbered.all z (p.numbered.each z i)), (λ i. p.numbered.all z (q.numbered.each z i))))

  -- a module stands in one place
  one_stand : (m : ℕ) (o s : OnSeen) → StandsAt g c m o → StandsAt g d m s → o ≡ s
  one_stand m o s h k =
      let same = one_least g (least g c p m o h) (least g d q m s k) o.place s.place m (is_least g c p m o h) (is_least g d q m s k) (place_there g c p m o h).0 (place_there g d q m s k).0 in
      same_seen o s
      (one_place (map least_of d.rounds) o.cycle s.cycle (least g d q m s k) q.numbered.in_order
      (subst (λ n. IsAt n o.cycle (map least_of d.rounds)) same (subst (IsAt (least g c p m o h) o.cycle) same_leasts (least_at g c p m o h)))
      (least_at g d q m s k))
      (one_place_from g (least g d q m s k) m o.place s.place (subst (λ n. IsPlaceFrom g n o.place m) same (place_there g c p m o h)) (place_there g d q m s k))
      (linear m o.step s.step h.step k.step)

  -- and the tables say the same of each module
  pub one_told : (m : ℕ) → m < length g.modules → get_or c.on m None ≡ get_or d.on m None
  one_told m h = go (get_or c.on m None) (get_or d.on m None) refl refl
    where
      go : (a b : Option OnSeen) → get_or c.on m None ≡ a → get_or d.on m None ≡ b → a ≡ b
      go None None e f = refl
      go None (Some s) e f = absurd (p.on_none m h e (s.step, (q.on_one m s f).step))
      go (Some o) None e f = absurd (q.on_none m h f (o.step, (p.on_one m o e).step))
      go (Some o) (Some s) e f = ap Some (one_stand m o s (p.on_one m o e) (q.on_one m s f))
