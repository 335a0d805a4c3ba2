-- The places of the cycles of a grammar: what is told of the module at each, and where continuing steps lead from there.
use Rattle.std.proofs.Common.{◌≡◌, ◌≢◌, ℕ, zero, suc, ◌+◌, ◌-◌, ◌%◌, ◌<◌, ◌≤◌, length, get_or, Option, Some, None, refl, sym, ap, ◌∙◌, subst, ⊎_elim, arith}
use Rattle.std.specs.Prelude.{option_map}
use Rattle.std.proofs.Math.Nat.{mod-lt, mod-eq_of_lt, add-mod_left, add-mod-mod}
use Rattle.std.proofs.lemmas.Option.{none-some}
use Rattle.wf_model.specs.Grammar.{Grammar}
use Rattle.wf_model.specs.WellFormed.{IsWellFormed}
use Rattle.wf_model.specs.Reach.{Step, target_of}
use Rattle.wf_model.specs.Linear.{IsLinear, IsOnCycle, GoesOnBy}
use Rattle.label_model.specs.Continuing.{continuing, next_by, after}
use Rattle.label_model.proofs.Finding.{cases_option}
use Rattle.label_model.proofs.ContinuingSteps.{continuing_is, continuing_found, continuing_law, target_continues}
use Rattle.label_model.proofs.Periods.{after-add, period_law}
use Rattle.wf_recur.specs.Cycles.{OnSeen, CyclesSeen, round_at, least_of, AreCyclesOf}
use Rattle.wf_recur.proofs.Going.{walks_back, walk_on_cycle, by_walk}
use Rattle.wf_recur.proofs.Stepping.{target_below}
use Rattle.wf_recur.proofs.Telling.{continues_below}

next_below : (g : Grammar) → IsWellFormed g → (m : ℕ) → m < length g.modules → (o : Option Step) → continuing g m ≡ o → next_by g m o < length g.modules
next_below g wf m l None e = l
next_below g wf m l (Some s) e = let c = continuing_is g m s e in target_below g wf s c.0.in_range c.0.position

-- from a module of the grammar, continuing steps lead to modules of the grammar
pub after_below : (g : Grammar) → IsWellFormed g → (n m : ℕ) → m < length g.modules → after g n m < length g.modules
after_below g wf zero m l = l
after_below g wf (suc n) m l = after_below g wf n (next_by g m (continuing g m)) (next_below g wf m l (continuing g m) refl)

-- from a module that continues, they lead to modules that do
pub after_continues : (g : Grammar) → IsWellFormed g → (n m : ℕ) (s : Step) → continuing g m ≡ Some s → (t : Step) × (continuing g (after g n m) ≡ Some t)
after_continues g wf zero m s e = (s, e)
after_continues g wf (suc n) m s e =
    let next = target_continues g wf m s e in
    let far = after_continues g wf n (target_of g s) next.0 next.1 in
    (far.0, ap (λ o. continuing g (after g n (next_by g m o))) e ∙ far.1)

-- they are continuing steps of the definition
goes_after : (g : Grammar) → IsWellFormed g → (n m : ℕ) (s : Step) → continuing g m ≡ Some s → GoesOnBy g n m (after g n m)
goes_after g wf zero m s e = refl
goes_after g wf (suc n) m s e =
    let next = target_continues g wf m s e in
    (target_of g s, (s, continuing_is g m s e, refl), subst (λ o. GoesOnBy g n (target_of g s) (after g n (next_by g m o))) (sym e) (goes_after g wf n (target_of g s) next.0 next.1))

-- where so many steps lead from a module back to it, they do so from each to which steps lead
pub back_along : (g : Grammar) (m size n : ℕ) → after g size m ≡ m → after g size (after g n m) ≡ after g n m
back_along g m size n back =
    let turn : n + size ≡ size + n = omega arith in
    sym (after-add g n size m) ∙ ap (λ z. after g z m) turn ∙ after-add g size n m ∙ ap (after g n) back

-- a module that goes on is on a cycle
goes_first : (g : Grammar) (n a b : ℕ) → 0 < n → GoesOnBy g n a b → IsOnCycle g a
goes_first g zero a b some w = absurd (omega arith)
goes_first g (suc n) a b some w = (w.1.0, w.1.1)

module _ (g : Grammar) (t : CyclesSeen) (h : AreCyclesOf g t) where
  -- a module that continues stands at a place of a cycle
  pub stands_somewhere : (m : ℕ) → m < length g.modules → continuing g m ≢ None → (o : OnSeen) × (get_or t.on m None ≡ Some o)
  stands_somewhere m l on =
      ⊎_elim
      (λ none. absurd (⊎_elim on (λ s. h.on_none m l none (s.0, continuing_is g m s.0 s.1)) (cases_option (continuing g m))))
      (λ some. some)
      (cases_option (get_or t.on m None))

  -- the module at a place is on a cycle
  pub place_on_cycle : (k j : ℕ) → k < length t.rounds → j < length (round_at t k) → IsOnCycle g (get_or (round_at t k) j 0)
  place_on_cycle k j c p =
      let first = least_of (round_at t k) in
      let r = h.rounds k c in
      walk_on_cycle g (walks_back g (by_walk g j first (get_or (round_at t k) j 0) (r.places j p).0)) (goes_first g (length (round_at t k)) first first r.whole.0 r.whole.1)

  -- it is a module of the grammar
  pub place_below : IsWellFormed g → (k j : ℕ) → k < length t.rounds → j < length (round_at t k) → get_or (round_at t k) j 0 < length g.modules
  place_below wf k j c p = let on = place_on_cycle k j c p in continues_below g wf (get_or (round_at t k) j 0) on.0 on.1

module _ (g : Grammar) (t : CyclesSeen) (wf : IsWellFormed g) (lin : IsLinear g) (h : AreCyclesOf g t) where
  -- the table tells of each module of the grammar its continuing step, or that it has none
  pub step_told : (m : ℕ) → m < length g.modules → option_map (λ (o : OnSeen). o.step) (get_or t.on m None) ≡ continuing g m
  step_told m l = go (get_or t.on m None) refl
    where
      go : (o : Option OnSeen) → get_or t.on m None ≡ o → option_map (λ (o : OnSeen). o.step) o ≡ continuing g m
      go None e = ⊎_elim (λ none. sym none) (λ s. absurd (h.on_none m l e (s.0, continuing_is g m s.0 s.1))) (cases_option (continuing g m))
      go (Some o) e = sym ((continuing_law g wf lin m o.step).1 (h.on_one m o e).step)

  -- the module at a place stands in the table, and continues by its step there
  pub place_told : (k j : ℕ) → k < length t.rounds → j < length (round_at t k) →
      (o : OnSeen) × (get_or t.on (get_or (round_at t k) j 0) None ≡ Some o) × (continuing g (get_or (round_at t k) j 0) ≡ Some o.step)
  place_told k j c p =
      let m = get_or (round_at t k) j 0 in
      let on = place_on_cycle g t h k j c p in
      let s = continuing_found g wf m on.0 on.1 in
      let o = stands_somewhere g t h m (place_below g t h wf k j c p) (λ e. none-some s.0 (sym e ∙ s.1)) in
      (o.0, o.1, (continuing_law g wf lin m o.0.step).1 (h.on_one m o.0 o.1).step)

  -- from place 0, as many continuing steps lead to a place as its number says
  pub place_from_first : (k j : ℕ) → k < length t.rounds → j < length (round_at t k) → after g j (least_of (round_at t k)) ≡ get_or (round_at t k) j 0
  place_from_first k j c p = (period_law g wf lin).leads j (least_of (round_at t k)) (get_or (round_at t k) j 0) ((h.rounds k c).places j p).0

  -- continuing steps lead as many places further on, and past the last to place 0 again
  pub place_after : (k j n : ℕ) → k < length t.rounds → j < length (round_at t k) →
      after g n (get_or (round_at t k) j 0) ≡ get_or (round_at t k) ((j + n) % length (round_at t k)) 0
  place_after k j n c p =
      let round = round_at t k in
      let r = h.rounds k c in
      let low : (j + n) % length round < length round = mod-lt (j + n) r.whole.0 in
      (period_law g wf lin).rest (least_of round) (length round) j (get_or round j 0) n r.whole (r.places j p).0 ∙ place_from_first k ((j + n) % length round) c low

  -- the continuing step of the module at a place leads to the next place
  pub place_next : (k j : ℕ) (s : Step) → k < length t.rounds → j < length (round_at t k) → continuing g (get_or (round_at t k) j 0) ≡ Some s →
      target_of g s ≡ get_or (round_at t k) ((j + 1) % length (round_at t k)) 0
  place_next k j s c p e = sym (ap (next_by g (get_or (round_at t k) j 0)) e) ∙ place_after k j 1 c p

  -- the steps up to the last place, and one more, lead to place 0
  pub place_to_first : (k j : ℕ) → k < length t.rounds → j < length (round_at t k) → after g (length (round_at t k) - j) (get_or (round_at t k) j 0) ≡ least_of (round_at t k)
  place_to_first k j c p =
      let size = length (round_at t k) in
      let e : j + (size - j) ≡ size + 0 = omega arith in
      place_after k j (size - j) c p ∙ ap (λ z. get_or (round_at t k) z 0) (ap (λ z. z % size) e ∙ add-mod_left size 0 ∙ mod-eq_of_lt (h.rounds k c).whole.0)

  -- as many as the cycle has places lead back to the same
  pub place_back : (k j : ℕ) → k < length t.rounds → j < length (round_at t k) → after g (length (round_at t k)) (get_or (round_at t k) j 0) ≡ get_or (round_at t k) j 0
  place_back k j c p =
      let round = round_at t k in
      let m = get_or round j 0 in
      let r = h.rounds k c in
      let e : length round ≡ 0 + length round = omega arith in
      ap (λ n. after g n m) e ∙ (period_law g wf lin).period (least_of round) (length round) j m 0 r.whole (r.places j p).0

  -- and no fewer do, but none
  pub place_back_least : (k j n : ℕ) → k < length t.rounds → j < length (round_at t k) → 0 < n → after g n (get_or (round_at t k) j 0) ≡ get_or (round_at t k) j 0 → length (round_at t k) ≤ n
  place_back_least k j n c p some back =
      let first = least_of (round_at t k) in
      let whole = (h.rounds k c).whole in
      let o = place_told k 0 c whole.0 in
      let e : after g n first ≡ first = subst (λ z. after g n z ≡ z) (place_to_first k j c p) (back_along g (get_or (round_at t k) j 0) n (length (round_at t k) - j) back) in
      whole.2 n some (subst (GoesOnBy g n first) e (goes_after g wf n first o.0.step o.2))

  -- whole rounds can be left out
  pub rounds_left_out : (k j n : ℕ) → k < length t.rounds → j < length (round_at t k) →
      after g n (get_or (round_at t k) j 0) ≡ after g (n % length (round_at t k)) (get_or (round_at t k) j 0)
  rounds_left_out k j n c p =
      let size = length (round_at t k) in
      place_after k j n c p ∙ (ap (λ z. get_or (round_at t k) z 0) (sym (add-mod-mod j n size)) ∙ sym (place_after k j (n % size) c p))
