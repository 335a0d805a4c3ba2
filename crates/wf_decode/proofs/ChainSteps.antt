-- The steps of a chain, one by one.
use Rattle.std.proofs.Common.{◌≡◌, ◌⊎◌, ℕ, zero, suc, ◌+◌, ◌-◌, ◌*◌, ◌/◌, ◌%◌, ◌<◌, ◌≤◌, List, ◌++◌, length, get_or, take, drop, refl, sym, ap, ◌∙◌, subst, inl, inr, arith, length-append, length-take}
use Rattle.std.proofs.Math.Nat.{mod-lt, mod-eq_of_lt, div-eq_of_lt, mod-add-div', add-mod_left, add-mod-mod}
use Rattle.std.proofs.lemmas.Bool.{cases_lt}
use Rattle.std.proofs.lemmas.List.{append_assoc, get_or_append_left, get_or-append_right, get_or-take, get_or-drop, get_or-map, length-map, length-drop}
use Rattle.wf_model.specs.Reach.{Step}
use Rattle.decode_model.specs.Rounds.{times}
use Rattle.decode_model.specs.Legs.{leg_steps}
use Rattle.decode_model.proofs.Rounds.{length-times}
use Rattle.wf_recur.specs.Cycles.{CyclesSeen, round_at}
use Rattle.wf_decode.specs.HeldLegs.{step_on, module_on, round_from, chain_from}

mod_past : (i n : ℕ) → n ≤ i → (i - n) % n ≡ i % n
mod_past i n h = let e : n + (i - n) ≡ i = omega arith in sym (add-mod_left n (i - n)) ∙ ap (λ z. z % n) e

-- past a round of so many rounds and a rest
past : (q n r i : ℕ) → i < suc q * n + r → n ≤ i → i - n < q * n + r
past q n r i low h = let e : suc q * n ≡ n + q * n = grind arith in omega arith

-- of so many rounds and a rest, the step at a place is the one of the round
get_or-times : (round : List Step) (q r i : ℕ) (d : Step) → r ≤ length round → i < q * length round + r → get_or (times q round ++ take r round) i d ≡ get_or round (i % length round) d
get_or-times round zero r i d h low =
    let l : i < r = omega arith in
    let m : i < length round = omega arith in
    get_or-take r round i d l ∙ ap (λ k. get_or round k d) (sym (mod-eq_of_lt m))
get_or-times round (suc q) r i d h low =
    ap (λ z. get_or z i d) (append_assoc round (times q round) (take r round)) ∙
    go (λ m. get_or-times round q r (i - length round) d h (past q (length round) r i low m)) (cases_lt i (length round))
  where
    go : (length round ≤ i → get_or (times q round ++ take r round) (i - length round) d ≡ get_or round ((i - length round) % length round) d) → (i < length round) ⊎ (length round ≤ i) →
        get_or (round ++ (times q round ++ take r round)) i d ≡ get_or round (i % length round) d
    go again (inl m) = get_or_append_left round (times q round ++ take r round) d i m ∙ ap (λ k. get_or round k d) (sym (mod-eq_of_lt m))
    go again (inr m) = get_or-append_right round (times q round ++ take r round) (length round) i d refl m ∙ (again m ∙ ap (λ k. get_or round k d) (mod_past i (length round) m))

-- a list that begins at another place
pub get_or-turned : (xs : List ℕ) (j i : ℕ) → j < length xs → i < length xs → get_or (drop j xs ++ take j xs) i 0 ≡ get_or xs ((j + i) % length xs) 0
get_or-turned xs j i h low = go (cases_lt (j + i) (length xs))
  where
    go : (j + i < length xs) ⊎ (length xs ≤ j + i) → get_or (drop j xs ++ take j xs) i 0 ≡ get_or xs ((j + i) % length xs) 0
    go (inl m) =
        let l = length-drop j xs in
        get_or_append_left (drop j xs) (take j xs) 0 i (omega arith) ∙ (get_or-drop j xs i 0 ∙ ap (λ k. get_or xs k 0) (sym (mod-eq_of_lt m)))
    go (inr m) =
        let at : i - (length xs - j) ≡ j + i - length xs = omega arith in
        let small : j + i - length xs < length xs = omega arith in
        get_or-append_right (drop j xs) (take j xs) (length xs - j) i 0 (length-drop j xs) (omega arith) ∙
        (get_or-take j xs (i - (length xs - j)) 0 (omega arith) ∙ ap (λ k. get_or xs k 0) (at ∙ (sym (mod-eq_of_lt small) ∙ mod_past (j + i) (length xs) m)))

module _ (c : CyclesSeen) (k j : ℕ) (h : j < length (round_at c k)) where
  pub length-turned : length (drop j (round_at c k) ++ take j (round_at c k)) ≡ length (round_at c k)
  length-turned =
      let xs = round_at c k in
      let a = length-append (drop j xs) (take j xs) in
      let d = length-drop j xs in
      let t = length-take j xs in
      omega arith

  pub length-round : length (round_from c k j) ≡ length (round_at c k)
  length-round = length-map (drop j (round_at c k) ++ take j (round_at c k)) (step_on c) ∙ length-turned

  -- the steps of the round
  round_step : (i : ℕ) (d : Step) → i < length (round_at c k) → get_or (round_from c k j) i d ≡ step_on c (module_on c k ((j + i) % length (round_at c k)))
  round_step i d low =
      let xs = round_at c k in
      get_or-map (step_on c) (drop j xs ++ take j xs) i 0 d (subst (λ n. i < n) (sym length-turned) low) ∙ ap (step_on c) (get_or-turned xs j i h low)

  -- a chain has as many steps as it counts
  pub length-chain : (n : ℕ) → length (leg_steps (chain_from c k j n)) ≡ n
  length-chain n =
      let round = round_from c k j in
      let q = n / length round in
      let r = n % length round in
      let l = length-round in
      let low = mod-lt n {m = length round} (omega arith) in
      let a = length-append (times q round) (take r round) in
      let b = length-times q round in
      let t = length-take r round in
      let e : length (times q round ++ take r round) ≡ r + q * length round = omega arith in
      e ∙ mod-add-div' n (length round)

  -- each is the continuing step of the module so many places further on
  chain_step : (n i : ℕ) (d : Step) → i < n → get_or (leg_steps (chain_from c k j n)) i d ≡ step_on c (module_on c k ((j + i) % length (round_at c k)))
  chain_step n i d low =
      let round = round_from c k j in
      let m = length (round_at c k) in
      let q = n / length round in
      let r = n % length round in
      let l = length-round in
      let rest = mod-lt n {m = length round} (omega arith) in
      let whole = mod-add-div' n (length round) in
      let e : i % length round ≡ i % m = ap (λ z. i % z) l in
      let within = mod-lt i {m = m} (omega arith) in
      get_or-times round q r i d (omega arith) (omega arith) ∙
      (ap (λ z. get_or round z d) e ∙ (round_step (i % m) d within ∙ ap (λ z. step_on c (module_on c k z)) (add-mod-mod j i m)))

  pub step_at : (n i : ℕ) (s : Step) → s ≡ step_on c (module_on c k ((j + i) % length (round_at c k))) → i < n → get_or (leg_steps (chain_from c k j n)) i s ≡ s
  step_at n i s e low = chain_step n i s low ∙ sym e

  -- fewer steps than once round are the first of the round
  pub few_steps : (n : ℕ) → n < length (round_from c k j) → leg_steps (chain_from c k j n) ≡ take n (round_from c k j)
  few_steps n low =
      let round = round_from c k j in
      ap (λ q. times q round ++ take (n % length round) round) (div-eq_of_lt low) ∙ ap (λ r. take r round) (mod-eq_of_lt low)
