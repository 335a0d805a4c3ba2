-- A strictly linear grammar has a table of its cycles.
use Rattle.std.proofs.Common.{◌≡◌, ◌⊎◌, ℕ, zero, suc, ◌+◌, ◌<◌, ◌≤◌, ◌∙◌, List, [], ◌∷◌, ◌++◌, length, get_or, set, replicate, Option, None, Some, refl, sym, subst, inl, inr, ⊎_elim, arith}
use Rattle.std.specs.Prelude.{is_none}
use Rattle.std.proofs.lemmas.List.{length-replicate, length_push}
use Rattle.std.proofs.lemmas.List.Sums.{count_by-le-length}
use Rattle.wf_model.specs.Grammar.{Grammar}
use Rattle.wf_model.specs.WellFormed.{IsWellFormed}
use Rattle.wf_model.specs.Reach.{Step, target_of}
use Rattle.wf_model.specs.Linear.{Continues, IsLinear, IsOnCycle}
use Rattle.wf_model.proofs.Deciding.{Either}
use Rattle.label_model.specs.Continuing.{continuing}
use Rattle.label_model.proofs.Finding.{cases_option}
use Rattle.label_model.proofs.ContinuingSteps.{continuing_is, continuing_none}
use Rattle.wf_recur.specs.Cycles.{OnSeen, CyclesSeen, AreCyclesOf}
use Rattle.wf_recur.specs.Rounds.{IsPlaced, IsClosed, unplaced, ArePlaced, IsWay, IsRoundFrom, AreRoundsBelow}
use Rattle.wf_recur.proofs.Numbering.{rounds_first, rounds_same, rounds_more, rounds_done}
use Rattle.wf_recur.proofs.Stepping.{target_below}
use Rattle.wf_recur.proofs.Telling.{continues_below}
use Rattle.wf_recur.proofs.Ways.{round_more, round_end}

-- no place is given in a list of nothing
none_at : (n m : ℕ) → get_or (replicate {A = Option OnSeen} n None) m None ≡ None
none_at zero m = refl
none_at (suc n) zero = refl
none_at (suc n) (suc m) = none_at n m

module _ (g : Grammar) (formed : IsWellFormed g) where
  -- a module is on a cycle, or not
  pub cycle_either : (m : ℕ) → Either (IsOnCycle g m)
  cycle_either m = ⊎_elim (λ none. inr (λ h. continuing_none g formed m none h.0 h.1)) (λ s. inl (s.0, continuing_is g m s.0 s.1)) (cases_option (continuing g m))

  module _ (linear : IsLinear g) where
    module _ (cycle first : ℕ) (before : List (Option OnSeen)) (count : length before ≡ length g.modules) (closed : IsClosed g before) (on : IsOnCycle g first) (none : get_or before first None ≡ None) where
      -- the round of the cycle of a module, from it on, and the places of all modules
      abbrev Round : Type 0
      Round = (round : List ℕ) × (after : List (Option OnSeen)) × IsRoundFrom g first round × ArePlaced g cycle round before after

      -- the round is gone up to the module m
      record IsGone (m : ℕ) (round : List ℕ) (now : List (Option OnSeen)) : Type 0 where
        way : IsWay g first round m
        placed : ArePlaced g cycle round before now
        few : length round + unplaced now ≤ length g.modules
        within : m < length g.modules

      -- the next place is given to the module m
      abbrev placed_next : ℕ → List ℕ → List (Option OnSeen) → Step → List (Option OnSeen)
      placed_next m round now s = set now m (Some (record { cycle = cycle; place = length round; step = s }))

      gone_more : (m : ℕ) (round : List ℕ) (now : List (Option OnSeen)) → IsGone m round now → get_or now m None ≡ None → (s : Step) → Continues g m s →
          IsGone (target_of g s) (round ++ m ∷ []) (placed_next m round now s) × (unplaced (placed_next m round now s) + 1 ≡ unplaced now)
      gone_more m round now gone new s c =
          let within : m < length now = subst (λ n. m < n) (sym (gone.placed.count ∙ count)) gone.within in
          let r = round_more g cycle first m round (round ++ m ∷ []) before now (placed_next m round now s) s (length round) (target_of g s) gone.way gone.placed c new within refl refl refl refl in
          let sum = r.2 in
          let longer = length_push round m in (
            record { way = r.0; placed = r.1; few = subst (λ n. n ≤ length g.modules) (sym sum) gone.few; within = target_below g formed s c.0.in_range c.0.position },
            omega arith,
          )

      -- where the module has a place or is on no cycle, the round is whole
      gone_round : (m : ℕ) (round : List ℕ) (now : List (Option OnSeen)) → IsGone m round now → IsPlaced now m ⊎ ¬ IsOnCycle g m → Round
      gone_round m round now gone met =
          let few = gone.few in
          let most = formed.few_modules in
          (round, now, round_end g linear cycle first m round before now gone.way gone.placed closed on none met (omega arith), gone.placed)

      go_on : (fuel m : ℕ) (round : List ℕ) (now : List (Option OnSeen)) → unplaced now < fuel → IsGone m round now → Round
      go_on zero m round now l gone = absurd (omega arith)
      go_on (suc fuel) m round now l gone = by (cases_option (get_or now m None)) (cycle_either m) (λ k longer later below more. go_on fuel k longer later below more)
        where
          by : (get_or now m None ≡ None) ⊎ IsPlaced now m → Either (IsOnCycle g m) → ((k : ℕ) (longer : List ℕ) (later : List (Option OnSeen)) → unplaced later < fuel → IsGone k longer later → Round) → Round
          by (inr place) c next = gone_round m round now gone (inl place)
          by (inl new) (inr not) next = gone_round m round now gone (inr not)
          by (inl new) (inl c) next =
              let r = gone_more m round now gone new c.0 c.1 in
              let fewer = r.1 in
              next (target_of g c.0) (round ++ m ∷ []) (placed_next m round now c.0) (omega arith) r.0

      round_of : Round
      round_of =
          let all = count in
          let few : unplaced before ≤ length before = count_by-le-length is_none before in
          go_on (suc (unplaced before)) first [] before (omega arith) (record {
            way = record { goes = λ j h. absurd (omega arith); to = refl; differ = λ i j h k. absurd (omega arith) };
            placed = record { count = refl; old = λ m o e. e; new = λ m o e. inl e; each = λ j h. absurd (omega arith) };
            few = omega arith;
            within = continues_below g formed first on.0 on.1;
          })

    -- the cycles that have a module below n, by rounds, and where their modules stand
    abbrev Below : ℕ → Type 0
    Below n = (rounds : List (List ℕ)) × (on : List (Option OnSeen)) × AreRoundsBelow g n rounds on

    one_more : (n : ℕ) → Below n → Below (suc n)
    one_more n b = by (cases_option (get_or b.1 n None)) (cycle_either n)
      where
        next : n + 1 ≡ suc n
        next = omega arith

        by : (get_or b.1 n None ≡ None) ⊎ IsPlaced b.1 n → Either (IsOnCycle g n) → Below (suc n)
        by (inr place) c = (b.0, b.1, subst (λ k. AreRoundsBelow g k b.0 b.1) next (rounds_same g n b.0 b.1 b.2 (inl place)))
        by (inl new) (inr not) = (b.0, b.1, subst (λ k. AreRoundsBelow g k b.0 b.1) next (rounds_same g n b.0 b.1 b.2 (inr not)))
        by (inl new) (inl c) =
            let r = round_of (length b.0) n b.1 b.2.one_each b.2.closed c new in
            (b.0 ++ r.0 ∷ [], r.1, subst (λ k. AreRoundsBelow g k (b.0 ++ r.0 ∷ []) r.1) next (rounds_more g n b.0 b.1 b.2 linear r.0 r.1 c new r.2 r.3))

    all_below : (n : ℕ) → Below n
    all_below zero =
        let none = replicate {A = Option OnSeen} (length g.modules) None in
        ([], none, rounds_first g none (length-replicate (length g.modules) None) (none_at (length g.modules)))
    all_below (suc n) = one_more n (all_below n)

    -- a strictly linear grammar has a table of its cycles
    pub some_cycles : (c : CyclesSeen) × AreCyclesOf g c
    some_cycles = let b = all_below (length g.modules) in (record { rounds = b.0; on = b.1 }, rounds_done g formed (length g.modules) b.0 b.1 refl b.2)
