-- A turn that was drawn and then taken is the next one.
use Rattle.std.proofs.Common.{◌≡◌, ℕ, ◌+◌, ◌-◌, ◌<◌, ◌≤◌, false, ◌==◌, Option, Some, refl, sym, ap, ◌∙◌, subst, arith}
use Rattle.wf_model.specs.Grammar.{Grammar}
use Rattle.wf_model.specs.WellFormed.{IsWellFormed}
use Rattle.wf_model.specs.Faults.{is_nil}
use Rattle.wf_model.specs.declared.event.Event.{Event}
use Rattle.wf_model.specs.declared.event.Event.TheVariants.{Expand}
use Rattle.wf_gen.specs.declared.turn.Drawn.{Drawn as DrawnHeld}
use Rattle.numbered_names.specs.Names.{numbered_name, numbered_names}
use Rattle.wf_gen.specs.Turns.{State, child_count, event_of, next_turn, draws_after, after_turn}
use Rattle.wf_gen.specs.Coming.{IsFirst, coming}
use Rattle.wf_gen.specs.Held.{CanTake, IsNextTurn, IsTurn, IsTurnOrEnd, IsKept, event_drawn, turn_of}
use Rattle.wf_gen.proofs.Coming.{some_pending, turn_next, turn_kept}

module _ (g : Grammar) (limit n left : ℕ) (s mid : State) (given : Option DrawnHeld) (d : DrawnHeld) (told : IsTurnOrEnd g limit n s given left mid) (is : given ≡ Some d) where
  -- a turn was drawn
  was_drawn : IsNextTurn g limit s d × (0 < n) × (is_nil s.pending ≡ false) × (left ≡ n) × (mid ≡ s)
  was_drawn = subst (λ o. IsTurnOrEnd g limit n s o left mid) is told

  pub can_take : CanTake g mid d
  can_take = subst (λ z. CanTake g z d) (sym was_drawn.4) was_drawn.0.can_take

  pub some_left : 0 < left
  some_left = subst (λ k. 0 < k) (sym was_drawn.3) was_drawn.1

  module _ (new : State) (taken : new ≡ after_turn g mid (turn_of d.turn) d.draws) where
    after : new ≡ after_turn g s (next_turn g s) (draws_after s)
    after = taken ∙ (λ i. after_turn g (was_drawn.4 i) (was_drawn.0.turn i) (was_drawn.0.draws i))

    event_is : event_drawn mid.made d ≡ event_of g s.made (next_turn g s)
    event_is =
        ap (λ k. Expand (numbered_name d.turn.instance.number) d.turn.production.0 (numbered_names mid.made k)) was_drawn.0.can_take.count
        ∙ (λ i. event_of g (was_drawn.4 i).made (was_drawn.0.turn i))

    within : s.made + child_count g (next_turn g s) ≤ limit
    within =
        let count : d.count ≡ child_count g (next_turn g s) = was_drawn.0.can_take.count ∙ ap (child_count g) was_drawn.0.turn in
        subst (λ k. s.made + k ≤ limit) count was_drawn.0.within

    is_turn : (e : Event) → e ≡ event_drawn mid.made d → IsTurn g limit s (Some e) new
    is_turn e same = (within, same ∙ event_is, after)

    -- it is taken: its event came first
    pub taken_first : (e : Event) → s.made == 0 ≡ false → e ≡ event_drawn mid.made d → IsFirst (coming g limit n s) e (coming g limit (left - 1) new)
    taken_first e begun same =
        let left_is : left - 1 + 1 ≡ n = (let a = some_left in let b = was_drawn.3 in omega arith) in
        turn_next g limit n (left - 1) s new (Some e) was_drawn.1 begun was_drawn.2 (is_turn e same) left_is

    pub taken_kept : IsWellFormed g → s.made == 0 ≡ false → IsKept g limit s → IsKept g limit new
    taken_kept formed begun kept =
        turn_kept g limit formed s new (Some (event_drawn mid.made d)) (some_pending s.pending was_drawn.2) begun kept (is_turn (event_drawn mid.made d) refl)
