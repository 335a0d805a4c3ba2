-- What a start and a turn give is the next of the events to come.
use Rattle.std.proofs.Common.{◌≡◌, ℕ, zero, suc, ◌+◌, ◌<◌, ◌≤◌, Bool, true, false, cond, not, ◌||◌, ◌&&◌, ◌==◌, List, [], ◌∷◌, length, Option, Some, None, nat_lt, refl, sym, ap, ◌∙◌, subst, ⊎_elim, arith, true≢false}
use Rattle.std.proofs.lemmas.Bool.{eqb-true, eq-eqb, and_parts}
use Rattle.std.proofs.lemmas.Bool.Decides.{nat_tests}
use Rattle.std.proofs.lemmas.Nat.{mod_below}
use Rattle.wf_model.specs.Grammar.{Grammar, body_of}
use Rattle.wf_model.specs.WellFormed.{IsWellFormed}
use Rattle.wf_model.specs.Faults.{is_nil}
use Rattle.wf_model.specs.declared.event.Event.{Event}
use Rattle.wf_model.specs.declared.event.Event.TheVariants.{Start}
use Rattle.wf_model.proofs.Lists.{in_append_cases}
use Rattle.wf_model.proofs.Composites.{composite_gives, composite_below}
use Rattle.wf_gen.specs.declared.pending.Pending.{Pending as PendingHeld}
use Rattle.wf_gen.specs.Draws.{draw}
use Rattle.numbered_names.specs.Names.{numbered_name}
use Rattle.wf_gen.specs.Turns.{Pending, State, Generated, no_pending, pending_from, place_picked, child_count, event_of, next_turn, draws_after, after_turn, after_draws, first_state, turns, started}
use Rattle.wf_gen.specs.Coming.{IsFirst, IsNext, coming, rest_of, has_ended}
use Rattle.wf_gen.specs.Held.{all_pending, AreComposite, IsTurn, AreLeft, IsKept}
use Rattle.wf_gen.proofs.Lists.{left_in}
use Rattle.wf_gen.proofs.Children.{child_from}

-- whether the program's list is empty
pub none_held : (xs : List PendingHeld) (n : ℕ) (b : Bool) → n ≡ length xs → b ≡ (n == 0) → b ≡ true → is_nil (all_pending xs) ≡ true
none_held [] n b e t h = refl
none_held (x ∷ xs) n b e t h = let q : n == 0 ≡ true = sym t ∙ h in let z : n ≡ 0 = eqb-true n 0 q in absurd (omega arith)

pub some_held : (xs : List PendingHeld) (n : ℕ) (b : Bool) → n ≡ length xs → b ≡ (n == 0) → b ≡ false → is_nil (all_pending xs) ≡ false
some_held [] n b e t h = absurd (true≢false (sym (t ∙ eq-eqb n 0 e) ∙ h))
some_held (x ∷ xs) n b e t h = refl

pub some_pending : (ps : List Pending) → is_nil ps ≡ false → 0 < length ps
some_pending [] e = absurd (true≢false e)
some_pending (p ∷ ps) e = omega arith

module _ (g : Grammar) (limit : ℕ) where
  running : (n : ℕ) (s : State) → s.made == 0 ≡ false → rest_of g limit n s ≡ turns g limit n s
  running n s e = ap (λ b. cond b (started g limit n s.draws) (turns g limit n s)) e

  -- the start event comes first
  pub start_next : (n : ℕ) (s new : State) → s.made ≡ 0 → new ≡ first_state g s.draws → IsFirst (coming g limit n s) (Start (numbered_name 0)) (coming g limit n new)
  start_next n s new none first =
      let old : rest_of g limit n s ≡ started g limit n s.draws = ap (λ k. cond (k == 0) (started g limit n s.draws) (turns g limit n s)) none in
      let later : rest_of g limit n new ≡ turns g limit n (first_state g s.draws) = ap (rest_of g limit n) first in
      record {
        events = ap (λ (r : Generated). r.events) old ∙ ap (λ (r : Generated). Start (numbered_name 0) ∷ r.events) (sym later);
        draws = ap (λ (r : Generated). r.last.draws) later ∙ sym (ap (λ (r : Generated). r.last.draws) old);
      }

  -- where no turn is left, or nothing is pending, nothing comes
  pub no_turn : (n : ℕ) (s : State) → (n == 0) || is_nil s.pending ≡ true → turns g limit n s ≡ record { events = []; last = s }
  no_turn zero s e = refl
  no_turn (suc n) s e =
      let some : suc n == 0 ≡ false = grind (arith, nat_tests) in
      let nil : is_nil s.pending ≡ true = sym (ap (λ b. b || is_nil s.pending) some) ∙ e in
      ap (λ b. cond {A = Generated} b (record { events = []; last = s }) (cond (nat_lt limit (s.made + child_count g (next_turn g s))) (record { events = []; last = after_draws s })
      (record { events = event_of g s.made (next_turn g s) ∷ (turns g limit n (after_turn g s (next_turn g s) (draws_after s))).events; last = (turns g limit n (after_turn g s (next_turn g s) (draws_after s))).last }))) nil

  pub nothing_next : (n : ℕ) (s : State) → s.made == 0 ≡ false → (n == 0) || is_nil s.pending ≡ true → IsNext (coming g limit n s) None (coming g limit n s)
  nothing_next n s begun none =
      let r = running n s begun ∙ no_turn n s none in
      record {
        none = ap (λ (r : Generated). r.events) r;
        none_after = ap (λ (r : Generated). r.events) r;
        draws = refl;
        ended = ap (λ b. not b && ((n == 0) || is_nil s.pending)) begun ∙ none;
      }

  -- once it is known that nothing comes, the draws are the next ones
  pub ended_coming : (n : ℕ) (s : State) → has_ended n s ≡ true → coming g limit n s ≡ record { events = []; draws = s.draws; ended = true }
  ended_coming n s e =
      let h = and_parts (not (s.made == 0)) ((n == 0) || is_nil s.pending) e in
      let r = running n s (not_true (s.made == 0) h.0) ∙ no_turn n s h.1 in
      λ i. record { events = (r i).events; draws = (r i).last.draws; ended = e i }
    where
      not_true : (b : Bool) → not b ≡ true → b ≡ false
      not_true true q = absurd (true≢false (sym q))
      not_true false q = refl

  -- the first turn of several
  one_turn : (n : ℕ) (s : State) → is_nil s.pending ≡ false → turns g limit (suc n) s ≡
      cond (nat_lt limit (s.made + child_count g (next_turn g s))) (record { events = []; last = after_draws s })
      (record { events = event_of g s.made (next_turn g s) ∷ (turns g limit n (after_turn g s (next_turn g s) (draws_after s))).events; last = (turns g limit n (after_turn g s (next_turn g s) (draws_after s))).last })
  one_turn n s e = ap (λ b. cond b (record { events = []; last = s }) (cond (nat_lt limit (s.made + child_count g (next_turn g s))) (record { events = []; last = after_draws s })
      (record { events = event_of g s.made (next_turn g s) ∷ (turns g limit n (after_turn g s (next_turn g s) (draws_after s))).events; last = (turns g limit n (after_turn g s (next_turn g s) (draws_after s))).last }))) e

  pub stopped : (n : ℕ) (s : State) → is_nil s.pending ≡ false → limit < s.made + child_count g (next_turn g s) → turns g limit (suc n) s ≡ record { events = []; last = after_draws s }
  stopped n s some past =
      let t : nat_lt limit (s.made + child_count g (next_turn g s)) ≡ true = grind (arith, nat_tests) in
      one_turn n s some ∙ ap (λ b. cond b (record { events = []; last = after_draws s })
      (record { events = event_of g s.made (next_turn g s) ∷ (turns g limit n (after_turn g s (next_turn g s) (draws_after s))).events; last = (turns g limit n (after_turn g s (next_turn g s) (draws_after s))).last })) t

  pub went_on : (n : ℕ) (s : State) → is_nil s.pending ≡ false → s.made + child_count g (next_turn g s) ≤ limit → turns g limit (suc n) s ≡
      record { events = event_of g s.made (next_turn g s) ∷ (turns g limit n (after_turn g s (next_turn g s) (draws_after s))).events; last = (turns g limit n (after_turn g s (next_turn g s) (draws_after s))).last }
  went_on n s some within =
      let t : nat_lt limit (s.made + child_count g (next_turn g s)) ≡ false = grind (arith, nat_tests) in
      one_turn n s some ∙ ap (λ b. cond b (record { events = []; last = after_draws s })
      (record { events = event_of g s.made (next_turn g s) ∷ (turns g limit n (after_turn g s (next_turn g s) (draws_after s))).events; last = (turns g limit n (after_turn g s (next_turn g s) (draws_after s))).last })) t

  begun_after : (s : State) → s.made == 0 ≡ false → (k : ℕ) → (s.made + k == 0) ≡ false
  begun_after s e k = grind (arith, nat_tests)

  turn_next_of : (n left : ℕ) (s new : State) (e : Option Event) → s.made == 0 ≡ false → is_nil s.pending ≡ false → IsTurn g limit s e new → AreLeft (suc n) e left → IsNext (coming g limit (suc n) s) e (coming g limit left new)
  turn_next_of n left s new None begun some turn l =
      let old = running (suc n) s begun ∙ stopped n s some turn.0 in
      let later : rest_of g limit left new ≡ record { events = []; last = after_draws s } = (λ i. rest_of g limit (l i) (turn.1 i)) ∙ running 0 (after_draws s) begun in
      record {
        none = ap (λ (r : Generated). r.events) old;
        none_after = ap (λ (r : Generated). r.events) later;
        draws = ap (λ (r : Generated). r.last.draws) later ∙ sym (ap (λ (r : Generated). r.last.draws) old);
        ended = (λ i. has_ended (l i) (turn.1 i)) ∙ ap (λ b. not b && true) begun;
      }
  turn_next_of n left s new (Some e) begun some turn l =
      let after = after_turn g s (next_turn g s) (draws_after s) in
      let k : left ≡ n = omega arith in
      let old = running (suc n) s begun ∙ went_on n s some turn.0 in
      let later : rest_of g limit left new ≡ turns g limit n (after_turn g s (next_turn g s) (draws_after s)) =
      (λ i. rest_of g limit (k i) (turn.2 i)) ∙ running n (after_turn g s (next_turn g s) (draws_after s)) (begun_after s begun (child_count g (next_turn g s))) in
      record {
        events = ap (λ (r : Generated). r.events) old ∙ (λ i. sym turn.1 i ∷ sym (ap (λ (r : Generated). r.events) later) i);
        draws = ap (λ (r : Generated). r.last.draws) later ∙ sym (ap (λ (r : Generated). r.last.draws) old);
      }

  pub turn_next : (n left : ℕ) (s new : State) (e : Option Event) → 0 < n → s.made == 0 ≡ false → is_nil s.pending ≡ false → IsTurn g limit s e new → AreLeft n e left → IsNext (coming g limit n s) e (coming g limit left new)
  turn_next zero left s new e some begun pending turn l = absurd (omega arith)
  turn_next (suc n) left s new e some begun pending turn l = turn_next_of n left s new e begun pending turn l

module _ (g : Grammar) (limit : ℕ) (formed : IsWellFormed g) where
  children_composite : (k : ℕ) (ms : List ℕ) → AreComposite g (pending_from g k ms)
  children_composite k ms p h =
      let r = child_from g k ms p h in
      let composite = composite_gives g p.module_no r.3 in
      (composite_below g formed p.module_no composite, composite)

  pub start_kept : (s new : State) → IsKept g limit s → new ≡ first_state g s.draws → IsKept g limit new
  start_kept s new k first = subst (IsKept g limit) (sym first) (record {
    room = k.room;
    within = (let r = k.room in omega arith);
    before_start = λ e. absurd (omega arith);
    composite = children_composite 0 (g.start ∷ []);
  })

  pub turn_kept : (s new : State) (e : Option Event) → 0 < length s.pending → s.made == 0 ≡ false → IsKept g limit s → IsTurn g limit s e new → IsKept g limit new
  turn_kept s new None some begun k turn = subst (IsKept g limit) (sym turn.1) (record {
    room = k.room;
    within = k.within;
    before_start = k.before_start;
    composite = k.composite;
  })
  turn_kept s new (Some e) some begun k turn =
      let t = next_turn g s in
      let place : place_picked s.pending (draw s.draws) < length s.pending = mod_below (draw s.draws) (length s.pending) some in
      subst (IsKept g limit) (sym turn.2) (record {
        room = k.room;
        within = turn.0;
        before_start = λ z. absurd (true≢false (sym (eq-eqb (s.made + child_count g (next_turn g s)) 0 z) ∙ begun_later begun (child_count g (next_turn g s))));
        composite = λ p h. ⊎_elim
            (λ a. k.composite p (left_in s.pending (place_picked s.pending (draw s.draws)) no_pending p place a))
            (λ b. children_composite s.made (body_of g (next_turn g s).production) p b)
            (in_append_cases p _ (pending_from g s.made (body_of g (next_turn g s).production)) h);
      })
    where
      begun_later : s.made == 0 ≡ false → (k : ℕ) → (s.made + k == 0) ≡ false
      begun_later e k = grind (arith, nat_tests)
