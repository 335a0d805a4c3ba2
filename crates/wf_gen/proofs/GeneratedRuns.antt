-- The laws of generated runs: so many turns go on with a run, or stop.
use Rattle.std.proofs.Common.{◌≡◌, ◌==◌, ℕ, zero, suc, ◌+◌, ◌<◌, ◌≤◌, ◌^◌, ◌⊎◌, Bool, true, false, List, [], ◌∷◌, ◌++◌, map, take, drop, length, refl, sym, ap, ◌∙◌, subst, inl, inr, ⊎_elim, arith, append_assoc, append-nil, take-append-drop, length-append}
use Rattle.std.proofs.lemmas.Bool.{cases_lt, or_right}
use Rattle.std.proofs.lemmas.List.{length-map, map-append}
use Rattle.wf_model.specs.Lists.{IsIn}
use Rattle.wf_model.specs.Grammar.{Grammar}
use Rattle.wf_model.specs.WellFormed.{IsWellFormed}
use Rattle.wf_model.specs.Faults.{is_nil}
use Rattle.wf_model.specs.declared.event.Event.{Event}
use Rattle.wf_model.specs.declared.event.Event.TheVariants.{Start}
use Rattle.wf_model.specs.Run.{Instance, made, names_of, IsAccepted}
use Rattle.wf_model.proofs.Lists.{in_append_left, in_map_from}
use Rattle.wf_model.proofs.Runs.{made-append, AllExtend-append}
use Rattle.wf_model.proofs.Taking.{nil_gives}
use Rattle.wf_gen.specs.Draws.{seeded, draw, drawn}
use Rattle.numbered_names.specs.Names.{numbered_name}
use Rattle.wf_gen.specs.Turns.{State, Generated, turn_picked, child_count, event_of, next_turn, draws_after, after_turn, after_draws, first_state, turns, generated}
use Rattle.wf_gen.specs.Laws.{instance_of, IsUnexpanded, IsGeneratedRun, GeneratedRunLaw, IsFull, IsStopped, GeneratedLengthLaw}
use Rattle.numbered_names.proofs.Numbered.{name_good, name_from, length-names}
use Rattle.wf_gen.proofs.Coming.{some_pending, no_turn, stopped, went_on}
use Rattle.wf_gen.proofs.Following.{Follows, with_draws, first_follows, turn_follows}

module _ (g : Grammar) (limit : ℕ) (formed : IsWellFormed g) (small : limit < 2 ^ 64) where
  -- so many turns go on with the run
  pub turns_follow : (n : ℕ) (b : List Event) (s : State) → Follows g limit b s → Follows g limit (b ++ (turns g limit n s).events) (turns g limit n s).last
  turns_follow zero b s f = subst (λ l. Follows g limit l s) (sym (append-nil b)) f
  turns_follow (suc n) b s f = go (λ a t h. turns_follow n a t h) (is_nil s.pending) refl
    where
      stay : (t : State) → turns g limit (suc n) s ≡ record { events = []; last = t } → Follows g limit b t → Follows g limit (b ++ (turns g limit (suc n) s).events) (turns g limit (suc n) s).last
      stay t q h = subst (λ (x : Generated). Follows g limit (b ++ x.events) x.last) (sym q) (subst (λ l. Follows g limit l t) (sym (append-nil b)) h)

      go : ((a : List Event) (t : State) → Follows g limit a t → Follows g limit (a ++ (turns g limit n t).events) (turns g limit n t).last) → (t : Bool) → is_nil s.pending ≡ t → Follows g limit (b ++ (turns g limit (suc n) s).events) (turns g limit (suc n) s).last
      go ih true e = stay s (no_turn g limit (suc n) s (or_right (suc n == 0) (is_nil s.pending) e)) f
      go ih false e = ⊎_elim
          (λ (h : limit < s.made + child_count g (next_turn g s)). stay (after_draws s) (stopped g limit n s e h) (with_draws g limit b s f))
          (λ (h : s.made + child_count g (next_turn g s) ≤ limit).
          let r = ih (b ++ event_of g s.made (next_turn g s) ∷ []) (after_turn g s (next_turn g s) (draws_after s)) (turn_follows g limit formed small b s f (some_pending s.pending e) h) in
          subst (λ (y : Generated). Follows g limit (b ++ y.events) y.last) (sym (went_on g limit n s e h))
          (subst (λ l. Follows g limit l (turns g limit n (after_turn g s (next_turn g s) (draws_after s))).last) (append_assoc b (event_of g s.made (next_turn g s) ∷ []) (turns g limit n (after_turn g s (next_turn g s) (draws_after s))).events) r))
          (cases_lt limit (s.made + child_count g (next_turn g s)))

  pub generated_follows : (n seed : ℕ) → 0 < limit → Follows g limit (generated g n seed limit).events (generated g n seed limit).last
  generated_follows n seed room = turns_follow n (Start (numbered_name 0) ∷ []) (first_state g (seeded seed)) (first_follows g limit formed small (seeded seed) room)

-- a beginning of an accepted run is accepted
pub beginning_accepted : (g : Grammar) (limit : ℕ) (a b : List Event) → IsAccepted g limit (a ++ b) → IsAccepted g limit a
beginning_accepted g limit a b x =
    let m = made-append g g.start a b in
    let l : length (made g g.start (a ++ b)) ≡ length (made g g.start a) + length (made g g.start b) = ap length m ∙ length-append (made g g.start a) (made g g.start b) in
    let few : length (made g g.start (a ++ b)) ≤ limit = x.1 in (
      (AllExtend-append g g.start [] a b x.0).0,
      omega arith,
      λ n h. x.2 n (subst (λ is. IsIn n (names_of is)) (sym m) (subst (λ ns. IsIn n ns) (sym (map-append (λ (i : Instance). i.name) (made g g.start a) (made g g.start b))) (in_append_left n (names_of (made g g.start a)) (names_of (made g g.start b)) h))),
    )

module _ (g : Grammar) (formed : IsWellFormed g) (n seed limit : ℕ) (room : 0 < limit) (small : limit < 2 ^ 64) where
  abbrev events : List Event
  events = (generated g n seed limit).events

  abbrev last : State
  last = (generated g n seed limit).last

  follows : Follows g limit events last
  follows = generated_follows g limit formed small n seed room

  count : length (made g g.start events) ≡ last.made
  count = sym (length-map (made g g.start events) (λ (i : Instance). i.name)) ∙ (ap length follows.names ∙ length-names 0 last.made)

  accepted : IsAccepted g limit events
  accepted = (
    follows.run,
    (let w : last.made ≤ limit = follows.within in let c = count in omega arith),
    λ m h. let x = name_from 0 last.made m (subst (λ l. IsIn m l) follows.names h) in let l : x.0 < 0 + last.made = x.2 in let w : last.made ≤ limit = follows.within in subst (λ z. length z ≤ 64) (sym x.3) (name_good x.0 (omega arith)).1,
  )

  waiting : (i : Instance) → IsIn i (map instance_of last.pending) → IsUnexpanded g events i
  waiting i h = let r = in_map_from instance_of i last.pending h in subst (IsUnexpanded g events) (sym r.2) (follows.waits r.0 r.1)

  is_generated_run : IsGeneratedRun g limit (generated g n seed limit)
  is_generated_run = record {
    accepted = accepted;
    each = λ k. beginning_accepted g limit (take k events) (drop k events) (subst (IsAccepted g limit) (sym (take-append-drop k events)) accepted);
    pending = λ i. (waiting i, follows.all i);
    count = count;
  }

pub generated_run_law : GeneratedRunLaw
generated_run_law g formed n seed limit room small = is_generated_run g formed n seed limit room small

-- so many turns give as many events, or stop
module _ (g : Grammar) (limit : ℕ) where
  abbrev Stops : ℕ → Generated → Type 0
  Stops n r = (length r.events ≡ n) ⊎ ((length r.events < n) × ((r.last.pending ≡ []) ⊎ ((d : ℕ) × (e : ℕ) × (limit < r.last.made + child_count g (turn_picked g r.last.pending d e)))))

  turns_stop : (n : ℕ) (s : State) → Stops n (turns g limit n s)
  turns_stop zero s = inl refl
  turns_stop (suc n) s = go (turns_stop n (after_turn g s (next_turn g s) (draws_after s))) (is_nil s.pending) refl
    where
      one_more : (r : Generated) → Stops n r → Stops (suc n) (record { events = event_of g s.made (next_turn g s) ∷ r.events; last = r.last })
      one_more r (inl q) = inl (ap suc q)
      one_more r (inr q) = let l : length r.events < n = q.0 in inr (omega arith, q.1)

      go : Stops n (turns g limit n (after_turn g s (next_turn g s) (draws_after s))) → (t : Bool) → is_nil s.pending ≡ t → Stops (suc n) (turns g limit (suc n) s)
      go ih true e = subst (Stops (suc n)) (sym (no_turn g limit (suc n) s (or_right (suc n == 0) (is_nil s.pending) e))) (inr (omega arith, inl (nil_gives s.pending e)))
      go ih false e = ⊎_elim
          (λ h. subst (Stops (suc n)) (sym (stopped g limit n s e h)) (inr (omega arith, inr (draw s.draws, draw (drawn s.draws), h))))
          (λ h. subst (Stops (suc n)) (sym (went_on g limit n s e h)) (one_more (turns g limit n (after_turn g s (next_turn g s) (draws_after s))) ih))
          (cases_lt limit (s.made + child_count g (next_turn g s)))

pub generated_length_law : GeneratedLengthLaw
generated_length_law g n seed limit = go (turns_stop g limit n (first_state g (seeded seed)))
  where
    go : Stops g limit n (turns g limit n (first_state g (seeded seed))) → IsFull n (generated g n seed limit) ⊎ IsStopped g limit n (generated g n seed limit)
    go (inl q) = inl (omega (arith, q))
    go (inr q) = let l : length (turns g limit n (first_state g (seeded seed))).events < n = q.0 in inr (omega arith, q.1)
