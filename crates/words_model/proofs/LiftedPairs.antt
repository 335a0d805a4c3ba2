-- The pairs that a lifted view shows, and the states that an automaton comes to.
use Rattle.std.proofs.Common.{◌≡◌, ℕ, zero, suc, ◌+◌, ◌<◌, Bool, true, false, cond, ◌&&◌, List, [], ◌∷◌, get_or, eqb, refl, sym, ap, ◌∙◌, subst, inl, inr, arith, true≢false}
use Rattle.std.proofs.lemmas.Bool.{and_parts, and_from, eqb-true, eq-eqb}
use Rattle.wf_model.specs.Lists.{IsIn}
use Rattle.wf_model.specs.View.{View, expands, shows}
use Rattle.wf_model.specs.Links.{perceived}
use Rattle.wf_model.proofs.Lists.{some_from, some_gives}
use Rattle.words_model.specs.Automata.{Move, Automaton, IsAutomaton, moved_by, next_state, state_after}
use Rattle.words_model.specs.Lifting.{in_state, lift_pairs, lift_shown, lift_view}
use Rattle.words_model.proofs.States.{in_states, in_states_from}

-- the next state of a state is a state
pub next_below : (a : Automaton) → IsAutomaton a → (s m : ℕ) → s < a.states → next_state a s m < a.states
next_below a ia s m hs = go a.moves (λ v h. h)
  where
    go : (vs : List Move) → ((v : Move) → IsIn v vs → IsIn v a.moves) → moved_by vs s m < a.states
    go [] h = hs
    go (v ∷ vs) h = by_test (eqb v.from s && eqb v.module_no m) (go vs (λ w q. h w (inr q)))
      where
        by_test : (b : Bool) → moved_by vs s m < a.states → cond b v.to (moved_by vs s m) < a.states
        by_test true ih = (ia.moves v (h v (inl refl))).1
        by_test false ih = ih

pub after_below : (a : Automaton) → IsAutomaton a → (s : ℕ) (word : List ℕ) → s < a.states → state_after a s word < a.states
after_below a ia s [] hs = hs
after_below a ia s (m ∷ word) hs = after_below a ia (next_state a s m) word (next_below a ia s m hs)

-- a pair of the module m in the state s
abbrev pub lift_pair : Automaton → ℕ → ℕ → ℕ × ℕ → ℕ × ℕ
lift_pair a m s e = (in_state a.states s e.0, in_state a.states (next_state a s m) e.1)

lifted_shown : (a : Automaton) (c j : ℕ) (xs : List (List (ℕ × ℕ))) → get_or (lift_shown a c xs) j [] ≡ lift_pairs a (c + j) (get_or xs j [])
lifted_shown a c j [] = refl
lifted_shown a c zero (x ∷ xs) = let e : c ≡ c + 0 = omega arith in ap (λ z. lift_pairs a z x) e
lifted_shown a c (suc j) (x ∷ xs) = let e : suc c + j ≡ c + suc j = omega arith in lifted_shown a (suc c) j xs ∙ ap (λ z. lift_pairs a z (get_or xs j [])) e

shown_at : (a : Automaton) (u : View) (m : ℕ) → get_or (lift_view a u).shown m [] ≡ lift_pairs a m (get_or u.shown m [])
shown_at a u m = let e : 0 + m ≡ m = omega arith in lifted_shown a 0 m u.shown ∙ ap (λ z. lift_pairs a z (get_or u.shown m [])) e

-- the test by which a view shows a pair
abbrev is_pair : ℕ → ℕ → ℕ × ℕ → Bool
is_pair i o e = eqb e.0 i && eqb e.1 o

pair_is : (i o : ℕ) (e : ℕ × ℕ) → is_pair i o e ≡ true → (e.0 ≡ i) × (e.1 ≡ o)
pair_is i o e h = let q = and_parts (eqb e.0 i) (eqb e.1 o) h in (eqb-true e.0 i q.0, eqb-true e.1 o q.1)

is_that_pair : (i o : ℕ) (e : ℕ × ℕ) → e.0 ≡ i → e.1 ≡ o → is_pair i o e ≡ true
is_that_pair i o e p q = and_from (eqb e.0 i) (eqb e.1 o) (eq-eqb e.0 i p) (eq-eqb e.1 o q)

-- a pair that a lifted view shows is one that the view shows, in a state and the next
pub record IsLiftedPair (a : Automaton) (u : View) (m i o : ℕ) : Type 0 where
  pub i0 : ℕ
  pub o0 : ℕ
  pub s : ℕ
  pub state : s < a.states
  pub shown : shows u m i0 o0 ≡ true
  pub input_is : i ≡ in_state a.states s i0
  pub output_is : o ≡ in_state a.states (next_state a s m) o0

pub shows_from : (a : Automaton) (u : View) (m i o : ℕ) → shows (lift_view a u) m i o ≡ true → IsLiftedPair a u m i o
shows_from a u m i o h =
    let w = some_gives (is_pair i o) (get_or (lift_view a u).shown m []) h in
    let at = pair_is i o w.0 w.2 in
    let q = in_states_from (lift_pair a m) a.states w.0 (get_or u.shown m []) (subst (IsIn w.0) (shown_at a u m) w.1) in
    record {
      i0 = q.0.0;
      o0 = q.0.1;
      s = q.1;
      state = q.2;
      shown = some_from (is_pair q.0.0 q.0.1) q.0 (get_or u.shown m []) q.3 (is_that_pair q.0.0 q.0.1 q.0 refl refl);
      input_is = sym at.0 ∙ ap (λ (z : ℕ × ℕ). z.0) q.4;
      output_is = sym at.1 ∙ ap (λ (z : ℕ × ℕ). z.1) q.4;
    }

pub shows_in : (a : Automaton) (u : View) (m i o s : ℕ) → s < a.states → shows u m i o ≡ true → shows (lift_view a u) m (in_state a.states s i) (in_state a.states (next_state a s m) o) ≡ true
shows_in a u m i o s hs h =
    let w = some_gives (is_pair i o) (get_or u.shown m []) h in
    let at = pair_is i o w.0 w.2 in
    let there : IsIn (lift_pair a m s w.0) (get_or (lift_view a u).shown m []) = subst (IsIn (lift_pair a m s w.0)) (sym (shown_at a u m)) (in_states (lift_pair a m) a.states w.0 s (get_or u.shown m []) hs w.1) in
    some_from (is_pair (in_state a.states s i) (in_state a.states (next_state a s m) o)) (lift_pair a m s w.0) (get_or (lift_view a u).shown m []) there
    (is_that_pair (in_state a.states s i) (in_state a.states (next_state a s m) o) (lift_pair a m s w.0) (ap (in_state a.states s) at.0) (ap (in_state a.states (next_state a s m)) at.1))

-- a module with a perceived pair is not expanded, and the pair is shown
pub perceived_shown : (u : View) (m i o : ℕ) → perceived u m i o ≡ true → (expands u m ≡ false) × (shows u m i o ≡ true)
perceived_shown u m i o h = go (expands u m) refl h
  where
    go : (b : Bool) → expands u m ≡ b → cond b false (shows u m i o) ≡ true → (expands u m ≡ false) × (shows u m i o ≡ true)
    go true e q = absurd (true≢false (sym q))
    go false e q = (e, q)

pub shown_perceived : (u : View) (m i o : ℕ) → expands u m ≡ false → shows u m i o ≡ true → perceived u m i o ≡ true
shown_perceived u m i o e h = ap (λ b. cond b false (shows u m i o)) e ∙ h
