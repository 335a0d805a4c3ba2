-- The pairs of a module in each state: those of lists with the same pairs are the same, and so are those that a lifted view shows.
use Rattle.std.proofs.Common.{◌≡◌, ℕ, ◌+◌, ◌*◌, ◌^◌, ◌%◌, ◌<◌, ◌==◌, ◌&&◌, ◌||◌, Bool, true, false, cond, List, [], ◌∷◌, ◌++◌, length, map, get_or, set, bit_or, refl, sym, ap, ◌∙◌, subst, append-nil}
use Rattle.std.specs.Int.{bit_at}
use Rattle.std.specs.Cmp.Derive.{one_truth}
use Rattle.std.proofs.lemmas.Bool.{and_parts, and_from, eqb-true, eq-eqb}
use Rattle.std.proofs.lemmas.List.Concat.{flat_map-append}
use Rattle.wf_model.specs.Lists.{IsIn, numbers_from}
use Rattle.wf_model.specs.View.{View, shows}
use Rattle.wf_model.proofs.Lists.{some_from, some_gives}
use Rattle.wf_model.proofs.Joined.{some-append}
use Rattle.wf_spec.specs.Rows.{bit_in, has_pair, AreAdded}
use Rattle.wf_spec.proofs.Rows.{pair_added}
use Rattle.words_model.specs.Automata.{Automaton, next_state}
use Rattle.words_model.specs.Lifting.{in_state, lift_pairs, lift_view}
use Rattle.words_model.proofs.States.{in_states, in_states_from}
use Rattle.words_model.proofs.LiftedPairs.{lift_pair, shows_from, shows_in}
use Rattle.wf_lift.specs.RowPairs.{bit_pair}
use Rattle.wf_lift.proofs.Growing.{map_numbers_more}

-- pairs are added that are those of two lists
pub added_both : (xs ys : List (ℕ × ℕ)) (a b c : List ℕ) → AreAdded xs a b → AreAdded ys b c → AreAdded (xs ++ ys) a c
added_both xs ys a b c first second i o =
    second i o ∙ (ap (λ n. cond {A = ℕ} (has_pair ys i o) 1 n) (first i o) ∙ (chain (has_pair xs i o) (has_pair ys i o) (bit_in a i o)
    ∙ ap (λ t. cond {A = ℕ} t 1 (bit_in a i o)) (sym (some-append (λ (e : ℕ × ℕ). (e.0 == i) && (e.1 == o)) xs ys))))
  where
    chain : (x y : Bool) (n : ℕ) → cond {A = ℕ} y 1 (cond {A = ℕ} x 1 n) ≡ cond {A = ℕ} (x || y) 1 n
    chain true true n = refl
    chain true false n = refl
    chain false true n = refl
    chain false false n = refl

pub none_added : (rows : List ℕ) → AreAdded [] rows rows
none_added rows i o = refl

-- the pairs of two lists in each state
pub lift-append : (a : Automaton) (m : ℕ) (xs ys : List (ℕ × ℕ)) → lift_pairs a m (xs ++ ys) ≡ lift_pairs a m xs ++ lift_pairs a m ys
lift-append a m xs ys = flat_map-append _ xs ys

-- they are added one after another
pub lifted_both : (a : Automaton) (m : ℕ) (xs ys : List (ℕ × ℕ)) (old mid new : List ℕ) → AreAdded (lift_pairs a m xs) old mid → AreAdded (lift_pairs a m ys) mid new → AreAdded (lift_pairs a m (xs ++ ys)) old new
lifted_both a m xs ys old mid new first second = subst (λ (l : List (ℕ × ℕ)). AreAdded l old new) (sym (lift-append a m xs ys)) (added_both (lift_pairs a m xs) (lift_pairs a m ys) old mid new first second)

-- a list has a pair exactly if it is in it
has_gives : (xs : List (ℕ × ℕ)) (i o : ℕ) → has_pair xs i o ≡ true → IsIn {A = ℕ × ℕ} (i, o) xs
has_gives xs i o h =
    let w = some_gives (λ (e : ℕ × ℕ). (e.0 == i) && (e.1 == o)) xs h in
    let q = and_parts (w.0.0 == i) (w.0.1 == o) w.2 in
    let e : w.0 ≡ (i, o) = (λ t. (eqb-true w.0.0 i q.0 t, eqb-true w.0.1 o q.1 t)) in
    subst (λ z. IsIn {A = ℕ × ℕ} z xs) e w.1

has_from : (xs : List (ℕ × ℕ)) (e : ℕ × ℕ) → IsIn e xs → has_pair xs e.0 e.1 ≡ true
has_from xs e h = some_from (λ (z : ℕ × ℕ). (z.0 == e.0) && (z.1 == e.1)) e xs h (and_from (e.0 == e.0) (e.1 == e.1) (eq-eqb e.0 e.0 refl) (eq-eqb e.1 e.1 refl))

-- where a list has the pairs that a view shows, in each state it has those that the lifted view shows
pub lifted_shown : (a : Automaton) (u : View) (m : ℕ) (xs : List (ℕ × ℕ)) → ((i o : ℕ) → has_pair xs i o ≡ shows u m i o) → (i o : ℕ) → has_pair (lift_pairs a m xs) i o ≡ shows (lift_view a u) m i o
lifted_shown a u m xs same i o = one_truth (has_pair (lift_pairs a m xs) i o) (shows (lift_view a u) m i o) there back
  where
    there : has_pair (lift_pairs a m xs) i o ≡ true → shows (lift_view a u) m i o ≡ true
    there h =
        let q = in_states_from (lift_pair a m) a.states (i, o) xs (has_gives (lift_pairs a m xs) i o h) in
        let t = shows_in a u m q.0.0 q.0.1 q.1 q.2 (sym (same q.0.0 q.0.1) ∙ has_from xs q.0 q.3) in
        ap (λ (z : ℕ × ℕ). shows (lift_view a u) m z.0 z.1) q.4 ∙ t

    back : shows (lift_view a u) m i o ≡ true → has_pair (lift_pairs a m xs) i o ≡ true
    back h =
        let f = shows_from a u m i o h in
        let inside = has_gives xs f.i0 f.o0 (same f.i0 f.o0 ∙ f.shown) in
        let e : (i, o) ≡ lift_pair a m f.s (f.i0, f.o0) = (λ t. (f.input_is t, f.output_is t)) in
        ap (λ (z : ℕ × ℕ). has_pair (lift_pairs a m xs) z.0 z.1) e ∙ has_from (lift_pairs a m xs) (lift_pair a m f.s (f.i0, f.o0)) (in_states (lift_pair a m) a.states (f.i0, f.o0) f.s xs f.state inside)

-- the pair of a module from one state to the next
abbrev pub pair_at : Automaton → ℕ → ℕ → ℕ → ℕ → ℕ × ℕ
pair_at a m input output s = (in_state a.states s input, in_state a.states (next_state a s m) output)

-- one state more
pub state_more : (a : Automaton) (m input output : ℕ) (first rows : List ℕ) (s i o : ℕ) → AreAdded (map (pair_at a m input output) (numbers_from 0 s)) first rows →
    i ≡ in_state a.states s input → o ≡ in_state a.states (next_state a s m) output → i < length rows → o < 64 →
    AreAdded (map (pair_at a m input output) (numbers_from 0 (s + 1))) first (set rows i (bit_or (get_or rows i 0) (1 * 2 ^ o % 18446744073709551616)))
state_more a m input output first rows s i o so_far is to inside low =
    let new = set rows i (bit_or (get_or rows i 0) (1 * 2 ^ o % 18446744073709551616)) in
    let e : (i, o) ≡ pair_at a m input output s = (λ t. (is t, to t)) in
    let one : AreAdded (pair_at a m input output s ∷ []) rows new = subst (λ (z : ℕ × ℕ). AreAdded (z ∷ []) rows new) e (pair_added rows i o inside low) in
    subst (λ (l : List (ℕ × ℕ)). AreAdded l first new) (sym (map_numbers_more (pair_at a m input output) s))
    (added_both (map (pair_at a m input output) (numbers_from 0 s)) (pair_at a m input output s ∷ []) first rows new so_far one)

-- in all states
pub state_all : (a : Automaton) (m input output : ℕ) (old new : List ℕ) (s : ℕ) → s ≡ a.states → AreAdded (map (pair_at a m input output) (numbers_from 0 s)) old new → AreAdded (lift_pairs a m ((input, output) ∷ [])) old new
state_all a m input output old new s end added =
    subst (λ (l : List (ℕ × ℕ)). AreAdded l old new) (sym (append-nil (map (pair_at a m input output) (numbers_from 0 a.states))))
    (subst (λ n. AreAdded (map (pair_at a m input output) (numbers_from 0 n)) old new) end added)

-- the bit of a pair is set, or it is not
pub pair_taken : (a : Automaton) (m i row o : ℕ) (old new : List ℕ) → (bit_at row o == 1) ≡ true → AreAdded (lift_pairs a m ((i, o) ∷ [])) old new → AreAdded (lift_pairs a m (bit_pair i row o)) old new
pair_taken a m i row o old new e h = subst (λ b. AreAdded (lift_pairs a m (cond b ((i, o) ∷ []) [])) old new) (sym e) h

pub pair_left : (a : Automaton) (m i row o : ℕ) (rows : List ℕ) → (bit_at row o == 1) ≡ false → AreAdded (lift_pairs a m (bit_pair i row o)) rows rows
pair_left a m i row o rows e = subst (λ b. AreAdded (lift_pairs a m (cond b ((i, o) ∷ []) [])) rows rows) (sym e) (none_added rows)
