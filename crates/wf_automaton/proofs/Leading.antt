-- Where moves lead, as a table has it.
use Rattle.std.proofs.Common.{◌≡◌, ℕ, ◌+◌, ◌*◌, ◌<◌, ◌≤◌, ◌==◌, ◌&&◌, Bool, true, false, cond, List, [], ◌∷◌, ◌++◌, length, get_or, set, take, Option, Some, None, refl, sym, ap, subst, ◌∙◌, inl, inr, arith, true≢false, below_more, Fits, w8}
use Rattle.std.specs.Prelude.{unwrap_or, is_some}
use Rattle.std.proofs.lemmas.Bool.{eqb-true, eq-eqb, and_parts}
use Rattle.std.proofs.Math.Arith.{digits_lt}
use Rattle.std.proofs.lemmas.Nat.{same_from_place}
use Rattle.std.proofs.lemmas.List.{get_or-set_same, get_or-set_other, get_or-map, get_or_past, take-map, take_more}
use Rattle.wf_model.specs.Lists.{IsIn}
use Rattle.wf_model.proofs.Lists.{is_at, at_is}
use Rattle.wf_spec.proofs.Tables.{get_in}
use Rattle.wf_spec.specs.FirstFaults.{FailsFirstAt}
use Rattle.words_model.specs.Automata.{Move, moved_by}
use Rattle.words_model.specs.Lifting.{in_state}
use Rattle.wf_automaton.specs.Rules.{move_keys, IsNewMoveAt}
use Rattle.wf_automaton.specs.Tables.{moved_to, AreMovesOf}

-- the state that follows is the one to which a move leads, and else the same
pub moved_is : (vs : List Move) (s m : ℕ) → moved_by vs s m ≡ unwrap_or (moved_to vs s m) s
moved_is [] s m = refl
moved_is (v ∷ vs) s m = by ((v.from == s) && (v.module_no == m)) (moved_is vs s m)
  where
    by : (b : Bool) → moved_by vs s m ≡ unwrap_or (moved_to vs s m) s → cond b v.to (moved_by vs s m) ≡ unwrap_or (cond b (Some v.to) (moved_to vs s m)) s
    by true r = refl
    by false r = r

-- a move behind others leads on where none of them does
behind_none : (vs ws : List Move) (s m : ℕ) → moved_to vs s m ≡ None → moved_to (vs ++ ws) s m ≡ moved_to ws s m
behind_none [] ws s m e = refl
behind_none (v ∷ vs) ws s m e = by ((v.from == s) && (v.module_no == m)) (behind_none vs ws s m) e
  where
    by : (b : Bool) → (moved_to vs s m ≡ None → moved_to (vs ++ ws) s m ≡ moved_to ws s m) → cond b (Some v.to) (moved_to vs s m) ≡ None → cond b (Some v.to) (moved_to (vs ++ ws) s m) ≡ moved_to ws s m
    by true r e = absurd (some_is_not e)
      where
        some_is_not : {x : ℕ} → Some x ≡ None → ⊥
        some_is_not q = true≢false (ap is_some q)
    by false r e = r e

behind_some : (vs ws : List Move) (s m t : ℕ) → moved_to vs s m ≡ Some t → moved_to (vs ++ ws) s m ≡ Some t
behind_some [] ws s m t e = absurd (true≢false (sym (ap is_some e)))
behind_some (v ∷ vs) ws s m t e = by ((v.from == s) && (v.module_no == m)) (behind_some vs ws s m t) e
  where
    by : (b : Bool) → (moved_to vs s m ≡ Some t → moved_to (vs ++ ws) s m ≡ Some t) → cond b (Some v.to) (moved_to vs s m) ≡ Some t → cond b (Some v.to) (moved_to (vs ++ ws) s m) ≡ Some t
    by true r e = e
    by false r e = r e

-- one that is for another state or module changes nothing
behind_other : (vs : List Move) (v : Move) (s m : ℕ) → ((v.from == s) && (v.module_no == m)) ≡ false → moved_to (vs ++ v ∷ []) s m ≡ moved_to vs s m
behind_other vs v s m other = by (moved_to vs s m) refl
  where
    by : (o : Option ℕ) → moved_to vs s m ≡ o → moved_to (vs ++ v ∷ []) s m ≡ o
    by None e = behind_none vs (v ∷ []) s m e ∙ ap (λ b. cond b (Some v.to) None) other
    by (Some t) e = behind_some vs (v ∷ []) s m t e

-- the table with one move more
pub table_more : (k : ℕ) (moves : List Move) (table : List (Option ℕ)) (i : ℕ) (v : Move) → AreMovesOf k (take i moves) table → v ≡ get_or moves i v → i < length moves → v.from < k
    → in_state k v.from v.module_no < length table → get_or table (in_state k v.from v.module_no) None ≡ None → AreMovesOf k (take (i + 1) moves) (set table (in_state k v.from v.module_no) (Some v.to))
table_more k moves table i v known was inside below place free = λ s m hs.
    by s m hs ((v.from == s) && (v.module_no == m)) refl ∙ ap (λ vs. moved_to vs s m) (ap (λ w. take i moves ++ w ∷ []) was ∙ sym (take_more moves i v inside))
  where
    by : (s m : ℕ) → s < k → (b : Bool) → ((v.from == s) && (v.module_no == m)) ≡ b → get_or (set table (in_state k v.from v.module_no) (Some v.to)) (in_state k s m) None ≡ moved_to (take i moves ++ v ∷ []) s m
    by s m hs true e =
        let p = and_parts (v.from == s) (v.module_no == m) e in
        let es : v.from ≡ s = eqb-true v.from s p.0 in
        let em : v.module_no ≡ m = eqb-true v.module_no m p.1 in
        let same : in_state k v.from v.module_no ≡ in_state k s m = ap (λ t. in_state k t v.module_no) es ∙ ap (in_state k s) em in
        ap (λ n. get_or (set table (in_state k v.from v.module_no) (Some v.to)) n None) (sym same)
        ∙ (get_or-set_same table (in_state k v.from v.module_no) (Some v.to) None place
        ∙ (sym (ap (λ b. cond b (Some v.to) None) e)
        ∙ sym (behind_none (take i moves) (v ∷ []) s m (sym (known s m hs) ∙ (ap (λ n. get_or table n None) (sym same) ∙ free)))))
    by s m hs false e =
        get_or-set_other table (in_state k v.from v.module_no) (in_state k s m) (Some v.to) None
        (λ d.
        let q = same_from_place m s v.module_no v.from k hs below d in
        true≢false (sym (ap (λ b. (v.from == s) && b) (eq-eqb v.module_no m (sym q.0)) ∙ ap (λ b. b && true) (eq-eqb v.from s (sym q.1))) ∙ e))
        ∙ (known s m hs ∙ sym (behind_other (take i moves) v s m e))

-- a move that leads on is there
moved_there : (vs : List Move) (s m t : ℕ) → moved_to vs s m ≡ Some t → IsIn (s, m) (move_keys vs)
moved_there [] s m t e = absurd (true≢false (sym (ap is_some e)))
moved_there (v ∷ vs) s m t e = by ((v.from == s) && (v.module_no == m)) refl (moved_there vs s m t) e
  where
    by : (b : Bool) → ((v.from == s) && (v.module_no == m)) ≡ b → (moved_to vs s m ≡ Some t → IsIn (s, m) (move_keys vs)) → cond b (Some v.to) (moved_to vs s m) ≡ Some t → IsIn (s, m) (move_keys (v ∷ vs))
    by true is r e =
        let p = and_parts (v.from == s) (v.module_no == m) is in
        inl (ap (λ x. (x, m)) (sym (eqb-true v.from s p.0)) ∙ ap (λ y. (v.from, y)) (sym (eqb-true v.module_no m p.1)))
    by false is r e = inr (r e)

-- and where none does, none is there
moved_nowhere : (vs : List Move) (s m : ℕ) → moved_to vs s m ≡ None → IsIn (s, m) (move_keys vs) → ⊥
moved_nowhere [] s m e h = h
moved_nowhere (v ∷ vs) s m e h = by ((v.from == s) && (v.module_no == m)) refl (moved_nowhere vs s m) e h
  where
    by : (b : Bool) → ((v.from == s) && (v.module_no == m)) ≡ b → (moved_to vs s m ≡ None → IsIn (s, m) (move_keys vs) → ⊥) → cond b (Some v.to) (moved_to vs s m) ≡ None → IsIn (s, m) (move_keys (v ∷ vs)) → ⊥
    by true is r e h = true≢false (ap is_some e)
    by false is r e (inl d) =
        true≢false (sym (ap (λ b. (v.from == s) && b) (eq-eqb v.module_no m (sym (ap (λ (x : ℕ × ℕ). x.1) d))) ∙ ap (λ b. b && true) (eq-eqb v.from s (sym (ap (λ (x : ℕ × ℕ). x.0) d)))) ∙ is)
    by false is r e (inr h) = r e h

module _ (moves : List Move) (i : ℕ) (v : Move) (was : v ≡ get_or moves i v) (inside : i < length moves) where
  leaves : get_or (move_keys moves) i (0, 0) ≡ (v.from, v.module_no)
  leaves = get_or-map (λ (w : Move). (w.from, w.module_no)) moves i v (0, 0) inside ∙ ap (λ (w : Move). (w.from, w.module_no)) (sym was)

  -- a move whose place is taken is not new
  pub not_new : (t : ℕ) → moved_to (take i moves) v.from v.module_no ≡ Some t → ¬ IsNewMoveAt moves i
  not_new t e new =
      new (subst (λ x. IsIn x (take i (move_keys moves))) (sym leaves) (subst (IsIn (v.from, v.module_no)) (sym (take-map (λ (w : Move). (w.from, w.module_no)) i moves)) (moved_there (take i moves) v.from v.module_no t e)))

  -- and one whose place is free is new
  pub is_new : moved_to (take i moves) v.from v.module_no ≡ None → IsNewMoveAt moves i
  is_new e here =
      moved_nowhere (take i moves) v.from v.module_no e (subst (IsIn (v.from, v.module_no)) (take-map (λ (w : Move). (w.from, w.module_no)) i moves) (subst (λ x. IsIn x (take i (move_keys moves))) leaves here))

-- a state is a small number
pub fits_byte : (x y k : ℕ) → x ≡ y → y < k → k ≤ 64 → Fits w8 x
fits_byte x y k is below few = omega arith

-- one move of a list, and a table of those before it
module _ (k : ℕ) (moves : List Move) (bounds : (v : Move) → IsIn v moves → (v.from < k) × (v.to < k)) (i : ℕ) (v : Move) (was : v ≡ get_or moves i v) (inside : i < length moves) where
  here : IsIn v moves
  here = subst (λ w. IsIn w moves) (sym was) (get_in i moves v inside)

  pub bound : (v.from < k) × (v.to < k)
  bound = bounds v here

  module _ (n : ℕ) (places : (w : Move) → IsIn w moves → in_state k w.from w.module_no < n) (table : List (Option ℕ)) (size : length table ≡ n) (known : AreMovesOf k (take i moves) table) (before : (j : ℕ) → j < i → IsNewMoveAt moves j)
      (place from m : ℕ) (is : place ≡ in_state k from m) (same_from : from ≡ v.from) (same_module : m ≡ v.module_no) where
    place_is : place ≡ in_state k v.from v.module_no
    place_is = is ∙ (ap (λ s. in_state k s m) same_from ∙ ap (in_state k v.from) same_module)

    pub place_within : place < length table
    place_within = subst (λ s. place < s) (sym size) (subst (λ p. p < n) (sym place_is) (places v here))

    abbrev slot : Option ℕ
    slot = get_or table place None

    slot_is : get_or table (in_state k v.from v.module_no) None ≡ slot
    slot_is = ap (λ p. get_or table p None) (sym place_is)

    leads : moved_to (take i moves) v.from v.module_no ≡ slot
    leads = sym (known v.from v.module_no bound.0) ∙ slot_is

    pub taken : is_some (get_or table place None) ≡ true → FailsFirstAt (length moves) (IsNewMoveAt moves) i
    taken full = record { is_place = inside; before = before; fails = by slot refl full }
      where
        by : (o : Option ℕ) → slot ≡ o → is_some o ≡ true → ¬ IsNewMoveAt moves i
        by None e h = absurd (true≢false (sym h))
        by (Some t) e h = not_new moves i v was inside t (leads ∙ e)

    free : is_some (get_or table place None) ≡ false → slot ≡ None
    free empty = by slot empty
      where
        by : (o : Option ℕ) → is_some o ≡ false → o ≡ None
        by None h = refl
        by (Some t) h = absurd (true≢false h)

    pub new_more : is_some (get_or table place None) ≡ false → (j : ℕ) → j < i + 1 → IsNewMoveAt moves j
    new_more empty = below_more (IsNewMoveAt moves) i before (is_new moves i v was inside (leads ∙ free empty))

    pub table_next : is_some (get_or table place None) ≡ false → (to : ℕ) → to ≡ v.to → AreMovesOf k (take (i + 1) moves) (set table place (Some to))
    table_next empty to same =
        subst (λ t. AreMovesOf k (take (i + 1) moves) (set table place (Some t))) (sym same)
        (subst (λ p. AreMovesOf k (take (i + 1) moves) (set table p (Some v.to))) (sym place_is)
        (table_more k moves table i v known was inside bound.0 (subst (λ p. p < length table) place_is place_within) (slot_is ∙ free empty)))

-- a table with a place for each module and each state has one for each move
pub places_within : (k n : ℕ) (moves : List Move) → ((v : Move) → IsIn v moves → (v.from < k) × (v.module_no < n) × (v.to < k)) → (v : Move) → IsIn v moves → in_state k v.from v.module_no < n * k
places_within k n moves bounds v h = let b = bounds v h in digits_lt b.1 b.0

-- the next state, as the table has it
module _ (k : ℕ) (moves : List Move) (table : List (Option ℕ)) (known : AreMovesOf k moves table) (s m place : ℕ) (below : s < k) (is : place ≡ in_state k s m) where
  pub next_read : (slot : Option ℕ) → slot ≡ get_or table place slot → place < length table → unwrap_or slot s ≡ moved_by moves s m
  next_read slot read inside =
      ap (λ o. unwrap_or o s) (read ∙ (sym (at_is (get_or table place slot) place table None (is_at place table slot inside)) ∙ (ap (λ p. get_or table p None) is ∙ known s m below))) ∙ sym (moved_is moves s m)

  pub next_past : length table ≤ place → s ≡ moved_by moves s m
  next_past past =
      ap (λ o. unwrap_or o s) (sym (get_or_past table place None past) ∙ (ap (λ p. get_or table p None) is ∙ known s m below)) ∙ sym (moved_is moves s m)
