-- Look-ups by name among the keys of a table.
use Rattle.std.proofs.Common.{◌≡◌, ℕ, ◌+◌, ◌^◌, ◌<◌, ◌≤◌, ◌==◌, ◌||◌, ◌⊎◌, ◌↔◌, Bool, true, false, List, [], ◌∷◌, ◌++◌, cond, get_or, slice_get, zero, suc, not, if◌then◌else◌, is_some, Option, Some, None, refl, sym, ap, ◌∙◌, subst, inl, inr, arith, true≢false}
use Rattle.std.specs.Borrow.{Bor}
use Rattle.std.specs.Option.{IfSome, IfNone, option_copied}
use Rattle.std.specs.List.{list_any, find, IsDistinct, AllByRecursion}
use Rattle.std.proofs.lemmas.Bool.{cases_lt, eq-eqb, eqb-true}
use Rattle.std.proofs.lemmas.List.{map-append}
use Rattle.std.proofs.lemmas.Map.Keys.{IsDistinct-head, IsDistinct-tail}
use Rattle.indexmap.specs.IndexSet.{insert_key}
use Rattle.wf_model.specs.Lists.{IsIn}
use Rattle.wf_model.proofs.Lists.{in_map, in_map_from, in_append_left, in_append_cases}
use Rattle.wf_names.specs.declared.keyed.KeyedHash.{KeyedHash}
use Rattle.label_model.specs.Files.{Entry}
use Rattle.label_file.specs.Stored.{EntryHeld, names_held, no_entry}
use Rattle.label_file.specs.Keys.{EntryAt, numbers, held, held_at, held_of, IsPlaced}
use Rattle.label_file.specs.Hashed.{name_hash, turned, IsKeyIn, AreKeysIn, HasNone}
use Rattle.label_file.proofs.EntryParts.{held_told}

-- whether two keys have one number
abbrev pub same_number : EntryAt → EntryAt → Bool
same_number a b = a.number == b.number

-- what a look-up by number finds
pub found_key : (q k : EntryAt) (ks : List EntryAt) → find (same_number q) ks ≡ Some k → IsIn k ks × (k.number ≡ q.number)
found_key q k [] h = absurd (cc)
found_key q k (x ∷ xs) h = by (same_number q x) refl (λ l. found_key q k xs l)
  where
    by : (b : Bool) → same_number q x ≡ b → (find (same_number q) xs ≡ Some k → IsIn k xs × (k.number ≡ q.number)) → IsIn k (x ∷ xs) × (k.number ≡ q.number)
    by true t more =
        let l : Some x ≡ Some k = sym (ap (λ c. cond c (Some x) (find (same_number q) xs)) t) ∙ h in
        let m : k ≡ x = cc in
        (inl m, ap (λ (z : EntryAt). z.number) m ∙ sym (eqb-true q.number x.number t))
    by false f more =
        let r = more (sym (ap (λ c. cond c (Some x) (find (same_number q) xs)) f) ∙ h) in
        (inr r.0, r.1)

-- where it finds none, no key has the number
pub none_key : (q : EntryAt) (ks : List EntryAt) → find (same_number q) ks ≡ None → IsIn q.number (numbers ks) → ⊥
none_key q [] h i = absurd i
none_key q (x ∷ xs) h i = by (same_number q x) refl (λ l. none_key q xs l) i
  where
    by : (b : Bool) → same_number q x ≡ b → (find (same_number q) xs ≡ None → IsIn q.number (numbers xs) → ⊥) → IsIn q.number (numbers (x ∷ xs)) → ⊥
    by true t more j = let l : Some x ≡ None = sym (ap (λ c. cond c (Some x) (find (same_number q) xs)) t) ∙ h in absurd (cc)
    by false f more (inl e) = absurd (true≢false (sym (eq-eqb q.number x.number e) ∙ f))
    by false f more (inr j) = more (sym (ap (λ c. cond c (Some x) (find (same_number q) xs)) f) ∙ h) j

-- a test tells whether a key has the number
pub any_key : (q : EntryAt) (ks : List EntryAt) → list_any (same_number q) ks ≡ true → IsIn q.number (numbers ks)
any_key q [] h = absurd (true≢false (sym h))
any_key q (x ∷ xs) h = by (same_number q x) refl (λ l. any_key q xs l)
  where
    by : (b : Bool) → same_number q x ≡ b → (list_any (same_number q) xs ≡ true → IsIn q.number (numbers xs)) → IsIn q.number (numbers (x ∷ xs))
    by true t more = inl (eqb-true q.number x.number t)
    by false f more = inr (more (sym (ap (λ b. b || list_any (same_number q) xs) f) ∙ h))

pub key_any : (q : EntryAt) (ks : List EntryAt) → IsIn q.number (numbers ks) → list_any (same_number q) ks ≡ true
key_any q [] i = absurd i
key_any q (x ∷ xs) (inl e) = ap (λ b. b || list_any (same_number q) xs) (eq-eqb q.number x.number e)
key_any q (x ∷ xs) (inr i) = by (same_number q x) refl (key_any q xs i)
  where
    by : (b : Bool) → same_number q x ≡ b → list_any (same_number q) xs ≡ true → list_any (same_number q) (x ∷ xs) ≡ true
    by true t more = ap (λ b. b || list_any (same_number q) xs) t
    by false f more = ap (λ b. b || list_any (same_number q) xs) f ∙ more

-- a key whose number differs from those of others is none of them
apart : (x : EntryAt) (xs : List EntryAt) → AllByRecursion (λ y. same_number x y ≡ false) xs → (b : EntryAt) → IsIn b xs → x.number ≡ b.number → ⊥
apart x [] d b i e = absurd i
apart x (y ∷ ys) d b (inl p) e = absurd (true≢false (sym (eq-eqb x.number y.number (e ∙ ap (λ (z : EntryAt). z.number) p)) ∙ d.0))
apart x (y ∷ ys) d b (inr i) e = apart x ys d.1 b i e

-- keys of a set that have one number are one
pub one_key : (ks : List EntryAt) → IsDistinct same_number ks → (a b : EntryAt) → IsIn a ks → IsIn b ks → a.number ≡ b.number → a ≡ b
one_key [] d a b i j e = absurd i
one_key (x ∷ xs) d a b (inl p) (inl q) e = p ∙ sym q
one_key (x ∷ xs) d a b (inl p) (inr j) e = absurd (apart x xs (IsDistinct-head same_number x xs d) b j (sym (ap (λ (z : EntryAt). z.number) p) ∙ e))
one_key (x ∷ xs) d a b (inr i) (inl q) e = absurd (apart x xs (IsDistinct-head same_number x xs d) a i (sym (ap (λ (z : EntryAt). z.number) q) ∙ sym e))
one_key (x ∷ xs) d a b (inr i) (inr j) e = one_key xs (IsDistinct-tail same_number x xs d) a b i j e

-- a key that is put goes last, if its number is that of none
module _ (q : EntryAt) (ks new : List EntryAt) (is_new : Bool) (told : is_new ≡ not (list_any (same_number q) ks)) (is : new ≡ insert_key same_number ks q) where
  flipped : (a b : Bool) → a ≡ not b → b ≡ not a
  flipped a true h = sym (ap not h)
  flipped a false h = sym (ap not h)

  pub put_new : is_new ≡ true → (new ≡ ks ++ q ∷ []) × (IsIn q.number (numbers ks) → ⊥)
  put_new t =
      let none = flipped is_new _ told ∙ ap not t in
      (is ∙ ap (λ b. if b then ks else ks ++ q ∷ []) none, λ i. true≢false (sym (key_any q ks i) ∙ none))

  pub put_taken : is_new ≡ false → (new ≡ ks) × IsIn q.number (numbers ks)
  put_taken f =
      let some = flipped is_new _ told ∙ ap not f in
      (is ∙ ap (λ b. if b then ks else ks ++ q ∷ []) some, any_key q ks some)

-- what a look-up by number gives
module _ (q : EntryAt) (n : ℕ) (ks : List EntryAt) (is : q.number ≡ n) where
  pub got_key : (r : Option (Bor EntryAt)) → option_copied r ≡ find (same_number q) ks → IfSome r (λ k. IsIn k.now ks × (k.now.number ≡ n))
  got_key None h = tt
  got_key (Some k) h = let f = found_key q k.now ks (sym h) in (f.0, f.1 ∙ is)

  pub got_one : IsDistinct same_number ks → (r : Option (Bor EntryAt)) → option_copied r ≡ find (same_number q) ks → IfSome r (λ k. (other : EntryAt) → IsIn other ks → other.number ≡ n → other ≡ k.now)
  got_one d None h = tt
  got_one d (Some k) h = λ other i o. let f = found_key q k.now ks (sym h) in one_key ks d other k.now i f.0 (o ∙ sym is ∙ sym f.1)

  pub got_none : (r : Option (Bor EntryAt)) → option_copied r ≡ find (same_number q) ks → IfNone r (IsIn n (numbers ks) → ⊥)
  got_none None h = λ i. none_key q ks (sym h) (subst (λ z. IsIn z (numbers ks)) (sym is) i)
  got_none (Some k) h = tt

module _ (bytes : List ℕ) (ks : List EntryAt) where
  -- an entry that is held is that of a key
  key_of_name : (name : List ℕ) → IsIn name (names_held (held bytes ks)) → (k : EntryAt) × IsIn k ks × ((held_at bytes k).name ≡ name)
  key_of_name name i =
      let h = in_map_from (λ (h : EntryHeld). h.name) name (held bytes ks) i in
      let k = in_map_from (held_at bytes) h.0 ks h.1 in
      (k.0, k.1, sym (h.2 ∙ ap (λ (z : EntryHeld). z.name) k.2))

  pub key_is_held : (k : EntryAt) → IsIn k ks → IsIn (held_at bytes k) (held bytes ks)
  key_is_held k i = in_map (held_at bytes) k ks i

  pub name_is_held : (h : EntryHeld) → IsIn h (held bytes ks) → IsIn h.name (names_held (held bytes ks))
  name_is_held h i = in_map (λ (z : EntryHeld). z.name) h (held bytes ks) i

  module _ (keyed : KeyedHash) (all : AreKeysIn keyed bytes ks) (hash : ℕ) (name : List ℕ) (hashed : hash ≡ name_hash keyed name) where
    -- the key of an entry of this name lies behind the turns where no key has it
    module _ (n : ℕ) (before : (t : ℕ) → t < n → HasNone bytes ks name (turned hash t)) (k : EntryAt) (i : IsIn k ks) (is : (held_at bytes k).name ≡ name) where
      abbrev pub a : IsKeyIn keyed bytes ks k
      a = all k i

      same : name_hash keyed a.entry.name ≡ hash
      same = ap (name_hash keyed) (sym (ap (λ (z : EntryHeld). z.name) (held_told bytes k a.entry a.placed)) ∙ is) ∙ sym hashed

      number : k.number ≡ turned hash a.turn
      number = a.number ∙ ap (λ h. turned h a.turn) same

      pub is_behind : a.turn < n → ⊥
      is_behind l = before a.turn l k i number is

      -- so the next number is that of a key
      pub is_next : IsIn (turned hash n) (numbers ks)
      is_next = by (cases_lt n a.turn)
        where
          by : (n < a.turn) ⊎ (a.turn ≤ n) → IsIn (turned hash n) (numbers ks)
          by (inl l) = subst (λ h. IsIn (turned h n) (numbers ks)) same (a.passed n l)
          by (inr m) = by_turn (cases_lt a.turn n)
            where
              by_turn : (a.turn < n) ⊎ (n ≤ a.turn) → IsIn (turned hash n) (numbers ks)
              by_turn (inl l) = absurd (is_behind l)
              by_turn (inr o) =
                  let e : a.turn ≡ n = omega (arith, m, o) in
                  subst (λ z. IsIn z (numbers ks)) (number ∙ ap (turned hash) e) (in_map (λ (z : EntryAt). z.number) k ks i)

    -- no entry has the name, where no key before has it and no key has the next number
    pub none_named : (n : ℕ) → ((t : ℕ) → t < n → HasNone bytes ks name (turned hash t)) → (IsIn (turned hash n) (numbers ks) → ⊥) → IsIn name (names_held (held bytes ks)) → ⊥
    none_named n before free i = let k = key_of_name name i in free (is_next n before k.0 k.1 k.2)

    -- or where all numbers were tried
    pub none_anywhere : (n : ℕ) → 2 ^ 31 ≤ n → ((t : ℕ) → t < n → HasNone bytes ks name (turned hash t)) → IsIn name (names_held (held bytes ks)) → ⊥
    none_anywhere n l before i =
        let k = key_of_name name i in
        let few = (all k.0 k.1).few in
        is_behind n before k.0 k.1 k.2 (omega (arith, few, l))

-- one turn more is tried
pub one_turn : (bytes : List ℕ) (ks : List EntryAt) (hash : ℕ) (name : List ℕ) (n : ℕ) → ((t : ℕ) → t < n → HasNone bytes ks name (turned hash t)) → HasNone bytes ks name (turned hash n) → (t : ℕ) → t < n + 1 → HasNone bytes ks name (turned hash t)
one_turn bytes ks hash name n before none t l = by (cases_lt t n)
  where
    by : (t < n) ⊎ (n ≤ t) → HasNone bytes ks name (turned hash t)
    by (inl m) = before t m
    by (inr m) = let e : n ≡ t = omega (arith, l, m) in subst (λ z. HasNone bytes ks name (turned hash z)) e none

-- the first turns are those of keys, and one more
pub one_taken : (ks : List EntryAt) (hash n : ℕ) → ((t : ℕ) → t < n → IsIn (turned hash t) (numbers ks)) → IsIn (turned hash n) (numbers ks) → (t : ℕ) → t < n + 1 → IsIn (turned hash t) (numbers ks)
one_taken ks hash n before one t l = by (cases_lt t n)
  where
    by : (t < n) ⊎ (n ≤ t) → IsIn (turned hash t) (numbers ks)
    by (inl m) = before t m
    by (inr m) = let e : n ≡ t = omega (arith, l, m) in subst (λ z. IsIn (turned hash z) (numbers ks)) e one

-- keys stay those of entries, where one is put behind them
module _ (keyed : KeyedHash) (bytes : List ℕ) (ks : List EntryAt) (all : AreKeysIn keyed bytes ks) (k : EntryAt) where
  more_numbers : (n : ℕ) → IsIn n (numbers ks) → IsIn n (numbers (ks ++ k ∷ []))
  more_numbers n i = subst (IsIn n) (sym (map-append (λ (z : EntryAt). z.number) ks (k ∷ []))) (in_append_left n (numbers ks) (numbers (k ∷ [])) i)

  old_key : (x : EntryAt) → IsKeyIn keyed bytes ks x → IsKeyIn keyed bytes (ks ++ k ∷ []) x
  old_key x a = record { entry = a.entry; placed = a.placed; turn = a.turn; few = a.few; number = a.number; passed = λ t l. more_numbers _ (a.passed t l) }

  pub key_behind : (e : Entry) → IsPlaced bytes k.place k.padding e → (hash turn : ℕ) → hash ≡ name_hash keyed e.name → turn < 2 ^ 31 → k.number ≡ turned hash turn →
      ((t : ℕ) → t < turn → IsIn (turned hash t) (numbers ks)) → AreKeysIn keyed bytes (ks ++ k ∷ [])
  key_behind e p hash turn hashed few number taken x i = by (in_append_cases x ks (k ∷ []) i)
    where
      new_key : IsKeyIn keyed bytes (ks ++ k ∷ []) k
      new_key = record {
        entry = e;
        placed = p;
        turn = turn;
        few = few;
        number = number ∙ ap (λ h. turned h turn) hashed;
        passed = λ t l. more_numbers _ (subst (λ h. IsIn (turned h t) (numbers ks)) hashed (taken t l));
      }

      by : IsIn x ks ⊎ IsIn x (k ∷ []) → IsKeyIn keyed bytes (ks ++ k ∷ []) x
      by (inl j) = old_key x (all x j)
      by (inr (inl q)) = subst (IsKeyIn keyed bytes (ks ++ k ∷ [])) (sym q) new_key
      by (inr (inr j)) = absurd j

-- a look-up of a name tells whether it is held
pub tells_held : (hs : List EntryHeld) (name : List ℕ) (b : Bool) (r : Option (List Bool)) → b ≡ is_some r → IfSome r (λ l. IsIn (record { name = name; bits = l }) hs) → IfNone r (IsIn name (names_held hs) → ⊥) → (b ≡ true) ↔ IsIn name (names_held hs)
tells_held hs name b None e found none = (λ t. absurd (true≢false (sym t ∙ e)), λ i. absurd (none i))
tells_held hs name b (Some l) e found none = (λ t. in_map (λ (z : EntryHeld). z.name) _ hs found, λ i. e)

-- what is held by one key more
pub held_behind : (bytes : List ℕ) (ks new : List EntryAt) (k : EntryAt) (e : Entry) → new ≡ ks ++ k ∷ [] → IsPlaced bytes k.place k.padding e → held bytes new ≡ held bytes ks ++ held_of e k.padding ∷ []
held_behind bytes ks new k e q p = ap (held bytes) q ∙ (map-append (held_at bytes) ks (k ∷ []) ∙ ap (λ h. held bytes ks ++ h ∷ []) (held_told bytes k e p))

-- an entry stands where its key says
pub placed_key : (bytes : List ℕ) (k : EntryAt) (e : Entry) (place padding : ℕ) → k.place ≡ place → k.padding ≡ padding → IsPlaced bytes place padding e → IsPlaced bytes k.place k.padding e
placed_key bytes k e place padding p q is = subst (λ (z : ℕ × ℕ). IsPlaced bytes z.0 z.1 e) (λ i. (sym p i, sym q i)) is

-- the entry at a number
pub entry_at : (bytes : List ℕ) (ks : List EntryAt) (i : ℕ) (k : EntryAt) → slice_get ks i ≡ Some k → get_or (held bytes ks) i no_entry ≡ held_at bytes k
entry_at bytes [] i k h = absurd (cc)
entry_at bytes (x ∷ xs) zero k h = cc
entry_at bytes (x ∷ xs) (suc i) k h = entry_at bytes xs i k h

pub key_at : (ks : List EntryAt) (i : ℕ) (k : EntryAt) → slice_get ks i ≡ Some k → IsIn k ks
key_at [] i k h = absurd (cc)
key_at (x ∷ xs) zero k h = inl (cc)
key_at (x ∷ xs) (suc i) k h = inr (key_at xs i k h)
