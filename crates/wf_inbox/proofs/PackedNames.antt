-- Names that are written one behind the other are read as they are.
use Rattle.std.proofs.Common.{◌≡◌, ℕ, zero, suc, ◌≤◌, ◌<◌, ◌^◌, ◌-◌, Bool, true, false, cond, ◌&&◌, List, [], ◌∷◌, ◌++◌, length, take, drop, get_or, bytes_eq, refl, sym, ap, ◌∙◌, arith, append_assoc}
use Rattle.std.specs.Prelude.{◌==◌, nat_lt, flat_map}
use Rattle.std.specs.Int.{w32, to_le_bytes}
use Rattle.std.specs.List.{AllByRecursion}
use Rattle.std.specs.Cmp.Lexicographic.{pointwise}
use Rattle.std.proofs.lemmas.Bool.Decides.{nat_tests}
use Rattle.std.proofs.lemmas.List.{length-drop}
use Rattle.std.proofs.lemmas.Nat.{from_le_bytes-to_le_bytes_4}
use Rattle.std.proofs.Math.Seq.{take-length, take-append_seam, drop-append_seam}
use Rattle.wf_model.specs.declared.event.Event.TheVariants.{Expand}
use Rattle.wf_inbox.specs.Packed.{LengthRead, length_bytes, name_bytes, read_four, read_length, first_name, behind_first, some_names, names_in}

-- a length is read as it was written
four_read : (n : ℕ) (rest : List ℕ) → n < 2 ^ 32 → read_four (to_le_bytes w32 n ++ rest) ≡ record { size = n; rest = rest }
four_read n rest l = λ t. record { size = from_le_bytes-to_le_bytes_4 n l t; rest = rest }

length_read : (n : ℕ) (rest : List ℕ) → n < 2 ^ 32 → read_length (length_bytes n ++ rest) ≡ record { size = n; rest = rest }
length_read n rest l = go (nat_lt n 255) refl
  where
    go : (b : Bool) → nat_lt n 255 ≡ b → read_length (cond b (n ∷ []) (255 ∷ to_le_bytes w32 n) ++ rest) ≡ record { size = n; rest = rest }
    go true e = let d : n == 255 ≡ false = grind (arith, nat_tests) in ap (λ b. cond b (read_four rest) (record { size = n; rest = rest })) d
    go false e = four_read n rest l

module _ (name rest : List ℕ) (short : length name < 2 ^ 32) where
  in_parts : name_bytes name ++ rest ≡ length_bytes (length name) ++ (name ++ rest)
  in_parts = append_assoc (length_bytes (length name)) name rest

  is_read : read_length (name_bytes name ++ rest) ≡ record { size = length name; rest = name ++ rest }
  is_read = ap read_length in_parts ∙ length_read (length name) (name ++ rest) short

  -- so is a name
  first_read : first_name (name_bytes name ++ rest) ≡ name
  first_read = ap (λ (r : LengthRead). take r.size r.rest) is_read ∙ take-append_seam name rest

  behind_read : behind_first (name_bytes name ++ rest) ≡ rest
  behind_read = ap (λ (r : LengthRead). drop r.size r.rest) is_read ∙ drop-append_seam name rest

-- the text behind a name is shorter
four_rest : (text : List ℕ) → length (read_four text).rest ≤ length text
four_rest [] = omega arith
four_rest (a ∷ []) = omega arith
four_rest (a ∷ b ∷ []) = omega arith
four_rest (a ∷ b ∷ c ∷ []) = omega arith
four_rest (a ∷ b ∷ c ∷ d ∷ rest) = omega arith

rest_shorter : (b : ℕ) (text : List ℕ) → length (read_length (b ∷ text)).rest ≤ length text
rest_shorter b text = go (b == 255)
  where
    go : (t : Bool) → length (cond t (read_four text) (record { size = b; rest = text })).rest ≤ length text
    go true = four_rest text
    go false = omega arith

pub behind_shorter : (b : ℕ) (text : List ℕ) → length (behind_first (b ∷ text)) ≤ length text
behind_shorter b text =
    let r = read_length (b ∷ text) in
    let a = length-drop r.size r.rest in
    let c = rest_shorter b text in
    omega (arith, a, c)

-- as many names as bytes are enough
enough : (m n : ℕ) (text : List ℕ) → length text ≤ m → length text ≤ n → some_names m text ≡ some_names n text
enough zero zero text h k = refl
enough zero (suc n) [] h k = refl
enough zero (suc n) (b ∷ text) h k = absurd (omega (arith, h))
enough (suc m) zero [] h k = refl
enough (suc m) zero (b ∷ text) h k = absurd (omega (arith, k))
enough (suc m) (suc n) [] h k = refl
enough (suc m) (suc n) (b ∷ text) h k =
    let l = behind_shorter b text in
    ap (λ ns. first_name (b ∷ text) ∷ ns) (enough m n (behind_first (b ∷ text)) (omega (arith, h, l)) (omega (arith, k, l)))

-- the names of a text are the first and those behind it
pub first_of : (text : List ℕ) → 0 < length text → names_in text ≡ first_name text ∷ names_in (behind_first text)
first_of [] l = absurd (omega (arith, l))
first_of (b ∷ text) l =
    let m = behind_shorter b text in
    ap (λ ns. first_name (b ∷ text) ∷ ns) (enough (length text) (length (behind_first (b ∷ text))) (behind_first (b ∷ text)) (omega (arith, m)) (omega arith))

some_bytes : (name rest : List ℕ) → 0 < length (name_bytes name ++ rest)
some_bytes name rest = go (nat_lt (length name) 255)
  where
    go : (b : Bool) → 0 < length ((cond b (length name ∷ []) (255 ∷ to_le_bytes w32 (length name)) ++ name) ++ rest)
    go true = omega arith
    go false = omega arith

-- names are read as they were written
pub names_read : (names : List (List ℕ)) → AllByRecursion (λ n. length n < 2 ^ 32) names → names_in (flat_map name_bytes names) ≡ names
names_read [] h = refl
names_read (n ∷ names) h =
    let rest = flat_map name_bytes names in
    first_of (name_bytes n ++ rest) (some_bytes n rest) ∙ (λ t. first_read n rest h.0 t ∷ (ap names_in (behind_read n rest h.0) ∙ names_read names h.1) t)

-- one name more is taken from a text
pub one_taken : (all new whole : List (List ℕ)) (name text rest : List ℕ) → 0 < length text → all ++ names_in text ≡ whole → name ≡ first_name text → rest ≡ behind_first text → new ≡ all ++ name ∷ [] → new ++ names_in rest ≡ whole
one_taken all new whole name text rest l so first behind more =
    (λ t. more t ++ names_in (behind t)) ∙
    (append_assoc all (name ∷ []) (names_in (behind_first text)) ∙
    (ap (λ n. all ++ n ∷ names_in (behind_first text)) first ∙ (ap (λ ns. all ++ ns) (sym (first_of text l)) ∙ so)))

-- the rest of a list behind its first element
rest_of : {A : Type 0} (x : A) (xs : List A) → take (length (x ∷ xs) - 1) (drop 1 (x ∷ xs)) ≡ xs
rest_of x xs = let e : length (x ∷ xs) - 1 ≡ length xs = omega arith in ap (λ n. take n xs) e ∙ take-length xs

-- one name more is compared, and it is the same
pub one_compared : (text rest name other : List ℕ) (others : List (List ℕ)) (d : List ℕ) (whole : Bool) → 0 < length text → 1 ≤ length others → name ≡ first_name text → rest ≡ behind_first text → other ≡ get_or others 0 d →
    whole ≡ pointwise bytes_eq (names_in text) others → bytes_eq name other ≡ true → whole ≡ pointwise bytes_eq (names_in rest) (take (length others - 1) (drop 1 others))
one_compared text rest name other [] d whole l m first behind is so same = absurd (omega (arith, m))
one_compared text rest name other (x ∷ others) d whole l m first behind is so same =
    so ∙
    (ap (λ ns. pointwise bytes_eq ns (x ∷ others)) (first_of text l) ∙
    (ap (λ b. b && pointwise bytes_eq (names_in (behind_first text)) others) ((λ t. bytes_eq (sym first t) (sym is t)) ∙ same) ∙
    (λ t. pointwise bytes_eq (names_in (sym behind t)) (sym (rest_of x others) t))))

-- an expand event is read as it was written
pub event_read : (none first all text own : List ℕ) (production : ℕ) (others : List (List ℕ)) → none ≡ [] → first ≡ none ++ name_bytes own → all ≡ first ++ flat_map name_bytes others → text ≡ all → length own < 2 ^ 32 → AllByRecursion (λ n. length n < 2 ^ 32) others →
    (instance : List ℕ) (names : List (List ℕ)) → own ≡ instance → others ≡ names → Expand (first_name text) production (names_in (behind_first text)) ≡ Expand instance production names
event_read none first all text own production others empty one more same short shorts instance names is are =
    let rest = flat_map name_bytes others in
    let whole : text ≡ name_bytes own ++ rest = same ∙ (more ∙ ap (λ l. l ++ rest) (one ∙ ap (λ l. l ++ name_bytes own) empty)) in
    let f = ap first_name whole ∙ (first_read own rest short ∙ is) in
    let b = ap names_in (ap behind_first whole ∙ behind_read own rest short) ∙ (names_read others shorts ∙ are) in
    λ t. Expand (f t) production (b t)
