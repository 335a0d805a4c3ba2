-- How bytes are cut into lines.
use Rattle.std.proofs.Common.{◌≡◌, ◌<◌, ◌≤◌, ◌+◌, ◌-◌, ℕ, suc, Bool, false, true, cond, ◌==◌, List, [], ◌∷◌, ◌++◌, length, take, drop, get_or, position, Some, None, nat_lt, ap, sym, refl, ◌∙◌, ⊎_elim, arith, length-drop}
use Rattle.std.proofs.lemmas.List.Quantifiers.{position-Some}
use Rattle.std.proofs.lemmas.List.Sums.{fails_before_first, position_or_len_is}
use Rattle.std.proofs.lemmas.Bool.{cases_lt, lt-ltb, le-ltb}
use Rattle.std.proofs.lemmas.List.{get_or-take, get_or-drop, length-take, take-append-drop, drop_more}
use Rattle.std.proofs.lemmas.Grind.{common_steps}
use Rattle.std.specs.List.{position_or_len}
use Rattle.wf_io.specs.Lines.{parts_of, put_first}

-- no byte is a newline
abbrev pub Lacks : List ℕ → Type 0
Lacks bytes = (k : ℕ) → k < length bytes → get_or bytes k 0 == 10 ≡ false

-- where no newline is found, no byte is one
pub lacks : (bytes : List ℕ) → position (λ b. b == 10) bytes ≡ None → Lacks bytes
lacks bytes e k below =
    let past : length bytes ≤ position_or_len (λ b. b == 10) bytes = grind (arith, common_steps) in
    fails_before_first (λ b. b == 10) bytes k 0 (omega arith)

-- a line ends at the first newline
pub cut_at : (raw more : List ℕ) → Lacks raw → parts_of (raw ++ 10 ∷ more) ≡ raw ∷ parts_of more
cut_at [] more none = refl
cut_at (b ∷ raw) more none =
    let rest = raw ++ 10 ∷ more in
    ap (λ t. cond t ([] ∷ parts_of rest) (put_first b (parts_of rest))) (none 0 (omega arith)) ∙ ap (put_first b) (cut_at raw more (λ k h. none (suc k) (omega arith)))

-- with no newline they are one part
pub uncut : (raw : List ℕ) → Lacks raw → parts_of raw ≡ raw ∷ []
uncut [] none = refl
uncut (b ∷ raw) none =
    ap (λ t. cond t ([] ∷ parts_of raw) (put_first b (parts_of raw))) (none 0 (omega arith)) ∙ ap (put_first b) (uncut raw (λ k h. none (suc k) (omega arith)))

-- there is a first part
pub some_part : (bytes : List ℕ) → (part : List ℕ) × (parts : List (List ℕ)) × (parts_of bytes ≡ part ∷ parts)
some_part [] = ([], [], refl)
some_part (b ∷ bytes) = go (b == 10) (some_part bytes)
  where
    go : (here : Bool) → (part : List ℕ) × (parts : List (List ℕ)) × (parts_of bytes ≡ part ∷ parts)
        → (part : List ℕ) × (parts : List (List ℕ)) × (cond here ([] ∷ parts_of bytes) (put_first b (parts_of bytes)) ≡ part ∷ parts)
    go true s = ([], parts_of bytes, refl)
    go false s = (b ∷ s.0, s.1, ap (put_first b) s.2)

-- bytes without a newline are the beginning of the first part
pub begins : (raw more : List ℕ) → Lacks raw → (part : List ℕ) × (parts : List (List ℕ)) × (parts_of (raw ++ more) ≡ (raw ++ part) ∷ parts)
begins [] more none = some_part more
begins (b ∷ raw) more none =
    let rest = raw ++ more in
    let s = begins raw more (λ k h. none (suc k) (omega arith)) in
    (s.0, s.1, ap (λ t. cond t ([] ∷ parts_of rest) (put_first b (parts_of rest))) (none 0 (omega arith)) ∙ ap (put_first b) s.2)

-- the line up to a newline that was found has none
pub lacks_before : (bytes : List ℕ) (n : ℕ) → position (λ b. b == 10) bytes ≡ Some n → Lacks (take n bytes)
lacks_before bytes n e k below =
    let found = position-Some (λ b. b == 10) bytes n 0 e in
    let size = length-take n bytes in
    let within : k < n = omega (arith, size, below) in
    ap (λ b. b == 10) (get_or-take n bytes k 0 within) ∙ found.2 k within

-- the newline that was found, between its line and what is behind it
pub found_newline : (bytes : List ℕ) (n : ℕ) → position (λ b. b == 10) bytes ≡ Some n → bytes ≡ take n bytes ++ 10 ∷ drop (n + 1) bytes
found_newline bytes n e =
    let found = position-Some (λ b. b == 10) bytes n 0 e in
    let newline : get_or bytes n 0 ≡ 10 = grind (arith, common_steps, found.1) in
    sym (take-append-drop n bytes) ∙ ap (λ r. take n bytes ++ r) (drop_more bytes n 0 found.0 ∙ ap (λ b. b ∷ drop (n + 1) bytes) newline)

-- where a first part has no newline, the first newline is that of what is behind it
first_behind : (bytes : List ℕ) (from at : ℕ) → from ≤ length bytes → position (λ b. b == 10) (take from bytes) ≡ None → from + at ≤ length bytes
    → ((k : ℕ) → k < at → get_or (drop from bytes) k 0 == 10 ≡ false) → (from + at < length bytes → get_or bytes (from + at) 0 == 10 ≡ true)
    → position_or_len (λ b. b == 10) bytes ≡ from + at
first_behind bytes from at within none below before here = position_or_len_is (λ b. b == 10) bytes (from + at) 0 below fails here
  where
    fails : (k : ℕ) → k < from + at → get_or bytes k 0 == 10 ≡ false
    fails k h = ⊎_elim early late (cases_lt k from)
      where
        early : k < from → get_or bytes k 0 == 10 ≡ false
        early l = ap (λ b. b == 10) (sym (get_or-take from bytes k 0 l)) ∙ lacks (take from bytes) none k (omega (arith, length-take from bytes, l, within))

        late : from ≤ k → get_or bytes k 0 == 10 ≡ false
        late g =
            let sum : from + (k - from) ≡ k = omega (arith, g) in
            ap (λ m. get_or bytes m 0 == 10) (sym sum) ∙ ap (λ b. b == 10) (sym (get_or-drop from bytes (k - from) 0)) ∙ before (k - from) (omega (arith, h, g))

-- a newline that is found behind a part that has none is the first
pub newline_behind : (bytes : List ℕ) (from at : ℕ) → from ≤ length bytes → position (λ b. b == 10) (take from bytes) ≡ None → position (λ b. b == 10) (drop from bytes) ≡ Some at → position (λ b. b == 10) bytes ≡ Some (from + at)
newline_behind bytes from at within none e =
    let found = position-Some (λ b. b == 10) (drop from bytes) at 0 e in
    let inside : from + at < length bytes = omega (arith, found.0, length-drop from bytes) in
    let here : get_or bytes (from + at) 0 == 10 ≡ true = ap (λ b. b == 10) (sym (get_or-drop from bytes at 0)) ∙ found.1 in
    let first = first_behind bytes from at within none (omega (arith, inside)) found.2 (λ _. here) in
    ap (λ n. cond (nat_lt n (length bytes)) (Some n) None) first ∙ ap (λ t. cond t (Some (from + at)) None) (lt-ltb (from + at) (length bytes) inside)

-- two parts that have none
pub no_newline_from : (bytes : List ℕ) (from : ℕ) → from ≤ length bytes → position (λ b. b == 10) (take from bytes) ≡ None → position (λ b. b == 10) (drop from bytes) ≡ None → position (λ b. b == 10) bytes ≡ None
no_newline_from bytes from within none e =
    let size = length-drop from bytes in
    let all : from + length (drop from bytes) ≡ length bytes = omega (arith, size, within) in
    let first = first_behind bytes from (length (drop from bytes)) within none (omega (arith, all)) (lacks (drop from bytes) e) (λ below. absurd (omega (arith, below, all))) in
    ap (λ n. cond (nat_lt n (length bytes)) (Some n) None) (first ∙ all) ∙ ap (λ t. cond t (Some (length bytes)) None) (le-ltb (length bytes) (length bytes) (omega arith))
