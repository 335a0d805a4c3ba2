-- Names made of numbers are names, and different numbers have different ones.
use Rattle.std.proofs.Common.{◌≡◌, ℕ, zero, suc, ◌+◌, ◌%◌, ◌<◌, ◌≤◌, ◌^◌, List, [], ◌∷◌, ◌++◌, map, drop, length, refl, sym, ap, ◌∙◌, subst, inl, inr, ⊎_elim, arith}
use Rattle.std.specs.Prelude.{decimal}
use Rattle.std.proofs.lemmas.Nat.{mod_below}
use Rattle.std.proofs.lemmas.Fmt.{length-decimal-le, decimal_injective, decimal_by_steps}
use Rattle.std.proofs.lemmas.List.{length-map, map-append}
use Rattle.wf_model.specs.Lists.{IsIn, IsAt, AllDiffer, numbers_from}
use Rattle.wf_model.specs.Run.{IsName}
use Rattle.wf_model.proofs.Lists.{in_append_cases, in_map_from}
use Rattle.wf_model.proofs.Level.{in_numbers}
use Rattle.wf_model.proofs.NumberLists.{length-numbers, from_first}
use Rattle.label_model.proofs.Differing.{numbers_differ}
use Rattle.numbered_names.specs.Names.{numbered_name, numbered_names}

digit_bytes : (n : ℕ) → n < 2 ^ 64 → (b : ℕ) → IsIn b (decimal n) → (48 ≤ b) × (b ≤ 57)
digit_bytes n h = decimal_by_steps (λ n ds. (b : ℕ) → IsIn b ds → (48 ≤ b) × (b ≤ 57))
    (λ n l b q. ⊎_elim (λ e. (omega arith, omega arith)) (λ e. absurd e) q)
    (λ n ds l ih b q. ⊎_elim (λ a. ih b a) (λ a. ⊎_elim (λ e. let r : n % 10 < 10 = mod_below n 10 (omega arith) in (omega arith, omega arith)) (λ e. absurd e) a) (in_append_cases b ds ((48 + n % 10) ∷ []) q)) n h

pub name_same : (k j : ℕ) → k < 2 ^ 64 → j < 2 ^ 64 → numbered_name k ≡ numbered_name j → k ≡ j
name_same k j hk hj e = decimal_injective k j hk hj (ap (drop 1) e)

pub name_good : (k : ℕ) → k < 2 ^ 64 → IsName (numbered_name k) × (length (numbered_name k) ≤ 64)
name_good k h =
    let l : length (decimal k) ≤ 20 = length-decimal-le 20 k (omega arith) (omega arith) h in
    ((omega arith, λ b i. ⊎_elim (λ (e : b ≡ 110). inl (omega arith, omega arith)) (λ q. inr (inr (inl (digit_bytes k h b q)))) i), omega arith)

-- a name of a list is that of a number in its range
pub name_from : (c n : ℕ) (name : List ℕ) → IsIn name (numbered_names c n) → (k : ℕ) × (c ≤ k) × (k < c + n) × (name ≡ numbered_name k)
name_from c n name h = let r = in_map_from numbered_name name (numbers_from c n) h in (r.0, from_first r.0 c n r.1, in_numbers r.0 c n r.1, r.2)

pub length-names : (c n : ℕ) → length (numbered_names c n) ≡ n
length-names c n = length-map (numbers_from c n) numbered_name ∙ length-numbers c n

numbers-append : (c n m : ℕ) → numbers_from c n ++ numbers_from (c + n) m ≡ numbers_from c (n + m)
numbers-append c zero m = let e : c + 0 ≡ c = omega arith in let f : m ≡ 0 + m = omega arith in ap (λ z. numbers_from z m) e ∙ ap (numbers_from c) f
numbers-append c (suc n) m =
    let e : c + suc n ≡ suc c + n = omega arith in
    let f : suc (n + m) ≡ suc n + m = omega arith in
    ap (λ z. c ∷ (numbers_from (suc c) n ++ numbers_from z m)) e ∙ (ap (λ l. c ∷ l) (numbers-append (suc c) n m) ∙ ap (numbers_from c) f)

pub names-append : (c n m : ℕ) → numbered_names c n ++ numbered_names (c + n) m ≡ numbered_names c (n + m)
names-append c n m = sym (map-append numbered_name (numbers_from c n) (numbers_from (c + n) m)) ∙ ap (map numbered_name) (numbers-append c n m)

-- one name more
pub names_more : (c n : ℕ) (names more : List (List ℕ)) (name : List ℕ) → names ≡ numbered_names c n → name ≡ numbered_name (c + n) → more ≡ names ++ name ∷ [] → more ≡ numbered_names c (n + 1)
names_more c n names more name e f h =
    h ∙ (ap (λ l. l ++ name ∷ []) e ∙ (ap (λ x. numbered_names c n ++ x ∷ []) f ∙ names-append c n 1))

-- the name of a place
pub name_at : (c n j : ℕ) → j < n → IsAt (numbered_name (c + j)) j (numbered_names c n)
name_at c zero j h = absurd (omega arith)
name_at c (suc n) zero h = let e : c + 0 ≡ c = omega arith in ap numbered_name e
name_at c (suc n) (suc j) h = let e : suc c + j ≡ c + suc j = omega arith in subst (λ z. IsAt (numbered_name z) j (numbered_names (suc c) n)) e (name_at (suc c) n j (omega arith))

numbered_differ : (xs : List ℕ) → ((x : ℕ) → IsIn x xs → x < 2 ^ 64) → AllDiffer xs → AllDiffer (map numbered_name xs)
numbered_differ [] h d = tt
numbered_differ (x ∷ xs) h d =
    ((λ q. let r = in_map_from numbered_name (numbered_name x) xs q in d.0 (subst (λ z. IsIn z xs) (sym (name_same x r.0 (h x (inl refl)) (h r.0 (inr r.1)) r.2)) r.1)), numbered_differ xs (λ y a. h y (inr a)) d.1)

pub names_differ : (c n : ℕ) → c + n < 2 ^ 64 → AllDiffer (numbered_names c n)
names_differ c n h = numbered_differ (numbers_from c n) (λ x i. let a : x < c + n = in_numbers x c n i in omega arith) (numbers_differ c n)
