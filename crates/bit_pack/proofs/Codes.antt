-- Gamma codes.
use Rattle.std.proofs.Common.{◌≡◌, ℕ, suc, ◌+◌, ◌-◌, ◌*◌, ◌/◌, ◌%◌, ◌^◌, ◌<◌, ◌≤◌, Bool, true, false, cond, eqb, List, [], ◌∷◌, ◌++◌, length, map, get_or, replicate, flat_map, refl, sym, ap, ◌∙◌, subst, ⊎_elim, arith, append_assoc, append-nil, length-append}
use Rattle.std.proofs.Math.Nat.{pow-le-pow_right}
use Rattle.std.proofs.lemmas.Bool.{eq-eqb, cases_lt}
use Rattle.std.proofs.lemmas.Int.Digits.{all_below_base_digits_of, first_digits_of, number_digits_of, digits_of_step, length-digits_of-le}
use Rattle.std.proofs.lemmas.List.{length-replicate, length-map, map-append}
use Rattle.std.proofs.lemmas.Nat.{leading_top}
use Rattle.std.specs.Int.Count.{count_leading_zeros}
use Rattle.std.specs.Int.Digits.{digits_of, number_from_digits, number_from_digits_after, AllBelowBase}
use Rattle.bit_pack.specs.Bits.{number, low_bits}
use Rattle.bit_pack.specs.Gamma.{digits, binary, gamma}
use Rattle.bit_pack.specs.Laws.{PrefixFreeLaw, LengthLaw, BinaryLaw, SpellingLaw, CodesLaw}
use Rattle.bit_pack.proofs.Fronts.{same_front, same_zeros, no_one}
use Rattle.bit_pack.proofs.Numbers.{digit_back, number_small}
use Rattle.bit_pack.proofs.LowBits.{low_bits-number, low_bits-zeros}

digits_back : (ds : List ℕ) → AllBelowBase 2 ds → map (λ b. cond b 1 0) (map (λ d. eqb d 1) ds) ≡ ds
digits_back [] h = refl
digits_back (d ∷ ds) h = ap (λ z. z ∷ map (λ b. cond b 1 0) (map (λ d. eqb d 1) ds)) (digit_back d h.0) ∙ ap (λ z. d ∷ z) (digits_back ds h.1)

-- the binary digits tell the number
pub binary_law : BinaryLaw
unfolding binary
binary_law n = ap (number_from_digits 2) (digits_back (digits_of 2 n) (all_below_base_digits_of 2 n (omega arith))) ∙ number_digits_of 2 n (omega arith)

pub length-binary : (n : ℕ) → length (binary n) ≡ digits n
unfolding binary digits
length-binary n = length-map (digits_of 2 n) (λ d. eqb d 1)

-- the binary digits are the lowest ones, as many as there are
pub binary_is : (n : ℕ) → low_bits (digits n) n ≡ binary n
binary_is n = ap (low_bits (digits n)) (sym (binary_law n)) ∙ low_bits-number (binary n) (digits n) (length-binary n)

-- a number is below 2 to the number of its digits
pub below_digits : (n : ℕ) → n < 2 ^ digits n
below_digits n = subst (λ z. n < 2 ^ z) (length-binary n) (subst (λ z. z < 2 ^ length (binary n)) (binary_law n) (number_small (binary n)))

pub digits_few : (n k : ℕ) → n < 2 ^ k → digits n ≤ k
unfolding digits
digits_few n k h = length-digits_of-le 2 k n (omega arith) h

-- the leading zeros of a number tell how many digits it has
pub digits_counted : (n w : ℕ) → 1 ≤ n → n < 2 ^ w → count_leading_zeros w n + digits n ≡ w
digits_counted n w h small =
    let t = leading_top w n (omega arith) small in
    let top = digits_few n (suc t.0) t.3 in
    let low : suc t.0 ≤ digits n = ⊎_elim (λ (l : digits n < suc t.0). let b = below_digits n in let p : 2 ^ digits n ≤ 2 ^ t.0 = pow-le-pow_right (omega arith) (omega arith) in absurd (omega (arith, t.2))) (λ l. l) (cases_lt (digits n) (suc t.0)) in
    omega (arith, t.1, top, low)

-- The digits of a number from 1 on begin with a one, and so its code is zeros, a one and as many bits as there were zeros
record IsShape (n : ℕ) : Type 0 where
  pub rest : List Bool
  pub binary_is : binary n ≡ true ∷ rest
  pub long : length rest + 1 ≡ digits n

shape : (n : ℕ) → 0 < n → IsShape n
unfolding binary digits
shape n h = go (digits_of 2 n) refl
  where
    go : (ds : List ℕ) → digits_of 2 n ≡ ds → IsShape n
    go [] e = let f' : 0 < get_or {A = ℕ} [] 0 0 = subst (λ l. 0 < get_or l 0 0) e (first_digits_of 2 n (omega arith) h) in absurd (omega arith)
    go (d ∷ ds) e =
        let f : 0 < d = subst (λ l. 0 < get_or l 0 0) e (first_digits_of 2 n (omega arith) h) in
        let b : AllBelowBase 2 (d ∷ ds) = subst (λ l. AllBelowBase 2 l) e (all_below_base_digits_of 2 n (omega arith)) in
        let one : d ≡ 1 = omega (arith, b.0) in
        record {
          rest = map (λ d. eqb d 1) ds;
          binary_is = ap (map (λ d. eqb d 1)) e ∙ ap (λ z. z ∷ map (λ d. eqb d 1) ds) (eq-eqb d 1 one);
          long = omega (arith, length-map ds (λ d. eqb d 1), ap length e);
        }

pub gamma_is : (n : ℕ) (h : 0 < n) (x : List Bool) → (rest : List Bool) × (length rest + 1 ≡ digits n) × (binary n ≡ true ∷ rest) × (gamma n ++ x ≡ replicate (length rest) false ++ true ∷ (rest ++ x))
unfolding gamma
gamma_is n h x =
    let s = shape n h in
    let k : digits n - 1 ≡ length s.rest = omega (arith, s.long) in
    (s.rest, s.long, s.binary_is, ap (λ z. (replicate z false ++ binary n) ++ x) k ∙ (ap (λ z. (replicate (length s.rest) false ++ z) ++ x) s.binary_is ∙ append_assoc (replicate (length s.rest) false) (true ∷ s.rest) x))

pub prefix_free_law : PrefixFreeLaw
prefix_free_law m n x y hm hn e =
    let s = gamma_is m hm x in
    let t = gamma_is n hn y in
    let z = same_zeros (length s.0) (length t.0) (s.0 ++ x) (t.0 ++ y) (sym s.3 ∙ (e ∙ t.3)) in
    let r = same_front s.0 t.0 x y z.0 z.1 in
    let b : binary m ≡ binary n = s.2 ∙ (ap (λ z. true ∷ z) r.0 ∙ sym t.2) in
    (sym (binary_law m) ∙ (ap number b ∙ binary_law n), r.1)

pub length_law : LengthLaw
unfolding gamma
length_law n h =
    let s = shape n h in
    omega (arith, length-append (replicate (digits n - 1) false) (binary n), length-replicate (digits n - 1) false, length-binary n, s.long)

-- one digit more
binary_more : (n : ℕ) (b : Bool) → 0 < n → binary (n * 2 + cond b 1 0) ≡ binary n ++ b ∷ []
unfolding binary
binary_more n b h = ap (map (λ d. eqb d 1)) (digits_of_step 2 (n * 2 + cond b 1 0) (omega arith) (omega arith)) ∙ (map-append (λ d. eqb d 1) (digits_of 2 ((n * 2 + cond b 1 0) / 2)) ((n * 2 + cond b 1 0) % 2 ∷ []) ∙ go b)
  where
    go : (b : Bool) → map (λ d. eqb d 1) (digits_of 2 ((n * 2 + cond b 1 0) / 2)) ++ eqb ((n * 2 + cond b 1 0) % 2) 1 ∷ [] ≡ map (λ d. eqb d 1) (digits_of 2 n) ++ b ∷ []
    go true = let q : (n * 2 + 1) / 2 ≡ n = omega arith in let r : (n * 2 + 1) % 2 ≡ 1 = omega arith in ap (λ z. map (λ d. eqb d 1) (digits_of 2 z) ++ eqb ((n * 2 + 1) % 2) 1 ∷ []) q ∙ ap (λ z. map (λ d. eqb d 1) (digits_of 2 n) ++ eqb z 1 ∷ []) r
    go false = let q : (n * 2 + 0) / 2 ≡ n = omega arith in let r : (n * 2 + 0) % 2 ≡ 0 = omega arith in ap (λ z. map (λ d. eqb d 1) (digits_of 2 z) ++ eqb ((n * 2 + 0) % 2) 1 ∷ []) q ∙ ap (λ z. map (λ d. eqb d 1) (digits_of 2 n) ++ eqb z 1 ∷ []) r

binary_after : (bits : List Bool) (n : ℕ) → 0 < n → binary (number_from_digits_after 2 n (map (λ b. cond b 1 0) bits)) ≡ binary n ++ bits
binary_after [] n h = sym (append-nil (binary n))
binary_after (b ∷ bits) n h = binary_after bits (n * 2 + cond b 1 0) (omega arith) ∙ (ap (λ z. z ++ bits) (binary_more n b h) ∙ append_assoc (binary n) (b ∷ []) bits)

binary_one : binary 1 ≡ true ∷ []
unfolding binary
binary_one = refl

pub spelling_law : SpellingLaw
unfolding gamma
spelling_law bits =
    let n = number (true ∷ bits) in
    let b : binary n ≡ true ∷ bits = binary_after bits 1 (omega arith) ∙ ap (λ z. z ++ bits) binary_one in
    let l : digits n - 1 ≡ length bits = omega (arith, length-binary n, ap length b) in
    ap (λ z. replicate z false ++ true ∷ bits) (sym l) ∙ ap (λ z. replicate (digits n - 1) false ++ z) (sym b)

-- no code begins among zeros
pub no_code_in_zeros : (n p : ℕ) (x : List Bool) → 0 < n → gamma n ++ x ≡ replicate p false → ⊥
no_code_in_zeros n p x h e = let s = gamma_is n h x in no_one (length s.0) p (s.0 ++ x) (sym s.3 ∙ e)

pub codes_law : CodesLaw
codes_law [] [] p q ha hb e = refl
codes_law [] (n ∷ b) p q ha hb e = absurd (no_code_in_zeros n p (flat_map gamma b ++ replicate q false) (hb 0 0 (omega arith)) (sym (append_assoc (gamma n) (flat_map gamma b) (replicate q false)) ∙ sym e))
codes_law (m ∷ a) [] p q ha hb e = absurd (no_code_in_zeros m q (flat_map gamma a ++ replicate p false) (ha 0 0 (omega arith)) (sym (append_assoc (gamma m) (flat_map gamma a) (replicate p false)) ∙ e))
codes_law (m ∷ a) (n ∷ b) p q ha hb e =
    let r = prefix_free_law m n (flat_map gamma a ++ replicate p false) (flat_map gamma b ++ replicate q false) (ha 0 0 (omega arith)) (hb 0 0 (omega arith))
    (sym (append_assoc (gamma m) (flat_map gamma a) (replicate p false)) ∙ (e ∙ append_assoc (gamma n) (flat_map gamma b) (replicate q false))) in
    ap (λ z. z ∷ a) r.0 ∙ ap (λ z. n ∷ z) (codes_law a b p q (λ k d l. ha (suc k) d (omega arith)) (λ k d l. hb (suc k) d (omega arith)) r.1)

-- zeros and digits that make up the code of a number, as its leading zeros tell them
pub code_parts : (n d : ℕ) → 1 ≤ n → n < 2 ^ 64 → d ≡ 64 - count_leading_zeros 64 n → replicate (d - 1) false ++ low_bits d n ≡ gamma n
unfolding gamma
code_parts n d h small e =
    let k : d ≡ digits n = omega (arith, digits_counted n 64 h small) in
    ap (λ z. replicate (z - 1) false ++ low_bits z n) k ∙ ap (λ z. replicate (digits n - 1) false ++ z) (binary_is n)

-- the leading zeros of a number tell how many digits it has, and so what it is below
pub below_counted : (n d : ℕ) → 1 ≤ n → n < 2 ^ 64 → d ≡ 64 - count_leading_zeros 64 n → n < 2 ^ d
below_counted n d h small e =
    let k : digits n ≡ d = omega (arith, digits_counted n 64 h small) in
    subst (λ z. n < 2 ^ z) k (below_digits n)

-- as many lowest digits as the code has bits are the code
pub code_digits : (n d : ℕ) → 1 ≤ n → n < 2 ^ 64 → d ≡ 64 - count_leading_zeros 64 n → low_bits (d - 1 + d) n ≡ gamma n
code_digits n d h small e = low_bits-zeros (d - 1) d n (below_counted n d h small e) ∙ code_parts n d h small e
