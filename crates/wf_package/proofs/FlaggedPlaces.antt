-- The numbers that pass a test, and their places.
use Rattle.std.proofs.Common.{◌≡◌, ℕ, zero, suc, ◌+◌, ◌<◌, ◌≤◌, Bool, true, false, cond, not, List, [], ◌∷◌, ◌++◌, length, map, get_or, sym, ap, ◌∙◌, subst, arith, add-one}
use Rattle.std.specs.List.{filter}
use Rattle.std.proofs.lemmas.Bool.{eq-eqb, ne_eqb}
use Rattle.std.proofs.lemmas.List.{length-map, map-append}
use Rattle.std.proofs.lemmas.List.Elements.{filter-append}
use Rattle.wf_model.specs.Lists.{IsIn, numbers_from}
use Rattle.wf_model.proofs.Lists.{in_filter_from}
use Rattle.wf_model.proofs.Level.{in_numbers}
use Rattle.wf_model.proofs.NumberLists.{numbers_from-last, length-numbers, get_numbered}
use Rattle.package_model.specs.Shown.{place_in}
use Rattle.wf_package.specs.Parts.{ArePlaces}
use Rattle.wf_package.specs.declared.places.PlacedNumbers.{PlacedNumbers}

pub nought : (k : ℕ) → 0 + k ≡ k
nought k = omega arith

-- the numbers below n that pass
abbrev pub numbers_passing : (ℕ → Bool) → ℕ → List ℕ
numbers_passing t n = filter t (numbers_from 0 n)

-- how many numbers below k pass
abbrev pub count_passing : (ℕ → Bool) → ℕ → ℕ
count_passing t k = length (numbers_passing t k)

-- one number more
pub numbers_passing-more : (t : ℕ → Bool) (k : ℕ) → numbers_passing t (k + 1) ≡ numbers_passing t k ++ cond (t k) (k ∷ []) []
numbers_passing-more t k =
    ap (numbers_passing t) (add-one k) ∙ ap (filter t) (numbers_from-last 0 k) ∙ filter-append t (numbers_from 0 k) ((0 + k) ∷ [])
    ∙ ap (λ m. numbers_passing t k ++ filter t (m ∷ [])) (nought k)

pub few_passing : (t : ℕ → Bool) (k n : ℕ) → length (filter t (numbers_from k n)) ≤ n
few_passing t k zero = omega arith
few_passing t k (suc n) = go (few_passing t (suc k) n) (t k)
  where
    go : length (filter t (numbers_from (suc k) n)) ≤ n → (b : Bool) → length (cond b (k ∷ filter t (numbers_from (suc k) n)) (filter t (numbers_from (suc k) n))) ≤ suc n
    go ih true = omega arith
    go ih false = omega arith

add-one-left : (n : ℕ) → suc n ≡ 1 + n
add-one-left n = omega arith

-- the place of a number that passes is how many before it do
place_counted : (t : ℕ → Bool) (k j n : ℕ) → j < n → t (k + j) ≡ true → place_in (filter t (numbers_from k n)) (k + j) ≡ length (filter t (numbers_from k j))
place_counted t k j zero h p = absurd (omega arith)
place_counted t k zero (suc n) h p =
    let e : k + 0 ≡ k = omega arith in
    ap (λ b. place_in (cond b (k ∷ filter t (numbers_from (suc k) n)) (filter t (numbers_from (suc k) n))) (k + 0)) (ap t (sym e) ∙ p)
    ∙ ap (λ b. cond (not b) (1 + place_in (filter t (numbers_from (suc k) n)) (k + 0)) 0) (eq-eqb k (k + 0) (sym e))
place_counted t k (suc j) (suc n) h p =
    let e : suc k + j ≡ k + suc j = omega arith in
    go (place_counted t (suc k) j n (omega arith) (subst (λ m. t m ≡ true) (sym e) p)) e (t k)
  where
    go : place_in (filter t (numbers_from (suc k) n)) (suc k + j) ≡ length (filter t (numbers_from (suc k) j)) → suc k + j ≡ k + suc j → (b : Bool) →
        place_in (cond b (k ∷ filter t (numbers_from (suc k) n)) (filter t (numbers_from (suc k) n))) (k + suc j) ≡ length (cond b (k ∷ filter t (numbers_from (suc k) j)) (filter t (numbers_from (suc k) j)))
    go ih e false = ap (place_in (filter t (numbers_from (suc k) n))) (sym e) ∙ ih
    go ih e true =
        ap (λ b. cond (not b) (1 + place_in (filter t (numbers_from (suc k) n)) (k + suc j)) 0) (ne_eqb k (k + suc j) (λ q. absurd (omega arith)))
        ∙ ap (λ m. 1 + place_in (filter t (numbers_from (suc k) n)) m) (sym e) ∙ ap (λ m. 1 + m) ih
        ∙ sym (add-one-left (length (filter t (numbers_from (suc k) j))))

-- the value of one number more
pub value_added : {A : Type 0} (f : ℕ → A) (k : ℕ) (x : A) (before after : List A) → before ≡ map f (numbers_from 0 k) → x ≡ f k → after ≡ before ++ x ∷ [] → after ≡ map f (numbers_from 0 (k + 1))
value_added f k x before after so_far is added =
    added ∙ ap (λ l. l ++ x ∷ []) so_far ∙ ap (λ c. map f (numbers_from 0 k) ++ c ∷ []) is
    ∙ sym (ap (λ n. map f (numbers_from 0 n)) (add-one k) ∙ ap (map f) (numbers_from-last 0 k) ∙ map-append f (numbers_from 0 k) ((0 + k) ∷ []) ∙ ap (λ m. map f (numbers_from 0 k) ++ f m ∷ []) (nought k))

-- numbers that pass, with the counts as their places
pub are_places : (flags : List Bool) (p : PlacedNumbers) (n : ℕ) → n ≡ length flags → p.numbers.items ≡ numbers_passing (λ m. get_or flags m false) n → p.places.items ≡ map (count_passing (λ m. get_or flags m false)) (numbers_from 0 n) → ArePlaces flags p
are_places flags p n whole numbers places =
    let t : ℕ → Bool = λ m. get_or flags m false in
    record {
      numbers = numbers ∙ ap (numbers_passing t) whole;
      one_each = ap length places ∙ length-map (numbers_from 0 n) (count_passing t) ∙ length-numbers 0 n ∙ whole;
      places = λ m h.
          let q = in_filter_from t m (numbers_from 0 n) (subst (IsIn m) numbers h) in
          let l : m < 0 + n = in_numbers m 0 n q.0 in
          let l2 : m < n = omega arith in
          ap (λ ps. get_or ps m 0) places ∙ get_numbered (count_passing t) 0 n m 0 l2 ∙ ap (count_passing t) (nought m)
          ∙ sym (place_counted t 0 m n l2 (ap t (nought m) ∙ q.1)) ∙ ap (place_in (numbers_passing t n)) (nought m) ∙ ap (λ ns. place_in ns m) (sym numbers);
    }
