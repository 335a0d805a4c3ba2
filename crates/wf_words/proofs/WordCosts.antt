-- How many row products a verdict by words takes.
use Rattle.std.proofs.Common.{◌≡◌, ◌==◌, ◌⊎◌, ℕ, zero, suc, ◌+◌, ◌*◌, ◌<◌, ◌≤◌, Bool, true, false, cond, [], ◌∷◌, ◌++◌, length, filter, refl, ap, sym, ◌∙◌, subst, inl, inr, arith, true≢false, length-append}
use Rattle.std.proofs.lemmas.Bool.{cases_Bool, eq-eqb}
use Rattle.std.proofs.lemmas.List.Elements.{filter-append}
use Rattle.wf_model.specs.Lists.{IsIn, some, numbers_from}
use Rattle.wf_model.proofs.Costs.{one_more_cost, all_cost}
use Rattle.wf_model.proofs.Lists.{some_from}
use Rattle.wf_model.proofs.NumberLists.{numbers_from-last}
use Rattle.wf_recur.proofs.Ways.{less_or_same}
use Rattle.words_model.specs.Automata.{Automaton}
use Rattle.wf_words.specs.WordViews.{accepting_below}

-- one decision before the others
pub cost_behind : (old mid new most rest : ℕ) → mid ≤ old + most → new ≤ mid + rest → new ≤ old + most + rest
cost_behind old mid new most rest first others = omega arith

pub cost_alone : (old new most rest : ℕ) → new ≤ old + most → new ≤ old + most + rest
cost_alone old new most rest first = omega arith

length-if : (b : Bool) (n : ℕ) → length (cond b (n ∷ []) []) ≡ cond b 1 0
length-if true n = refl
length-if false n = refl

-- one state more counts where it accepts
below_more : (a : Automaton) (n : ℕ) → accepting_below a (n + 1) ≡ accepting_below a n + cond (some (λ t. t == n) a.accept) 1 0
below_more a n =
    let p : ℕ → Bool = λ s. some (λ t. t == s) a.accept in
    let one : n + 1 ≡ suc n = omega arith in
    let e : 0 + n ≡ n = omega arith in
    let last : numbers_from 0 (n + 1) ≡ numbers_from 0 n ++ n ∷ [] = ap (numbers_from 0) one ∙ (numbers_from-last 0 n ∙ ap (λ j. numbers_from 0 n ++ j ∷ []) e) in
    ap (λ ns. length (filter p ns)) last ∙ (ap length (filter-append p (numbers_from 0 n) (n ∷ [])) ∙ (length-append (filter p (numbers_from 0 n)) (filter p (n ∷ [])) ∙ ap (λ k. length (filter p (numbers_from 0 n)) + k) (length-if (p n) n)))

below_up : (a : Automaton) (n m : ℕ) → n ≤ m → accepting_below a n ≤ accepting_below a m
below_up a n zero low = let e : n ≡ zero = omega (arith, low) in subst (λ k. accepting_below a n ≤ accepting_below a k) e (omega arith)
below_up a n (suc m) low = go (less_or_same n (suc m) (omega (arith, low))) (below_up a n m)
  where
    go : (n < suc m) ⊎ (n ≡ suc m) → (n ≤ m → accepting_below a n ≤ accepting_below a m) → accepting_below a n ≤ accepting_below a (suc m)
    go (inl h) rest =
        let one : m + 1 ≡ suc m = omega arith in
        subst (λ k. accepting_below a n ≤ accepting_below a k) one (omega (arith, rest (omega (arith, h)), below_more a m))
    go (inr e) rest = subst (λ k. accepting_below a n ≤ accepting_below a k) e (omega arith)

-- a state that is tried costs one decision at most, and none where it does not accept
pub cost_of_state : (a : Automaton) (n old mid new most : ℕ) → mid ≤ old + accepting_below a n * most → ((IsIn n a.accept → ⊥) → new ≡ mid) → new ≤ mid + most → new ≤ old + accepting_below a (n + 1) * most
cost_of_state a n old mid new most before idle one = go (cases_Bool (some (λ t. t == n) a.accept))
  where
    go : (some (λ t. t == n) a.accept ≡ true) ⊎ (some (λ t. t == n) a.accept ≡ false) → new ≤ old + accepting_below a (n + 1) * most
    go (inl e) =
        let count : accepting_below a n + 1 ≡ accepting_below a (n + 1) = sym (below_more a n ∙ ap (λ b. accepting_below a n + cond b 1 0) e) in
        subst (λ k. new ≤ old + k * most) count (one_more_cost old mid new (accepting_below a n) most before one)
    go (inr e) =
        let count : accepting_below a n ≡ accepting_below a (n + 1) = let same : accepting_below a n + 0 ≡ accepting_below a n = omega arith in sym (below_more a n ∙ (ap (λ b. accepting_below a n + cond b 1 0) e ∙ same)) in
        let none : IsIn n a.accept → ⊥ = λ h. true≢false (sym (some_from (λ t. t == n) n a.accept h (eq-eqb n n refl)) ∙ e) in
        subst (λ k. new ≤ old + k * most) count (omega (arith, idle none, before))

-- and with some of the states the cost is at most that with all
pub cost_of_all : (a : Automaton) (n old new most : ℕ) → new ≤ old + accepting_below a n * most → n ≤ a.states → new ≤ old + accepting_below a a.states * most
cost_of_all a n old new most h low = all_cost old new (accepting_below a n) (accepting_below a a.states) most h (below_up a n a.states low)
