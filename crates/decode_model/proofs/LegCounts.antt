-- A place enters each strong component once.
use Rattle.std.proofs.Common.{◌≡◌, ℕ, suc, ◌+◌, ◌*◌, ◌<◌, ◌≤◌, true, List, [], ◌∷◌, length, map, refl, sym, ap, ◌∙◌, subst, inl, inr, ⊎_elim, arith}
use Rattle.std.proofs.Math.Nat.{mul-le-mul_right}
use Rattle.std.proofs.lemmas.List.{length-map}
use Rattle.std.proofs.lemmas.List.Sums.{count_by-le-length}
use Rattle.wf_model.specs.Lists.{IsIn, AllDiffer, numbers_from, here, onward}
use Rattle.wf_model.specs.Grammar.{Grammar, IsComposite}
use Rattle.wf_model.specs.WellFormed.{IsWellFormed}
use Rattle.wf_model.specs.Proper.{Derives}
use Rattle.wf_model.specs.Reach.{Step, target_of}
use Rattle.wf_model.specs.Linear.{IsStepOf, IsOnCycle}
use Rattle.wf_model.proofs.Lists.{in_map_from}
use Rattle.wf_model.proofs.Walks.{walk-append}
use Rattle.wf_model.proofs.Going.{step_makes}
use Rattle.wf_model.proofs.NumberLists.{length-numbers}
use Rattle.label_model.specs.Bound.{components, cycles}
use Rattle.label_model.proofs.Differing.{no_more_below}
use Rattle.decode_model.specs.Legs.{Leg, One, Chain, Part}
use Rattle.decode_model.specs.Costs.{cost}
use Rattle.decode_model.specs.Counts.{IsLegsOfPlace, ends, goes, ends_after, goes_after, ends_part, goes_part, Numbers}
use Rattle.decode_model.specs.CostLaws.{CountLaw}
use Rattle.decode_model.proofs.ComponentNumbers.{numbers_law}

-- the steps and the chain_legs of a list of legs
single_legs : List Leg → ℕ
single_legs [] = 0
single_legs (One s ∷ legs) = suc (single_legs legs)
single_legs (Chain m round c ∷ legs) = single_legs legs
single_legs (Part m steps ∷ legs) = single_legs legs

chain_legs : List Leg → ℕ
chain_legs [] = 0
chain_legs (One s ∷ legs) = chain_legs legs
chain_legs (Chain m round c ∷ legs) = suc (chain_legs legs)
chain_legs (Part m steps ∷ legs) = suc (chain_legs legs)

one_more : (k a b : ℕ) → k + (a + b * k) ≡ a + suc b * k
one_more k a b = grind arith

cost_is : (l : ℕ) (legs : List Leg) → cost l legs ≡ single_legs legs + chain_legs legs * (23 + l)
unfolding single_legs chain_legs
cost_is l [] = (let e : 0 ≡ 0 + 0 * (23 + l) = omega arith in e)
cost_is l (One s ∷ legs) = let e = cost_is l legs in omega arith
cost_is l (Chain m round c ∷ legs) = let e = cost_is l legs in ap (λ z. (23 + l) + z) e ∙ one_more (23 + l) (single_legs legs) (chain_legs legs)
cost_is l (Part m steps ∷ legs) = let e = cost_is l legs in ap (λ z. (23 + l) + z) e ∙ one_more (23 + l) (single_legs legs) (chain_legs legs)

-- modules of which no later one derives an earlier one
abbrev Parted : Grammar → List ℕ → Type 0
Parted g [] = Unit {0}
Parted g (m ∷ ms) = ((n : ℕ) → IsIn n ms → Derives g n m → ⊥) × Parted g ms

-- modules of a kind, parted, below m
record Starts (g : Grammar) (Kind : ℕ → Type 0) (m k : ℕ) : Type 0 where
  all : List ℕ
  count : length all ≡ k
  parted : Parted g all
  kinds : (n : ℕ) → IsIn n all → Kind n
  below : (n : ℕ) → IsIn n all → Derives g m n

-- parted modules of a kind that is numbered below h are at most h
starts_few : (g : Grammar) (Kind : ℕ → Type 0) (number : ℕ → ℕ) (h m k : ℕ) → Numbers g Kind number h → Starts g Kind m k → k ≤ h
starts_few g Kind number h m k x s =
    let r = no_more_below (λ _. true) h (map number s.all) (differ s.all s.parted s.kinds)
    (λ y i. let q = in_map_from number y s.all i in (subst (λ z. z < h) (sym q.2) (x.below q.0 (s.kinds q.0 q.1)), refl)) in
    omega (arith, r, s.count, length-map s.all number, count_by-le-length (λ _. true) (numbers_from 0 h), length-numbers 0 h)
  where
    differ : (ms : List ℕ) → Parted g ms → ((n : ℕ) → IsIn n ms → Kind n) → AllDiffer (map number ms)
    differ [] p k = tt
    differ (m ∷ ms) p k = ((λ i. let q = in_map_from number (number m) ms i in p.0 q.0 q.1 (x.same q.0 m (k q.0 (inr q.1)) (k m (inl refl)) (sym q.2))), differ ms p.1 (λ n i. k n (inr i)))

composite : (g : Grammar) (m : ℕ) (s : Step) → IsStepOf g m s → IsComposite g m
composite g m s x = (s.production, (x.in_range, x.head))

nothing : (g : Grammar) (Kind : ℕ → Type 0) (m : ℕ) → Starts g Kind m 0
nothing g Kind m = record { all = []; count = refl; parted = tt; kinds = λ n i. absurd i; below = λ n i. absurd i }

-- one more module, which nothing below the target derives
add : (g : Grammar) (Kind : ℕ → Type 0) (m t x k : ℕ) → Kind x → Derives g m x → Derives g m t → (Derives g t x → ⊥) → Starts g Kind t k → Starts g Kind m (suc k)
add g Kind m t x k kind mx mt out s =
    let c = s.count in
    record {
      all = x ∷ s.all;
      count = omega arith;
      parted = ((λ n i d. out (walk-append (s.below n i) d)), s.parted);
      kinds = λ n i. ⊎_elim (λ e. subst Kind (sym e) kind) (λ j. s.kinds n j) i;
      below = λ n i. ⊎_elim (λ e. subst (Derives g m) (sym e) mx) (λ j. walk-append mt (s.below n j)) i;
    }

-- a module alone
alone : (g : Grammar) (Kind : ℕ → Type 0) (m x : ℕ) → Kind x → Derives g m x → Starts g Kind m 1
alone g Kind m x kind mx =
    record {
      all = x ∷ [];
      count = refl;
      parted = ((λ n i d. absurd i), tt);
      kinds = λ n i. ⊎_elim (λ e. subst Kind (sym e) kind) (λ j. absurd j) i;
      below = λ n i. ⊎_elim (λ e. subst (Derives g m) (sym e) mx) (λ j. absurd j) i;
    }

-- the same, from a module that derives it
above : (g : Grammar) (Kind : ℕ → Type 0) (m t k : ℕ) → Derives g m t → Starts g Kind t k → Starts g Kind m k
above g Kind m t k d s = record { all = s.all; count = s.count; parted = s.parted; kinds = s.kinds; below = λ n i. walk-append d (s.below n i) }

one_starts : (g : Grammar) (m : ℕ) (legs : List Leg) → IsLegsOfPlace g m legs → Starts g (IsComposite g) m (single_legs legs)
unfolding single_legs
one_starts g m _ (ends s x) = alone g (IsComposite g) m m (composite g m s x) here
one_starts g m _ (goes {legs = legs} s x out p) =
    let st = onward (step_makes g m s x) here in
    add g (IsComposite g) m (target_of g s) m (single_legs legs) (composite g m s x) here st (λ d. out (x, d)) (one_starts g (target_of g s) legs p)
one_starts g m _ (ends_after n s on mn nm x) = alone g (IsComposite g) m n (composite g n s x) mn
one_starts g m _ (goes_after {legs = legs} n s on mn nm x out p) =
    let st = walk-append mn (onward (step_makes g n s x) here) in
    add g (IsComposite g) m (target_of g s) n (single_legs legs) (composite g n s x) mn st (λ d. out (x, d)) (one_starts g (target_of g s) legs p)
one_starts g m _ (ends_part n s on mn nm x) = alone g (IsComposite g) m n (composite g n s x) mn
one_starts g m _ (goes_part {legs = legs} n s on mn nm x out p) =
    let st = walk-append mn (onward (step_makes g n s x) here) in
    add g (IsComposite g) m (target_of g s) n (single_legs legs) (composite g n s x) mn st (λ d. out (x, d)) (one_starts g (target_of g s) legs p)

chain_starts : (g : Grammar) (m : ℕ) (legs : List Leg) → IsLegsOfPlace g m legs → Starts g (IsOnCycle g) m (chain_legs legs)
unfolding chain_legs
chain_starts g m _ (ends s x) = nothing g (IsOnCycle g) m
chain_starts g m _ (goes {legs = legs} s x out p) = above g (IsOnCycle g) m (target_of g s) (chain_legs legs) (onward (step_makes g m s x) here) (chain_starts g (target_of g s) legs p)
chain_starts g m _ (ends_after n s on mn nm x) = alone g (IsOnCycle g) m m on here
chain_starts g m _ (goes_after {legs = legs} n s on mn nm x out p) =
    let st = walk-append mn (onward (step_makes g n s x) here) in
    add g (IsOnCycle g) m (target_of g s) m (chain_legs legs) on here st (λ d. out (x, walk-append d mn)) (chain_starts g (target_of g s) legs p)
chain_starts g m _ (ends_part n s on mn nm x) = alone g (IsOnCycle g) m m on here
chain_starts g m _ (goes_part {legs = legs} n s on mn nm x out p) =
    let st = walk-append mn (onward (step_makes g n s x) here) in
    add g (IsOnCycle g) m (target_of g s) m (chain_legs legs) on here st (λ d. out (x, walk-append d mn)) (chain_starts g (target_of g s) legs p)

-- the legs of a place cost at most one for each component, and for each cycle what a chain costs
place_cost : (g : Grammar) → IsWellFormed g → (l m : ℕ) (legs : List Leg) → IsLegsOfPlace g m legs → cost l legs ≤ components g + cycles g * (23 + l)
place_cost g wf l m legs p =
    let n = numbers_law g wf in
    let o = starts_few g (IsComposite g) n.composites.0 (components g) m (single_legs legs) n.composites.1 (one_starts g m legs p) in
    let c = starts_few g (IsOnCycle g) n.on_cycles.0 (cycles g) m (chain_legs legs) n.on_cycles.1 (chain_starts g m legs p) in
    let w = mul-le-mul_right (23 + l) c in
    omega (arith, cost_is l legs, o, w)

pub count_law : CountLaw
count_law g wf l m a b pa pb = total (components g) (cycles g) l (cost l a) (cost l b) (place_cost g wf l m a pa) (place_cost g wf l m b pb)
  where
    total : (h q l x y : ℕ) → x ≤ h + q * (23 + l) → y ≤ h + q * (23 + l) → x + y + 2 ≤ 2 * (h + 1) + 2 * q * (24 + l)
    total h q l x y a b = grind arith
