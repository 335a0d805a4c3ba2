-- The matrices of the first steps and of the last steps of a cycle, one by one.
use Rattle.std.proofs.Common.{◌≡◌, ℕ, zero, suc, ◌+◌, ◌-◌, ◌*◌, ◌<◌, List, length, sym, ap, ◌∙◌, subst, inl, inr, arith}
use Rattle.std.proofs.lemmas.Bool.{cases_eq}
use Rattle.bool_mat.specs.Matrix.{Matrix, Adds, matrix_at}
use Rattle.bool_mat.proofs.Pools.{adds_more}
use Rattle.wf_model.specs.Grammar.{Grammar, Assignment}
use Rattle.label_model.specs.Continuing.{after}
use Rattle.label_model.proofs.Periods.{after-add}
use Rattle.wf_vlabel.specs.declared.rounds.way.Way.{Way}
use Rattle.wf_vlabel.specs.Groups.{GroupsSeen}
use Rattle.wf_vlabel.specs.ChainMatrices.{IsChain, FitAlong, IsProductAlong, HasSteps, AreFirsts, AreLasts, AreParts}
use Rattle.wf_vlabel.proofs.Chains.{chain_fit, chain_more}

-- a matrix of the pool before two are added
kept_twice : (old middle new : List Matrix) (a b k : ℕ) → Adds old middle a 1 → Adds middle new b 1 → k < length old → matrix_at new k ≡ matrix_at old k
kept_twice old middle new a b k p q h = let t = p.total in q.kept k (omega arith) ∙ p.kept k h

-- the matrices of the first i steps so far
pub record FirstsSoFar (way : Way) (g : Grammar) (t : GroupsSeen) (first : ℕ) (start pool : List Matrix) (n last i : ℕ) : Type 0 where
  pub added : Adds start pool n (2 * i - 1)
  pub ends : last + 2 ≡ n + 2 * i
  pub firsts : (d : Assignment) → HasSteps g d t first → AreFirsts way g d first i pool n

pub firsts_one : (way : Way) (g : Grammar) (t : GroupsSeen) (first : ℕ) (start pool : List Matrix) (n : ℕ) → Adds start pool n 1 → ((d : Assignment) → HasSteps g d t first → IsChain way g d first 1 (matrix_at pool n)) → FirstsSoFar way g t first start pool n n 1
firsts_one way g t first start pool n a one = record {
  added = a;
  ends = omega arith;
  firsts = λ d h k l. let z : k ≡ 0 = omega arith in subst (λ i. IsChain way g d first (suc i) (matrix_at pool (n + 2 * i))) (sym z) (let e : n + 2 * 0 ≡ n = omega arith in subst (λ i. IsChain way g d first 1 (matrix_at pool i)) (sym e) (one d h));
}

-- the last of them is that of all
firsts_last : (way : Way) (g : Grammar) (d : Assignment) (t : GroupsSeen) (first : ℕ) (start pool : List Matrix) (n last i : ℕ) → 0 < i → HasSteps g d t first → FirstsSoFar way g t first start pool n last i → IsChain way g d first i (matrix_at pool last)
firsts_last way g d t first start pool n last zero some h f = absurd (omega arith)
firsts_last way g d t first start pool n last (suc i) some h f =
    let e = f.ends in
    let at : n + 2 * i ≡ last = omega arith in
    subst (λ z. IsChain way g d first (suc i) (matrix_at pool z)) at (f.firsts d h i (omega arith))

pub firsts_room : (way : Way) (g : Grammar) (t : GroupsSeen) (first : ℕ) (start pool : List Matrix) (n last i : ℕ) → 0 < i → FirstsSoFar way g t first start pool n last i → last < length pool
firsts_room way g t first start pool n last i some f = let e = f.ends in let a = f.added.number in let b = f.added.total in omega arith

pub firsts_fit : (way : Way) (g : Grammar) (d : Assignment) (t : GroupsSeen) (first : ℕ) (start pool middle : List Matrix) (n last i step : ℕ) → 0 < i → HasSteps g d t first → FirstsSoFar way g t first start pool n last i →
    Adds pool middle step 1 → IsChain way g d (after g i first) 1 (matrix_at middle step) → FitAlong way (matrix_at middle last) (matrix_at middle step)
firsts_fit way g d t first start pool middle n last i step some h f a s =
    let r = firsts_room way g t first start pool n last i some f in
    chain_fit way g d first i 1 (matrix_at middle last) (matrix_at middle step) (subst (IsChain way g d first i) (sym (a.kept last r)) (firsts_last way g d t first start pool n last i some h f)) s

-- one step more
pub firsts_more : (way : Way) (g : Grammar) (t : GroupsSeen) (first : ℕ) (start pool middle new : List Matrix) (n last i step next : ℕ) → 0 < i → FirstsSoFar way g t first start pool n last i →
    Adds pool middle step 1 → ((d : Assignment) → HasSteps g d t first → IsChain way g d (after g i first) 1 (matrix_at middle step)) →
    Adds middle new next 1 → IsProductAlong way (matrix_at middle last) (matrix_at middle step) (matrix_at new next) → FirstsSoFar way g t first start new n next (i + 1)
firsts_more way g t first start pool middle new n last i step next some f a s b p =
    let e = f.ends in
    let from = f.added.number in
    let count = f.added.total in
    let a' = a.total in
    let b' = b.number in
    let r = firsts_room way g t first start pool n last i some f in
    let two : 2 * i - 1 + (1 + 1) ≡ 2 * (i + 1) - 1 = omega arith in
    let here : n + 2 * i ≡ next = omega arith in
    let one : i + 1 ≡ suc i = omega arith in
    record {
      added = subst (Adds start new n) two (adds_more start pool new n step (2 * i - 1) (1 + 1) f.added (adds_more pool middle new step next 1 1 a b));
      ends = omega arith;
      firsts = λ d h k l. elim (cases_eq k i) [
        | inl is ↦ subst (λ z. IsChain way g d first (suc z) (matrix_at new (n + 2 * z))) (sym is)
            (subst (λ z. IsChain way g d first (suc i) (matrix_at new z)) (sym here)
            (subst (λ z. IsChain way g d first z (matrix_at new next)) one
            (chain_more way g d first i 1 (matrix_at middle last) (matrix_at middle step) (matrix_at new next)
            (subst (IsChain way g d first i) (sym (a.kept last r)) (firsts_last way g d t first start pool n last i some h f)) (s d h) p)))
        | inr not ↦ let low : k < i = omega arith in let room : n + 2 * k < length pool = omega arith in
            subst (IsChain way g d first (suc k)) (sym (kept_twice pool middle new step next (n + 2 * k) a b room)) (f.firsts d h k low)
      ];
    }

-- the matrices of the last steps so far, those of the places from this one on
pub record LastsSoFar (way : Way) (g : Grammar) (t : GroupsSeen) (first size : ℕ) (start pool : List Matrix) (n last place : ℕ) : Type 0 where
  pub below : place < size
  pub added : Adds start pool n (2 * (size - place) - 1)
  pub ends : last + 2 ≡ n + 2 * (size - place)
  pub lasts : (d : Assignment) → HasSteps g d t first → AreLasts way g d first size (size - place) pool n

pub lasts_one : (way : Way) (g : Grammar) (t : GroupsSeen) (first size : ℕ) (start pool : List Matrix) (n place : ℕ) → place + 1 ≡ size → Adds start pool n 1 →
    ((d : Assignment) → HasSteps g d t first → IsChain way g d (after g place first) 1 (matrix_at pool n)) → LastsSoFar way g t first size start pool n n place
lasts_one way g t first size start pool n place end a one =
    let count : 1 ≡ 2 * (size - place) - 1 = omega arith in
    let zero_more : n + 2 * 0 ≡ n = omega arith in
    record {
      below = omega arith;
      added = subst (Adds start pool n) count a;
      ends = omega arith;
      lasts = λ d h k j l e. let z : k ≡ 0 = omega arith in let w : j ≡ place = omega arith in
          subst (λ i. IsChain way g d (after g j first) (suc i) (matrix_at pool (n + 2 * i))) (sym z)
          (subst (λ i. IsChain way g d (after g i first) 1 (matrix_at pool (n + 2 * 0))) (sym w)
          (subst (λ i. IsChain way g d (after g place first) 1 (matrix_at pool i)) (sym zero_more) (one d h)));
    }

-- the last of them is that of all
lasts_last : (way : Way) (g : Grammar) (d : Assignment) (t : GroupsSeen) (first size : ℕ) (start pool : List Matrix) (n last place count : ℕ) → place + suc count ≡ size → HasSteps g d t first → LastsSoFar way g t first size start pool n last place → IsChain way g d (after g place first) (suc count) (matrix_at pool last)
lasts_last way g d t first size start pool n last place count c h f =
    let e = f.ends in
    let at : n + 2 * count ≡ last = omega arith in
    subst (λ z. IsChain way g d (after g place first) (suc count) (matrix_at pool z)) at (f.lasts d h count place (omega arith) c)

pub lasts_room : (way : Way) (g : Grammar) (t : GroupsSeen) (first size : ℕ) (start pool : List Matrix) (n last place : ℕ) → LastsSoFar way g t first size start pool n last place → last < length pool
lasts_room way g t first size start pool n last place f = let e = f.ends in let a = f.added.number in let b = f.added.total in let l = f.below in omega arith

-- from the place before on, one step and then those of the place
lasts_after : (way : Way) (g : Grammar) (d : Assignment) (t : GroupsSeen) (first size : ℕ) (start pool middle : List Matrix) (n last place before count step : ℕ) → before + 1 ≡ place → place + suc count ≡ size → HasSteps g d t first →
    LastsSoFar way g t first size start pool n last place → Adds pool middle step 1 → IsChain way g d (after g 1 (after g before first)) (suc count) (matrix_at middle last)
lasts_after way g d t first size start pool middle n last place before count step one c h f a =
    let r = lasts_room way g t first size start pool n last place f in
    subst (λ m. IsChain way g d m (suc count) (matrix_at middle last)) (ap (λ z. after g z first) (sym one) ∙ after-add g before 1 first)
    (subst (IsChain way g d (after g place first) (suc count)) (sym (a.kept last r)) (lasts_last way g d t first size start pool n last place count c h f))

pub lasts_fit : (way : Way) (g : Grammar) (d : Assignment) (t : GroupsSeen) (first size : ℕ) (start pool middle : List Matrix) (n last place before step : ℕ) → before + 1 ≡ place → HasSteps g d t first →
    LastsSoFar way g t first size start pool n last place → Adds pool middle step 1 → IsChain way g d (after g before first) 1 (matrix_at middle step) → FitAlong way (matrix_at middle step) (matrix_at middle last)
lasts_fit way g d t first size start pool middle n last place before step one h f a s =
    let l = f.below in
    let count = size - place - 1 in
    chain_fit way g d (after g before first) 1 (suc count) (matrix_at middle step) (matrix_at middle last) s (lasts_after way g d t first size start pool middle n last place before count step one (omega arith) h f a)

-- one step more
pub lasts_more : (way : Way) (g : Grammar) (t : GroupsSeen) (first size : ℕ) (start pool middle new : List Matrix) (n last place before step next : ℕ) → before + 1 ≡ place → LastsSoFar way g t first size start pool n last place →
    Adds pool middle step 1 → ((d : Assignment) → HasSteps g d t first → IsChain way g d (after g before first) 1 (matrix_at middle step)) →
    Adds middle new next 1 → IsProductAlong way (matrix_at middle step) (matrix_at middle last) (matrix_at new next) → LastsSoFar way g t first size start new n next before
lasts_more way g t first size start pool middle new n last place before step next one f a s b p =
    let l = f.below in
    let e = f.ends in
    let from = f.added.number in
    let total = f.added.total in
    let a' = a.total in
    let b' = b.number in
    let count = size - place - 1 in
    let two : 2 * (size - place) - 1 + (1 + 1) ≡ 2 * (size - before) - 1 = omega arith in
    let c : place + suc count ≡ size = omega arith in
    let here : n + 2 * suc count ≡ next = omega arith in
    let more : 1 + suc count ≡ suc (suc count) = omega arith in
    record {
      below = omega arith;
      added = subst (Adds start new n) two (adds_more start pool new n step (2 * (size - place) - 1) (1 + 1) f.added (adds_more pool middle new step next 1 1 a b));
      ends = omega arith;
      lasts = λ d h k j low q. elim (cases_eq k (suc count)) [
        | inl is ↦ let w : j ≡ before = omega arith in
            subst (λ z. IsChain way g d (after g j first) (suc z) (matrix_at new (n + 2 * z))) (sym is)
            (subst (λ z. IsChain way g d (after g z first) (suc (suc count)) (matrix_at new (n + 2 * suc count))) (sym w)
            (subst (λ z. IsChain way g d (after g before first) (suc (suc count)) (matrix_at new z)) (sym here)
            (subst (λ z. IsChain way g d (after g before first) z (matrix_at new next)) more
            (chain_more way g d (after g before first) 1 (suc count) (matrix_at middle step) (matrix_at middle last) (matrix_at new next) (s d h)
            (lasts_after way g d t first size start pool middle n last place before count step one c h f a) p))))
        | inr not ↦ let less : k < size - place = omega arith in let room : n + 2 * k < length pool = omega arith in
            subst (IsChain way g d (after g j first) (suc k)) (sym (kept_twice pool middle new step next (n + 2 * k) a b room)) (f.lasts d h k j less q)
      ];
    }

-- the last steps from a place on, and the first steps up to it
parts_from : (way : Way) (g : Grammar) (d : Assignment) (first size : ℕ) (pool : List Matrix) (place count before : ℕ) → AreParts way g d first size pool → place + suc count ≡ size → before + 1 ≡ place →
    after g size first ≡ first → IsChain way g d (after g place first) (suc count) (matrix_at pool (2 * size - 1 + 2 * count)) × IsChain way g d (after g (suc count) (after g place first)) (suc before) (matrix_at pool (2 * before))
parts_from way g d first size pool place count before p c b back =
    let n : 2 * size - 1 + 1 ≡ 2 * size = omega arith in
    let z : 0 + 2 * before ≡ 2 * before = omega arith in
    let there : after g (suc count) (after g place first) ≡ first = sym (after-add g place (suc count) first) ∙ (ap (λ k. after g k first) c ∙ back) in (
      p.lasts (2 * size - 1) n count place (omega arith) c,
      subst (λ m. IsChain way g d m (suc before) (matrix_at pool (2 * before))) (sym there) (subst (λ k. IsChain way g d first (suc before) (matrix_at pool k)) z (p.firsts before (omega arith))),
    )

pub parts_fit : (way : Way) (g : Grammar) (d : Assignment) (first size : ℕ) (pool : List Matrix) (place : ℕ) → AreParts way g d first size pool → place < size → 0 < place → after g size first ≡ first →
    FitAlong way (matrix_at pool (2 * size - 1 + 2 * (size - place - 1))) (matrix_at pool (2 * (place - 1)))
parts_fit way g d first size pool place p l some back =
    let q = parts_from way g d first size pool place (size - place - 1) (place - 1) p (omega arith) (omega arith) back in
    chain_fit way g d (after g place first) (suc (size - place - 1)) (suc (place - 1)) (matrix_at pool (2 * size - 1 + 2 * (size - place - 1))) (matrix_at pool (2 * (place - 1))) q.0 q.1

-- together they are once round
pub parts_round : (way : Way) (g : Grammar) (d : Assignment) (first size : ℕ) (pool : List Matrix) (place : ℕ) (m : Matrix) → AreParts way g d first size pool → place < size → 0 < place → after g size first ≡ first →
    IsProductAlong way (matrix_at pool (2 * size - 1 + 2 * (size - place - 1))) (matrix_at pool (2 * (place - 1))) m → IsChain way g d (after g place first) size m
parts_round way g d first size pool place m p l some back product =
    let q = parts_from way g d first size pool place (size - place - 1) (place - 1) p (omega arith) (omega arith) back in
    let whole : suc (size - place - 1) + suc (place - 1) ≡ size = omega arith in
    subst (λ n. IsChain way g d (after g place first) n m) whole
    (chain_more way g d (after g place first) (suc (size - place - 1)) (suc (place - 1)) (matrix_at pool (2 * size - 1 + 2 * (size - place - 1))) (matrix_at pool (2 * (place - 1))) m q.0 q.1 product)
