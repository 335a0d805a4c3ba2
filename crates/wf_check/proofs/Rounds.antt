-- Ranks that are found in rounds.
use Rattle.std.proofs.Common.{◌≡◌, ◌↔◌, ℕ, zero, suc, ◌+◌, ◌<◌, ◌≤◌, ◌⊎◌, Bool, true, false, List, Option, None, Some, length, map, get_or, set, is_some, refl, sym, ◌∙◌, subst, inl, inr, ⊎_elim, arith, true≢false}
use Rattle.std.specs.Prelude.{IsTrue, not}
use Rattle.std.specs.Bool.{then_some}
use Rattle.std.proofs.lemmas.Bool.Decides.{nat_tests}
use Rattle.std.proofs.lemmas.List.{get_or-set_same, get_or-set_other, get_or-map, length-set}
use Rattle.wf_model.specs.Lists.{IsIn}
use Rattle.wf_model.specs.Grammar.{Grammar, body_of, IsComposite, IsProductionOf}
use Rattle.wf_model.specs.Proper.{RankWithin, IsRank}
use Rattle.wf_model.specs.WellFormed.{IsWellFormed}
use Rattle.wf_check.specs.Improper.{IsProductive}
use Rattle.wf_check.specs.Ranks.{TellsRank, AreRanks, TellsRankBelow, AreRanksBelow, IsRound, is_below, IsLower}
use Rattle.std.proofs.lemmas.Bool.{cases_eq}
use Rattle.wf_model.proofs.Composites.{composite_below}

rank_one_more : (g : Grammar) (n m : ℕ) → RankWithin g n m → RankWithin g (suc n) m
rank_one_more g zero m h = inl h
rank_one_more g (suc n) m (inl a) = inl a
rank_one_more g (suc n) m (inr d) = inr (d.0, d.1, λ k i. rank_one_more g n k (d.2 k i))

pub rank_more : (g : Grammar) (a b m : ℕ) → a ≤ b → RankWithin g a m → RankWithin g b m
rank_more g a zero m h r = let e : a ≡ 0 = omega arith in subst (λ n. RankWithin g n m) e r
rank_more g a (suc b) m h r = ⊎_elim
    (λ e. subst (λ n. RankWithin g n m) e r)
    (λ l. rank_one_more g b m (rank_more g a b m l r))
    cases
  where
    cases : (a ≡ suc b) ⊎ (a ≤ b)
    cases = grind arith

-- what is known of a module is its rank, or that it has none below n
abbrev pub Knows : Grammar → ℕ → ℕ → Option ℕ → Type 0
Knows g n m None = (k : ℕ) → k < n → RankWithin g k m → ⊥
Knows g n m (Some k) = IsRank g m k

abbrev pub AreKnown : Grammar → ℕ → List (Option ℕ) → Type 0
AreKnown g n ranks = (m : ℕ) → m < length g.modules → Knows g n m (get_or ranks m None)

knows_below : (g : Grammar) (n m : ℕ) (o : Option ℕ) → TellsRankBelow g n m o → Knows g n m o
knows_below g n m None h = h
knows_below g n m (Some k) h = h.1

knows_rank : (g : Grammar) (n m : ℕ) (o : Option ℕ) → TellsRank g m o → Knows g n m o
knows_rank g n m None h = λ k l r. h k r
knows_rank g n m (Some k) h = h

knows_fewer : (g : Grammar) (n m : ℕ) (o : Option ℕ) → Knows g (n + 1) m o → Knows g n m o
knows_fewer g n m None h = λ k l r. h k (omega arith) r
knows_fewer g n m (Some k) h = h

pub ranks_known : (g : Grammar) (n : ℕ) (ranks : List (Option ℕ)) → AreRanks g ranks → AreKnown g n ranks
ranks_known g n ranks h m l = knows_rank g n m (get_or ranks m None) (h.told m l)

pub round_known : (g : Grammar) (n tried : ℕ) (ranks : List (Option ℕ)) → IsRound g n tried ranks → AreKnown g n ranks
round_known g n tried ranks h m l = ⊎_elim
    (λ s. knows_fewer g n m (get_or ranks m None) (knows_below g (n + 1) m (get_or ranks m None) (h.told m s l)))
    (λ s. knows_below g n m (get_or ranks m None) (h.left m s l))
    cases
  where
    cases : (m < tried) ⊎ (tried ≤ m)
    cases = grind arith

-- a rank below suc j is one within j
below_gives : (g : Grammar) (j m : ℕ) (o : Option ℕ) → Knows g (suc j) m o → is_below (suc j) o ≡ true → RankWithin g j m
below_gives g j m None h t = absurd (true≢false (sym t))
below_gives g j m (Some k) h t = let l : k ≤ j = grind (arith, nat_tests) in rank_more g k j m l h.0

below_from : (g : Grammar) (j m : ℕ) (o : Option ℕ) → Knows g (suc j) m o → RankWithin g j m → is_below (suc j) o ≡ true
below_from g j m None h r = absurd (h j (omega arith) r)
below_from g j m (Some k) h r = let l : k ≤ j = h.1 j r in grind (arith, nat_tests)

-- a production whose body has lower ranks alone
pub lower_gives : (g : Grammar) (j m p : ℕ) (ranks : List (Option ℕ)) → IsWellFormed g → AreKnown g (suc j) ranks → IsLower g ranks (suc j) m p → (k : ℕ) → IsIn k (body_of g p) → RankWithin g j k
lower_gives g j m p ranks w known l k i = below_gives g j k (get_or ranks k None) (known k ((w.bodies p l.of_module.0).modules k i)) (l.body k i)

pub lower_from : (g : Grammar) (j m p : ℕ) (ranks : List (Option ℕ)) → IsWellFormed g → AreKnown g (suc j) ranks → IsProductionOf g p m → ((k : ℕ) → IsIn k (body_of g p) → RankWithin g j k) → IsLower g ranks (suc j) m p
lower_from g j m p ranks w known of body = record {
  of_module = of;
  body = λ k i. below_from g j k (get_or ranks k None) (known k ((w.bodies p of.0).modules k i)) (body k i);
}

-- a module that has no rank below n has the rank n if all modules of some body have ranks below n
gets_rank : (g : Grammar) (n m : ℕ) (ranks : List (Option ℕ)) → IsWellFormed g → 0 < n → AreKnown g n ranks → ((k : ℕ) → k < n → RankWithin g k m → ⊥) → (p : ℕ) → IsLower g ranks n m p → IsRank g m n
gets_rank g zero m ranks w pos known none p l = absurd (omega arith)
gets_rank g (suc j) m ranks w pos known none p l = (
  inr (p, l.of_module, lower_gives g j m p ranks w known l),
  λ k r. ⊎_elim (λ s. absurd (none k s r)) (λ s. s) (cases k),
)
  where
    cases : (k : ℕ) → (k < suc j) ⊎ (suc j ≤ k)
    cases k = grind arith

-- and no rank within n if no body has
gets_none : (g : Grammar) (n m : ℕ) (ranks : List (Option ℕ)) → IsWellFormed g → 0 < n → AreKnown g n ranks → ((k : ℕ) → k < n → RankWithin g k m → ⊥) → ((p : ℕ) → ¬ IsLower g ranks n m p) → RankWithin g n m → ⊥
gets_none g zero m ranks w pos known none no_lower r = absurd (omega arith)
gets_none g (suc j) m ranks w pos known none no_lower (inl a) = none 0 pos a
gets_none g (suc j) m ranks w pos known none no_lower (inr d) = no_lower d.0 (lower_from g j m d.0 ranks w known d.1 d.2)

tells_none : (g : Grammar) (n m : ℕ) (o : Option ℕ) → o ≡ None → TellsRankBelow g n m o → (k : ℕ) → k < n → RankWithin g k m → ⊥
tells_none g n m o e h = subst (TellsRankBelow g n m) e h

tells_more : (g : Grammar) (n m : ℕ) (o : Option ℕ) → TellsRankBelow g n m o → is_some o ≡ true → TellsRankBelow g (n + 1) m o
tells_more g n m None h t = absurd (true≢false (sym t))
tells_more g n m (Some k) h t = let l = h.0 in (omega arith, h.1)

is_none_told : (o : Option ℕ) → is_some o ≡ false → o ≡ None
is_none_told None t = refl
is_none_told (Some k) t = absurd (true≢false t)

-- one module more is tried, and nothing is written
round_kept : (g : Grammar) (n m : ℕ) (ranks : List (Option ℕ)) → IsRound g n m ranks → TellsRankBelow g (n + 1) m (get_or ranks m None) → IsRound g n (m + 1) ranks
round_kept g n m ranks round now = record {
  one_each = round.one_each;
  told = λ k l below. ⊎_elim
      (λ e. subst (λ z. TellsRankBelow g (n + 1) z (get_or ranks z None)) (sym e) now)
      (λ d. let s : k < m = omega (arith, d) in round.told k s below)
      (cases_eq k m);
  left = λ k l below. round.left k (omega arith) below;
}

pub round_old : (g : Grammar) (n m : ℕ) (ranks : List (Option ℕ)) → m < length g.modules → IsRound g n m ranks → is_some (get_or ranks m None) ≡ true → IsRound g n (m + 1) ranks
round_old g n m ranks low round t = round_kept g n m ranks round (tells_more g n m (get_or ranks m None) (round.left m (omega arith) low) t)

pub round_none : (g : Grammar) (n m : ℕ) (ranks : List (Option ℕ)) → IsWellFormed g → 0 < n → m < length g.modules → IsRound g n m ranks → is_some (get_or ranks m None) ≡ false → ((p : ℕ) → ¬ IsLower g ranks n m p) → IsRound g n (m + 1) ranks
round_none g n m ranks w pos low round t no_lower =
    let e = is_none_told (get_or ranks m None) t in
    let none = tells_none g n m (get_or ranks m None) e (round.left m (omega arith) low) in
    let none' = gets_none g n m ranks w pos (round_known g n m ranks round) none no_lower in
    round_kept g n m ranks round (subst (TellsRankBelow g (n + 1) m) (sym e) (λ k l r. ⊎_elim (λ (d : k ≡ n). none' (subst (λ z. RankWithin g z m) d r)) (λ d. let s : k < n = omega (arith, d) in none k s r) (cases_eq k n)))

-- one module more is tried, and gets the rank n
pub round_some : (g : Grammar) (n m : ℕ) (ranks : List (Option ℕ)) → IsWellFormed g → 0 < n → m < length g.modules → IsRound g n m ranks → is_some (get_or ranks m None) ≡ false → (p : ℕ) → IsLower g ranks n m p → IsRound g n (m + 1) (set ranks m (Some n))
round_some g n m ranks w pos low round t p lower =
    let none = tells_none g n m (get_or ranks m None) (is_none_told (get_or ranks m None) t) (round.left m (omega arith) low) in
    let rank = gets_rank g n m ranks w pos (round_known g n m ranks round) none p lower in
    let e = round.one_each in
    let within : m < length ranks = omega arith in
    let new : get_or (set ranks m (Some n)) m None ≡ Some n = get_or-set_same ranks m (Some n) None within in
    record {
      one_each = length-set ranks m (Some n) ∙ round.one_each;
      told = λ k l below. ⊎_elim
          (λ (d : k ≡ m). subst (λ z. TellsRankBelow g (n + 1) z (get_or (set ranks m (Some n)) z None)) (sym d) (subst (TellsRankBelow g (n + 1) m) (sym new) (omega arith, rank)))
          (λ d. let s : k < m = omega (arith, d) in subst (TellsRankBelow g (n + 1) k) (sym (get_or-set_other ranks m k (Some n) None d)) (round.told k s below))
          (cases_eq k m);
      left = λ k l below. (let d : k ≡ m → ⊥ = λ q. absurd (omega arith) in subst (TellsRankBelow g n k) (sym (get_or-set_other ranks m k (Some n) None d)) (round.left k (omega arith) below));
    }

-- an atomic module has the rank 0, and another one does not
pub atomic_told : (g : Grammar) (m : ℕ) (b : Bool) (o : Option ℕ) → IsTrue b ↔ IsComposite g m → o ≡ then_some (not b) 0 → TellsRankBelow g 1 m o
atomic_told g m true o told e = subst (TellsRankBelow g 1 m) (sym e) (λ k h r. (let z : k ≡ 0 = omega arith in let d = told.0 refl in (subst (λ n. RankWithin g n m) z r) d.0 d.1.0 d.1.1))
atomic_told g m false o told e = subst (TellsRankBelow g 1 m) (sym e) (omega arith, (λ p l h. true≢false (sym (told.1 (p, (l, h)))), λ k r. omega arith))

-- where a round gives no rank, all ranks are given
no_higher : (g : Grammar) (j : ℕ) (ranks : List (Option ℕ)) → IsWellFormed g → AreRanksBelow g (suc j) ranks → AreRanksBelow g (suc j + 1) ranks → (k m : ℕ) → m < length g.modules → RankWithin g k m → RankWithin g j m
no_higher g j ranks w below more zero m low r = rank_more g 0 j m (omega arith) r
no_higher g j ranks w below more (suc k) m low (inl a) = rank_more g 0 j m (omega arith) a
no_higher g j ranks w below more (suc k) m low (inr d) =
    within (get_or ranks m None) (below.told m low) (more.told m low)
    (inr (d.0, d.1, λ n i. no_higher g j ranks w below more k n ((w.bodies d.0 d.1.0).modules n i) (d.2 n i)))
  where
    within : (o : Option ℕ) → TellsRankBelow g (suc j) m o → TellsRankBelow g (suc j + 1) m o → RankWithin g (suc j) m → RankWithin g j m
    within None a b r = absurd (b (suc j) (omega arith) r)
    within (Some n) a b r = let l = a.0 in rank_more g n j m (omega arith) a.1.0

pub ranks_done : (g : Grammar) (n : ℕ) (ranks : List (Option ℕ)) → IsWellFormed g → 0 < n → AreRanksBelow g n ranks → AreRanksBelow g (n + 1) ranks → AreRanks g ranks
ranks_done g zero ranks w pos below more = absurd (omega arith)
ranks_done g (suc j) ranks w pos below more = record { one_each = below.one_each; told = λ m low. tells m low (get_or ranks m None) (below.told m low) }
  where
    tells : (m : ℕ) → m < length g.modules → (o : Option ℕ) → TellsRankBelow g (suc j) m o → TellsRank g m o
    tells m low None h = λ k r. h j (omega arith) (no_higher g j ranks w below more k m low r)
    tells m low (Some n) h = h.1

-- a module has a rank where one is told
pub productive_told : (g : Grammar) (ranks : List (Option ℕ)) → IsWellFormed g → AreRanks g ranks → (m : ℕ) → IsComposite g m → (get_or (map is_some ranks) m false ≡ true) ↔ IsProductive g m
productive_told g ranks w h m c =
    let low = composite_below g w m c in
    let len = h.one_each in
    let within : m < length ranks = omega arith in
    subst (λ b. (b ≡ true) ↔ IsProductive g m) (sym (get_or-map is_some ranks m None false within)) (told (get_or ranks m None) (h.told m low))
  where
    told : (o : Option ℕ) → TellsRank g m o → (is_some o ≡ true) ↔ IsProductive g m
    told None t = (λ e. absurd (true≢false (sym e)), λ r. absurd (t r.0 r.1))
    told (Some n) t = (λ e. (n, t.0), λ r. refl)
