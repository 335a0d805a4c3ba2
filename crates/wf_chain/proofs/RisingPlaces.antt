-- Numbers that rise in a list rise by their places.
use Rattle.std.proofs.Common.{ℕ, zero, suc, ◌<◌, Bool, true, false, cond, List, [], ◌∷◌, sym, subst, ⊎_elim, arith}
use Rattle.std.specs.List.{filter}
use Rattle.wf_model.specs.Lists.{IsIn, IsAt}
use Rattle.wf_model.proofs.Lists.{at_in, in_filter_from}
use Rattle.wf_model.proofs.Rising.{IsRising, rising_head, rising_tail}
use Rattle.wf_graph.specs.Routes.{place_of}
use Rattle.wf_graph.proofs.Routes.{place_cases}

-- an element stands at its place
place_at : (x : ℕ) (xs : List ℕ) → IsIn x xs → IsAt x (place_of x xs) xs
place_at x [] h = absurd h
place_at x (y ∷ ys) h = ⊎_elim
    (λ f. subst (λ n. IsAt x n (y ∷ ys)) (sym f.1) f.0)
    (λ n. ⊎_elim (λ e. absurd (n.0 e)) (λ i. subst (λ k. IsAt x k (y ∷ ys)) (sym n.1) (place_at x ys i)) h)
    (place_cases x y ys)

pub rises_by_place : (xs : List ℕ) → IsRising xs → (w x : ℕ) → IsIn w xs → IsIn x xs → place_of w xs < place_of x xs → w < x
rises_by_place xs r w x i j l = r (place_of w xs) (place_of x xs) w x l (place_at w xs i) (place_at x xs j)

-- those that pass a test rise too
pub filter_rises : (t : ℕ → Bool) (xs : List ℕ) → IsRising xs → IsRising (filter t xs)
filter_rises t [] r = r
filter_rises t (x ∷ xs) r = go (filter_rises t xs (rising_tail x xs r)) (t x)
  where
    -- the first is below those that pass
    before : IsRising (filter t xs) → IsRising (x ∷ filter t xs)
    before s zero zero a b h p q = absurd (omega arith)
    before s (suc j) zero a b h p q = absurd (omega arith)
    before s zero (suc k) a b h p q = let l = rising_head x xs r b (in_filter_from t b xs (at_in b k (filter t xs) q)).0 in omega (arith, p)
    before s (suc j) (suc k) a b h p q = s j k a b (omega arith) p q

    go : IsRising (filter t xs) → (b : Bool) → IsRising (cond b (x ∷ filter t xs) (filter t xs))
    go s true = before s
    go s false = s
