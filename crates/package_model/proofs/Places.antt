-- The place of a number in a list, and lists of seen modules and of their productions.
use Rattle.std.proofs.Common.{◌≡◌, ℕ, suc, ◌+◌, ◌<◌, ◌==◌, Bool, true, false, cond, not, List, [], ◌∷◌, length, get_or, refl, sym, ap, ◌∙◌, subst, ⊎_elim, arith, true≢false}
use Rattle.std.proofs.lemmas.Bool.{eqb-true, eq-eqb}
use Rattle.wf_model.specs.Lists.{IsIn, IsAt, AllDiffer}
use Rattle.wf_model.proofs.Lists.{at_in, is_at, differ_at}
use Rattle.wf_model.proofs.Rising.{same_rising}
use Rattle.package_model.specs.Shown.{place_in}
use Rattle.package_model.specs.Laws.{SeenListsLaw}

-- a number that is in a list stands at its place
pub record IsPlaced (ks : List ℕ) (m : ℕ) : Type 0 where
  pub below : place_in ks m < length ks
  pub is : get_or ks (place_in ks m) 0 ≡ m

pub placed : (ks : List ℕ) (m : ℕ) → IsIn m ks → IsPlaced ks m
placed [] m h = absurd h
placed (k ∷ ks) m h = go (placed ks m) (k == m) refl
  where
    at : (b : Bool) → (k == m) ≡ b → place_in (k ∷ ks) m ≡ cond (not b) (1 + place_in ks m) 0
    at b e = ap (λ c. cond (not c) (1 + place_in ks m) 0) e

    go : (IsIn m ks → IsPlaced ks m) → (b : Bool) → (k == m) ≡ b → IsPlaced (k ∷ ks) m
    go ih true e = record { below = omega (arith, at true e); is = ap (λ j. get_or (k ∷ ks) j 0) (at true e) ∙ eqb-true k m e }
    go ih false e =
        let r = ih (⊎_elim (λ q. absurd (true≢false (sym (eq-eqb k m (sym q)) ∙ e))) (λ q. q) h) in
        let z : place_in (k ∷ ks) m ≡ suc (place_in ks m) = at false e ∙ omega arith in
        record { below = omega (arith, z, r.below); is = ap (λ j. get_or (k ∷ ks) j 0) z ∙ r.is }

pub placed_at : (ks : List ℕ) (m : ℕ) → IsIn m ks → IsAt m (place_in ks m) ks
placed_at ks m h = let p = placed ks m h in subst (λ z. IsAt z (place_in ks m) ks) p.is (is_at (place_in ks m) ks 0 p.below)

-- what stands at a place of a list of different numbers has this place
pub place_again : (ks : List ℕ) (j : ℕ) → AllDiffer ks → j < length ks → place_in ks (get_or ks j 0) ≡ j
place_again ks j d h =
    let a = is_at j ks 0 h in
    differ_at (get_or ks j 0) (place_in ks (get_or ks j 0)) j ks d (placed_at ks (get_or ks j 0) (at_in (get_or ks j 0) j ks a)) a

pub seen_lists_law : SeenListsLaw
seen_lists_law g u ms ps ns qs s t = (
  same_rising ms ns s.modules_in_order t.modules_in_order (λ m. ((λ h. (t.modules m).1 ((s.modules m).0 h)), (λ h. (s.modules m).1 ((t.modules m).0 h)))),
  same_rising ps qs s.productions_in_order t.productions_in_order (λ p. ((λ h. (t.productions p).1 ((s.productions p).0 h)), (λ h. (s.productions p).1 ((t.productions p).0 h)))),
)
