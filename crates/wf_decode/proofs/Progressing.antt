-- Row products, list after list of matrices.
use Rattle.std.proofs.Common.{◌≡◌, ℕ, suc, ◌+◌, ◌-◌, ◌<◌, ◌≤◌, true, false, cond, List, [], ◌∷◌, ◌++◌, map, length, get_or, take, drop, refl, sym, ap, ◌∙◌, subst, arith, length-append, append-nil}
use Rattle.std.proofs.lemmas.List.{map_more, drop_more, append_assoc}
use Rattle.bool_mat.specs.Matrix.{Matrix, IsUnion, has}
use Rattle.wf_model.specs.Reach.{Step}
use Rattle.decode_model.specs.Rows.{Through, Progress}
use Rattle.decode_model.specs.Matrices.{ViewMatrices}
use Rattle.decode_model.specs.Legs.{Leg, squares, each_up, leg_down, leg_up, way_down, way_up}
use Rattle.decode_model.proofs.RowProducts.{progress_law}

pub through_append : (a b : List Matrix) (row next last : ℕ) → Through a row next → Through b next last → Through (a ++ b) row last
through_append [] b row next last x y = subst (λ z. Through b z last) (sym x) y
through_append (m ∷ a) b row next last x y = (x.0, x.1, through_append a b x.0 next last x.2 y)

-- a row goes through one list and then through another
pub progress_append : (a b : List Matrix) (first next last start then now : ℕ) → Progress a first next start then → Progress b next last then now → Progress (a ++ b) first last start now
progress_append a b first next last start then now x y =
    let c = x.counted in
    let d = y.counted in
    let l = length-append a b in
    record { through = through_append a b first next last x.through y.through; counted = omega arith }

-- one row product
pub progress_one : (m : Matrix) (row next start now : ℕ) → IsUnion row m next → now ≡ start + 1 → Progress (m ∷ []) row next start now
progress_one m row next start now u e = record { through = (next, u, refl); counted = e }

-- a digit that is 1 adds its square
pub square_one : (square : ℕ → Matrix) (q k first row start now next later : ℕ) → Progress (squares square q k) first row start now → has q k ≡ true → IsUnion row (square k) next → later ≡ now + 1 → Progress (squares square q (k + 1)) first next start later
square_one square q k first row start now next later p h u e =
    let one : suc k ≡ k + 1 = omega arith in
    let f : squares square q (suc k) ≡ squares square q k ++ square k ∷ [] = ap (λ b. squares square q k ++ cond b (square k ∷ []) []) h in
    subst (λ z. Progress (squares square q z) first next start later) one
    (subst (λ z. Progress z first next start later) (sym f) (progress_law.more (squares square q k) first row start now (square k) next later p u e))

-- a digit that is 0 adds none
pub square_none : (square : ℕ → Matrix) (q k first row start now : ℕ) → Progress (squares square q k) first row start now → has q k ≡ false → Progress (squares square q (k + 1)) first row start now
square_none square q k first row start now p h =
    let one : suc k ≡ k + 1 = omega arith in
    let f : squares square q (suc k) ≡ squares square q k ++ [] = ap (λ b. squares square q k ++ cond b (square k ∷ []) []) h in
    subst (λ z. Progress (squares square q z) first row start now) one (subst (λ z. Progress z first row start now) (sym (f ∙ append-nil (squares square q k))) p)

-- going down, one step more
pub down_more : (into : Step → Matrix) (steps : List Step) (i : ℕ) (d : Step) (first row start now next later : ℕ) → i < length steps →
    Progress (map into (take i steps)) first row start now → IsUnion row (into (get_or steps i d)) next → later ≡ now + 1 → Progress (map into (take (i + 1) steps)) first next start later
down_more into steps i d first row start now next later l p u e =
    subst (λ z. Progress z first next start later) (sym (map_more into steps i d l)) (progress_law.more (map into (take i steps)) first row start now (into (get_or steps i d)) next later p u e)

-- going up, one step more; the steps come from the last to the first
pub up_more : (v : ViewMatrices) (steps : List Step) (i : ℕ) (d : Step) (first row start now next later : ℕ) → 0 < i → i ≤ length steps →
    Progress (each_up v (drop i steps)) first row start now → IsUnion row (v.out_of (get_or steps (i - 1) d)) next → later ≡ now + 1 → Progress (each_up v (drop (i - 1) steps)) first next start later
up_more v steps i d first row start now next later some l p u e =
    let one : i - 1 + 1 ≡ i = omega arith in
    let f : drop (i - 1) steps ≡ get_or steps (i - 1) d ∷ drop i steps = drop_more steps (i - 1) d (omega arith) ∙ ap (λ k. get_or steps (i - 1) d ∷ drop k steps) one in
    subst (λ z. Progress (each_up v z) first next start later) (sym f) (progress_law.more (each_up v (drop i steps)) first row start now (v.out_of (get_or steps (i - 1) d)) next later p u e)

way_down-append : (v : ViewMatrices) (a : List Leg) (leg : Leg) → way_down v (a ++ leg ∷ []) ≡ way_down v a ++ leg_down v leg
way_down-append v [] leg = append-nil (leg_down v leg)
way_down-append v (x ∷ a) leg = ap (λ z. leg_down v x ++ z) (way_down-append v a leg) ∙ sym (append_assoc (leg_down v x) (way_down v a) (leg_down v leg))

-- going down, one leg more
pub way_down_more : {A : Type 0} (v : ViewMatrices) (f : A → Leg) (xs : List A) (i : ℕ) (d : A) (first row start now next later : ℕ) → i < length xs →
    Progress (way_down v (map f (take i xs))) first row start now → Progress (leg_down v (f (get_or xs i d))) row next now later → Progress (way_down v (map f (take (i + 1) xs))) first next start later
way_down_more v f xs i d first row start now next later l p q =
    let e = ap (way_down v) (map_more f xs i d l) ∙ way_down-append v (map f (take i xs)) (f (get_or xs i d)) in
    subst (λ z. Progress z first next start later) (sym e) (progress_append (way_down v (map f (take i xs))) (leg_down v (f (get_or xs i d))) first row next start now later p q)

-- going up, one leg more; the legs come from the last to the first
pub way_up_more : {A : Type 0} (v : ViewMatrices) (f : A → Leg) (xs : List A) (i : ℕ) (d : A) (first row start now next later : ℕ) → 0 < i → i ≤ length xs →
    Progress (way_up v (map f (drop i xs))) first row start now → Progress (leg_up v (f (get_or xs (i - 1) d))) row next now later → Progress (way_up v (map f (drop (i - 1) xs))) first next start later
way_up_more v f xs i d first row start now next later some l p q =
    let one : i - 1 + 1 ≡ i = omega arith in
    let e : drop (i - 1) xs ≡ get_or xs (i - 1) d ∷ drop i xs = drop_more xs (i - 1) d (omega arith) ∙ ap (λ k. get_or xs (i - 1) d ∷ drop k xs) one in
    subst (λ z. Progress (way_up v (map f z)) first next start later) (sym e) (progress_append (way_up v (map f (drop i xs))) (leg_up v (f (get_or xs (i - 1) d))) first row next start now later p q)
