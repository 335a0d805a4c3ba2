-- A chain is so many rounds and a rest.
use Rattle.std.proofs.Common.{◌≡◌, ℕ, zero, suc, ◌+◌, ◌*◌, ◌<◌, List, [], ◌∷◌, ◌++◌, length, take, Some, refl, sym, ap, ◌∙◌, subst, arith, length-append, length-take}
use Rattle.bool_mat.specs.Matrix.{Then, Power}
use Rattle.bool_mat.proofs.Relations.{Same, same_refl, same_sym, same_trans, then_same, power_zero, power_suc, power_one, power_add}
use Rattle.wf_model.specs.Grammar.{Grammar, Assignment}
use Rattle.wf_model.specs.WellFormed.{IsWellFormed}
use Rattle.wf_model.specs.Linear.{IsLinear}
use Rattle.wf_model.specs.Reach.{Step, target_of, module_along}
use Rattle.wf_laws.specs.Splits.{IntoAll, OutAll}
use Rattle.label_model.specs.Continuing.{continuing, next_by, after}
use Rattle.label_model.proofs.ContinuingSteps.{continuing_law}
use Rattle.decode_model.specs.Rounds.{AreContinuing, IsRound, times}
use Rattle.decode_model.specs.WayLaws.{ChainLaw}
use Rattle.decode_model.proofs.Crossing.{into_append, out_append}

times_zero : (round : List Step) → times 0 round ≡ []
times_zero round = refl

times_suc : (n : ℕ) (round : List Step) → times (suc n) round ≡ round ++ times n round
times_suc n round = refl

pub continuing_append : (g : Grammar) (m : ℕ) (a b : List Step) → AreContinuing g m a → AreContinuing g (module_along g m a) b → AreContinuing g m (a ++ b)
continuing_append g m [] b x y = y
continuing_append g m (s ∷ a) b x y = (x.0, continuing_append g (target_of g s) a b x.1 y)

pub continuing_take : (g : Grammar) (m n : ℕ) (a : List Step) → AreContinuing g m a → AreContinuing g m (take n a)
continuing_take g m zero a x = tt
continuing_take g m (suc n) [] x = tt
continuing_take g m (suc n) (s ∷ a) x = (x.0, continuing_take g (target_of g s) n a x.1)

pub module_along-append : (g : Grammar) (m : ℕ) (a b : List Step) → module_along g m (a ++ b) ≡ module_along g (module_along g m a) b
module_along-append g m [] b = refl
module_along-append g m (s ∷ a) b = module_along-append g (target_of g s) a b

-- continuing steps lead where as many of them are computed to lead
pub along_after : (g : Grammar) → IsWellFormed g → IsLinear g → (m : ℕ) (a : List Step) → AreContinuing g m a → module_along g m a ≡ after g (length a) m
along_after g wf lin m [] x = refl
along_after g wf lin m (s ∷ a) x =
    let e : continuing g m ≡ Some s = (continuing_law g wf lin m s).1 x.0 in
    along_after g wf lin (target_of g s) a x.1 ∙ ap (λ o. after g (length a) (next_by g m o)) (sym e)

-- a chain from a module is told by its length
pub continuing_same : (g : Grammar) → IsLinear g → (m : ℕ) (a b : List Step) → AreContinuing g m a → AreContinuing g m b → length a ≡ length b → a ≡ b
continuing_same g lin m [] [] x y e = refl
continuing_same g lin m [] (t ∷ b) x y e = absurd (omega arith)
continuing_same g lin m (s ∷ a) [] x y e = absurd (omega arith)
continuing_same g lin m (s ∷ a) (t ∷ b) x y e =
    let st : s ≡ t = lin m s t x.0 y.0 in
    let e' : length a ≡ length b = omega arith in
    let x' : AreContinuing g (target_of g t) a = subst (λ z. AreContinuing g (target_of g z) a) st x.1 in
    ap (λ z. z ∷ a) st ∙ ap (λ zs. t ∷ zs) (continuing_same g lin (target_of g t) a b x' y.1 e')

pub times_continuing : (g : Grammar) (m : ℕ) (round : List Step) → IsRound g m round → (n : ℕ) → AreContinuing g m (times n round) × (module_along g m (times n round) ≡ m)
times_continuing g m round r zero = subst (λ z. AreContinuing g m z × (module_along g m z ≡ m)) (sym (times_zero round)) (tt, refl)
times_continuing g m round r (suc n) =
    let c = times_continuing g m round r n in
    subst (λ z. AreContinuing g m z × (module_along g m z ≡ m)) (sym (times_suc n round)) (
      continuing_append g m round (times n round) r.continuing (subst (λ z. AreContinuing g z (times n round)) (sym r.back) c.0),
      module_along-append g m round (times n round) ∙ (ap (λ z. module_along g z (times n round)) r.back ∙ c.1),
    )

pub length-times : (n : ℕ) (round : List Step) → length (times n round) ≡ n * length round
length-times zero round = ap length (times_zero round) ∙ (let e : 0 ≡ zero * length round = omega arith in e)
length-times (suc n) round =
    let e = length-times n round in
    let f = length-append round (times n round) in
    ap length (times_suc n round) ∙ (f ∙ (ap (λ z. length round + z) e ∙ more n (length round)))
  where
    more : (n l : ℕ) → l + n * l ≡ suc n * l
    more n l = grind arith

pub into_times : (g : Grammar) (d : Assignment) (round : List Step) (n : ℕ) → Same (IntoAll g d (times n round)) (Power (IntoAll g d round) n)
into_times g d round zero = same_trans (subst (λ z. Same (IntoAll g d z) (λ i j. i ≡ j)) (sym (times_zero round)) (same_refl (λ i j. i ≡ j))) (same_sym (power_zero (IntoAll g d round)))
into_times g d round (suc n) =
    same_trans (subst (λ z. Same (IntoAll g d z) (Then (IntoAll g d round) (IntoAll g d (times n round)))) (sym (times_suc n round)) (into_append g d round (times n round)))
    (same_trans (then_same (same_refl (IntoAll g d round)) (into_times g d round n)) (same_sym (power_suc (IntoAll g d round) n)))

pub out_times : (g : Grammar) (d : Assignment) (round : List Step) (n : ℕ) → Same (OutAll g d (times n round)) (Power (OutAll g d round) n)
out_times g d round zero = same_trans (subst (λ z. Same (OutAll g d z) (λ i j. i ≡ j)) (sym (times_zero round)) (same_refl (λ i j. i ≡ j))) (same_sym (power_zero (OutAll g d round)))
out_times g d round (suc n) =
    let one : n + 1 ≡ suc n = omega arith in
    same_trans (subst (λ z. Same (OutAll g d z) (Then (OutAll g d (times n round)) (OutAll g d round))) (sym (times_suc n round)) (out_append g d round (times n round)))
    (same_trans (then_same (out_times g d round n) (same_sym (power_one (OutAll g d round))))
    (same_trans (same_sym (power_add (OutAll g d round) n 1)) (subst (λ z. Same (Power (OutAll g d round) z) (Power (OutAll g d round) (suc n))) (sym one) (same_refl (Power (OutAll g d round) (suc n))))))

-- the steps are so many rounds and a rest
pub chain_is : (g : Grammar) → IsLinear g → (m : ℕ) (round steps : List Step) → IsRound g m round → AreContinuing g m steps → (q r : ℕ) → r < length round → length steps ≡ q * length round + r → steps ≡ times q round ++ take r round
chain_is g lin m round steps x y q r h e =
    let c = times_continuing g m round x q in
    let rest : AreContinuing g m (take r round) = continuing_take g m r round x.continuing in
    let whole : AreContinuing g m (times q round ++ take r round) = continuing_append g m (times q round) (take r round) c.0 (subst (λ z. AreContinuing g z (take r round)) (sym c.1) rest) in
    let l = length-append (times q round) (take r round) in
    let lc = length-times q round in
    let lt = length-take r round in
    continuing_same g lin m steps (times q round ++ take r round) y whole (omega arith)

pub chain_law : ChainLaw
chain_law g d lin m round steps x y q r h e =
    let s = chain_is g lin m round steps x y q r h e in
    record {
      down =
          subst (λ z. Same (IntoAll g d z) (Then (Power (IntoAll g d round) q) (IntoAll g d (take r round)))) (sym s)
          (same_trans (into_append g d (times q round) (take r round)) (then_same (into_times g d round q) (same_refl (IntoAll g d (take r round)))));
      up =
          subst (λ z. Same (OutAll g d z) (Then (OutAll g d (take r round)) (Power (OutAll g d round) q))) (sym s)
          (same_trans (out_append g d (times q round) (take r round)) (then_same (same_refl (OutAll g d (take r round))) (out_times g d round q)));
    }
