-- A shortest route to a module passes no module twice, so it has fewer steps than there are modules.
use Rattle.std.proofs.Common.{◌≡◌, ℕ, suc, ◌+◌, ◌<◌, ◌≤◌, List, [], ◌∷◌, ◌++◌, map, length, take, drop, refl, sym, ap, ◌∙◌, subst, ⊎_elim, arith, length-append}
use Rattle.std.proofs.lemmas.Bool.{cases_lt}
use Rattle.std.proofs.lemmas.List.{length-map, length-take-le, length-drop, take-append-drop, map-id}
use Rattle.wf_model.specs.Lists.{AllDiffer, numbers_from}
use Rattle.wf_model.specs.Grammar.{Grammar}
use Rattle.wf_model.specs.WellFormed.{IsWellFormed}
use Rattle.wf_model.specs.View.{View, IsSeenModule, at_start, in_body}
use Rattle.wf_model.specs.Reach.{Step, target_of, module_along}
use Rattle.wf_model.specs.OpenRoutes.{IsOpenRoute}
use Rattle.wf_model.proofs.Lists.{in_map_from}
use Rattle.wf_model.proofs.Level.{in_numbers}
use Rattle.wf_model.proofs.NumberLists.{length-numbers, differ_few}
use Rattle.wf_model.proofs.OpenRoutes.{open_split, open_append, route_seen}
use Rattle.label_model.proofs.Differing.{numbers_differ, differ_map}
use Rattle.compare_model.specs.Routes.{IsFirstShortestRoute}

-- steps lead on from where the steps before them led
leads_on : (g : Grammar) (m n : ℕ) (a b : List Step) → module_along g m a ≡ n → module_along g m (a ++ b) ≡ module_along g n b
leads_on g m n [] b e = ap (λ z. module_along g z b) e
leads_on g m n (s ∷ a) b e = leads_on g (target_of g s) n a b e

module _ (g : Grammar) (c : View) where
  -- an open route leads to a module of the grammar
  pub leads_in_range : IsWellFormed g → (a : List Step) → IsOpenRoute g c g.start a → module_along g g.start a < length g.modules
  leads_in_range wf a o = go (module_along g g.start a) (route_seen g c g.start a (at_start refl) o)
    where
      go : (m : ℕ) → IsSeenModule g c m → m < length g.modules
      go m (at_start e) = subst (λ z. z < length g.modules) (sym e) wf.start
      go m (in_body p l s ex i) = (wf.bodies p l).modules m i

  module _ (m : ℕ) (a : List Step) (shortest : IsFirstShortestRoute g c m a) where
    -- the module behind so many steps
    abbrev behind : ℕ → ℕ
    behind j = module_along g g.start (take j a)

    split : (j : ℕ) → IsOpenRoute g c g.start (take j a) × IsOpenRoute g c (behind j) (drop j a)
    split j = open_split g c g.start (take j a) (drop j a) (subst (IsOpenRoute g c g.start) (sym (take-append-drop j a)) shortest.leads.0)

    -- what lies between two places of one module can be left out
    shorter : (j k : ℕ) → j < k → k ≤ length a → behind j ≡ behind k → ⊥
    shorter j k less within same =
        let b : List Step = take j a ++ drop k a in
        let o = open_append g c g.start (take j a) (drop k a) (split j).0 (subst (λ z. IsOpenRoute g c z (drop k a)) (sym same) (split k).1) in
        let e : module_along g g.start (take j a ++ drop k a) ≡ m =
        leads_on g g.start (behind k) (take j a) (drop k a) same ∙ (sym (leads_on g g.start (behind k) (take k a) (drop k a) refl) ∙ (ap (module_along g g.start) (take-append-drop k a) ∙ shortest.leads.1)) in
        let l : length a ≤ length (take j a ++ drop k a) = shortest.fewest (take j a ++ drop k a) (o, e) in
        absurd (omega (arith, length-append (take j a) (drop k a), length-take-le j a (omega arith), length-drop k a))

    differ : (j k : ℕ) → j ≤ length a → k ≤ length a → behind j ≡ behind k → j ≡ k
    differ j k hj hk e = ⊎_elim (λ l. absurd (shorter j k l hk e)) (λ n. ⊎_elim (λ l. absurd (shorter k j l hj (sym e))) (λ p. omega arith) (cases_lt k j)) (cases_lt j k)

    pub fewer_steps : IsWellFormed g → length a < length g.modules
    fewer_steps wf =
        let ns = numbers_from 0 (suc (length a)) in
        let d : AllDiffer (map behind (numbers_from 0 (suc (length a)))) = differ_map (λ j. j) behind (numbers_from 0 (suc (length a))) (subst AllDiffer (sym (map-id (numbers_from 0 (suc (length a))))) (numbers_differ 0 (suc (length a))))
        (λ j k p q e. let lj : j < 0 + suc (length a) = in_numbers j 0 (suc (length a)) p in let lk : k < 0 + suc (length a) = in_numbers k 0 (suc (length a)) q in differ j k (omega arith) (omega arith) e) in
        let few = differ_few (length g.modules) (map behind (numbers_from 0 (suc (length a)))) d
        (λ x i. let r = in_map_from behind x (numbers_from 0 (suc (length a))) i in subst (λ z. z < length g.modules) (sym r.2) (leads_in_range wf (take r.0 a) (split r.0).0)) in
        omega (arith, few, length-map (numbers_from 0 (suc (length a))) behind, length-numbers 0 (suc (length a)))
