-- Grammars of one shape have the same continuing steps, and the same places of addresses.
use Rattle.std.proofs.Common.{◌≡◌, ℕ, zero, suc, ◌+◌, ◌<◌, cond, ◌||◌, List, [], ◌∷◌, ◌++◌, map, flat_map, length, Option, Some, None, refl, sym, ap, ◌∙◌, subst}
use Rattle.std.specs.Prelude.{◌==◌}
use Rattle.std.specs.List.{find}
use Rattle.wf_model.specs.Lists.{some, numbers_from}
use Rattle.wf_model.specs.Grammar.{Grammar}
use Rattle.wf_model.specs.Reach.{Step, target_of, module_along}
use Rattle.wf_model.specs.Routes.{IsRoute}
use Rattle.label_model.specs.Continuing.{makes, derives_within, derives, steps_of, continuing, is_step, next_by, after}
use Rattle.label_model.specs.Labels.{PlaceStep, IsChain, Leaves, Leads}
use Rattle.label_model.specs.Places.{chain_by, count_after, told, steps_from, chain_from, place_of}
use Rattle.words_model.proofs.SameShape.{AreSameShape, target_there, step_there}

module _ (g h : Grammar) (s : AreSameShape g h) where
  makes_same : (m : ℕ) → makes h m ≡ makes g m
  makes_same m = λ t. flat_map (λ p. cond (s.head p t == m) (s.body p t) []) (numbers_from 0 (s.count t))

  within_same : (n a b : ℕ) → derives_within h n a b ≡ derives_within g n a b
  unfolding derives_within
  within_same zero a b = refl
  within_same (suc n) a b = λ t. (a == b) || some (λ k. within_same n k b t) (makes_same a t)

  derives_same : (a b : ℕ) → derives h a b ≡ derives g a b
  unfolding derives
  derives_same a b = within_same (length h.modules) a b ∙ ap (λ n. derives_within g n a b) s.modules

  leads_back_same : (m : ℕ) (x : Step) → derives h (target_of h x) m ≡ derives g (target_of g x) m
  leads_back_same m x = derives_same (target_of h x) m ∙ ap (λ z. derives g z m) (target_there g h s x)

  steps_same : (m : ℕ) → steps_of h m ≡ steps_of g m
  steps_same m = λ t. flat_map (λ p. cond (s.head p t == m) (map (λ k. record { production = p; position = k }) (numbers_from 0 (length (s.body p t)))) []) (numbers_from 0 (s.count t))

  pub continuing_same : (m : ℕ) → continuing h m ≡ continuing g m
  unfolding continuing
  continuing_same m = λ t. find (λ x. leads_back_same m x t) (steps_same m t)

  next_same : (m : ℕ) (o : Option Step) → next_by h m o ≡ next_by g m o
  next_same m None = refl
  next_same m (Some x) = target_there g h s x

  after_same : (n m : ℕ) → after h n m ≡ after g n m
  after_same zero m = refl
  after_same (suc n) m = after_same n (next_by h m (continuing h m)) ∙ ap (after g n) (next_same m (continuing h m) ∙ ap (next_by g m) (continuing_same m))

  -- what is told of an address
  told_same : (m c : ℕ) (x : Step) → told h m c x ≡ told g m c x
  told_same m c x = λ t. cond (is_step (continuing_same m t) x) [] (record { chain = chain_by (continuing_same m t) c; alternative = s.alternative x.production t; position = x.position } ∷ [])

  count_same : (m c : ℕ) (x : Step) → count_after h m c x ≡ count_after g m c x
  count_same m c x = λ t. cond (is_step (continuing_same m t) x) (c + 1) 0

  steps_from_same : (m c : ℕ) (a : List Step) → steps_from h m c a ≡ steps_from g m c a
  steps_from_same m c [] = refl
  steps_from_same m c (x ∷ a) =
      let rest : steps_from h (target_of h x) (count_after h m c x) a ≡ steps_from g (target_of g x) (count_after g m c x) a =
      steps_from_same (target_of h x) (count_after h m c x) a ∙ (λ t. steps_from g (target_there g h s x t) (count_same m c x t) a) in
      λ t. told_same m c x t ++ rest t

  chain_from_same : (m c : ℕ) (a : List Step) → chain_from h m c a ≡ chain_from g m c a
  chain_from_same m c [] = ap (λ o. chain_by o c) (continuing_same m)
  chain_from_same m c (x ∷ a) = chain_from_same (target_of h x) (count_after h m c x) a ∙ (λ t. chain_from g (target_there g h s x t) (count_same m c x t) a)

  pub place_same : (m : ℕ) (a : List Step) (p e : ℕ) → place_of h m a p e ≡ place_of g m a p e
  place_same m a p e = λ t. record { steps = steps_from_same m 0 a t; chain = chain_from_same m 0 a t; alternative = s.alternative p t; edge = e }

  -- and what leads from module to module
  pub along_same : (m : ℕ) (a : List Step) → module_along h m a ≡ module_along g m a
  along_same m [] = refl
  along_same m (x ∷ a) = ap (λ z. module_along h z a) (target_there g h s x) ∙ along_same (target_of g x) a

  pub route_there : (m : ℕ) (a : List Step) → IsRoute g m a → IsRoute h m a
  route_there m [] r = tt
  route_there m (x ∷ a) r = (
    subst (λ z. x.production < z) (sym s.count) r.0,
    s.head x.production ∙ r.1,
    subst (λ ms. x.position < length ms) (sym (s.body x.production)) r.2,
    subst (λ z. IsRoute h z a) (sym (target_there g h s x)) (route_there (target_of g x) a r.3),
  )

  pub chain_there : (m : ℕ) (c : Option ℕ) (k : ℕ) → IsChain g m c k → IsChain h m c k
  chain_there m None k q = (continuing_same m ∙ q.0, q.1)
  chain_there m (Some c) k q = ((λ e. q.0 (sym (continuing_same m) ∙ e)), q.1, after_same c m ∙ q.2)

  leaves_there : (m : ℕ) (x : PlaceStep) (t : Step) → Leaves g m x t → Leaves h m x t
  leaves_there m x t l = record {
    from = l.from;
    chain = chain_there m x.chain l.from l.chain;
    step = step_there g h s l.from t l.step;
    alternative = s.alternative t.production ∙ l.alternative;
    position = l.position;
    leaves = λ e. l.leaves (sym (continuing_same l.from) ∙ e);
  }

  pub leads_there : (m : ℕ) (xs : List PlaceStep) (k : ℕ) → Leads g m xs k → Leads h m xs k
  leads_there m [] k q = q
  leads_there m (x ∷ xs) k q = (q.0, leaves_there m x q.0 q.1, subst (λ z. Leads h z xs k) (sym (target_there g h s q.0)) (leads_there (target_of g q.0) xs k q.2))
