-- Each place is that of an address, and place and address tell each other.
use Rattle.std.proofs.Common.{◌≡◌, ℕ, zero, suc, ◌+◌, cond, List, [], ◌∷◌, ◌++◌, Option, Some, None, refl, sym, ap, ◌∙◌, subst, inl, inr, ⊎_elim, arith, add-zero}
use Rattle.wf_model.specs.Grammar.{Grammar, alternative_of}
use Rattle.wf_model.specs.WellFormed.{IsWellFormed}
use Rattle.wf_model.specs.Reach.{Step, target_of, module_along}
use Rattle.wf_model.specs.Routes.{IsRoute}
use Rattle.label_model.specs.Continuing.{continuing, next_by, after}
use Rattle.label_model.specs.Labels.{PlaceStep, Place, IsChain, Leaves, Leads}
use Rattle.label_model.specs.Places.{chain_at, steps_from, chain_from}
use Rattle.label_model.specs.PlaceLaws.{PlaceLaw}
use Rattle.label_model.proofs.Finding.{cases_option}
use Rattle.label_model.proofs.ContinuingSteps.{continuing_is, target_continues, continues_from}
use Rattle.label_model.proofs.Alternatives.{same_alternative}
use Rattle.label_model.proofs.StepsTold.{chain_some, chain_none}
use Rattle.label_model.proofs.ValidPlaces.{valid_from}
use Rattle.label_model.proofs.OneRoute.{step_told, IsSplit, split, one_route}

-- an address along a chain, after i continuing steps
record IsPart (g : Grammar) (m i : ℕ) (chain : Option ℕ) (k : ℕ) : Type 0 where
  part : List Step
  count : ℕ
  route : (a : List Step) → IsRoute g k a → IsRoute g m (part ++ a)
  along : (a : List Step) → module_along g m (part ++ a) ≡ module_along g k a
  steps : (a : List Step) → steps_from g m i (part ++ a) ≡ steps_from g k count a
  ends : (a : List Step) → chain_from g m i (part ++ a) ≡ chain_from g k count a
  chain_is : chain_at g k count ≡ chain

passed_part : (g : Grammar) → IsWellFormed g → (c m i : ℕ) (s : Step) → continuing g m ≡ Some s → IsPart g m i (Some (i + c)) (after g c m)
passed_part g wf zero m i s e = record {
  part = [];
  count = i;
  route = λ a h. h;
  along = λ a. refl;
  steps = λ a. refl;
  ends = λ a. refl;
  chain_is = chain_some g m i s e ∙ ap Some (sym (add-zero i));
}
passed_part g wf (suc c) m i s e =
    let w = target_continues g wf m s e in
    let r = passed_part g wf c (target_of g s) (i + 1) w.0 w.1 in
    let st = (continuing_is g m s e).0 in
    let t = continues_from g m s e in
    let k : after g c (target_of g s) ≡ after g (suc c) m = ap (λ o. after g c (next_by g m o)) (sym e) in
    let n : (i + 1) + c ≡ i + suc c = omega arith in
    let done : IsPart g m i (Some ((i + 1) + c)) (after g c (target_of g s)) = record {
      part = s ∷ r.part;
      count = r.count;
      route = λ a h. (st.in_range, st.head, st.position, r.route a h);
      along = λ a. r.along a;
      steps = λ a. ap (λ z. cond z [] (record { chain = chain_at g m i; alternative = alternative_of g s.production; position = s.position } ∷ []) ++ steps_from g (target_of g s) (cond z (i + 1) 0) (r.part ++ a)) t ∙ r.steps a;
      ends = λ a. ap (λ z. chain_from g (target_of g s) (cond z (i + 1) 0) (r.part ++ a)) t ∙ r.ends a;
      chain_is = r.chain_is;
    } in
    subst (λ z. IsPart g m i (Some z) (after g (suc c) m)) n (subst (λ z. IsPart g m i (Some ((i + 1) + c)) z) k done)

chain_part : (g : Grammar) → IsWellFormed g → (m : ℕ) (c : Option ℕ) (k : ℕ) → IsChain g m c k → IsPart g m 0 c k
chain_part g wf m None k h = subst (λ z. IsPart g m 0 None z) h.1 (record {
  part = [];
  count = 0;
  route = λ a h. h;
  along = λ a. refl;
  steps = λ a. refl;
  ends = λ a. refl;
  chain_is = chain_none g m 0 h.0;
})
chain_part g wf m (Some c) k h = ⊎_elim (λ e. absurd (h.0 e))
    (λ q. let r = passed_part g wf c m 0 q.0 q.1 in let n : 0 + c ≡ c = omega arith in subst (λ z. IsPart g m 0 (Some c) z) h.2 (subst (λ z. IsPart g m 0 (Some z) (after g c m)) n r))
    (cases_option (continuing g m))

-- the address of a place
record IsAddressed (g : Grammar) (m : ℕ) (steps : List PlaceStep) (chain : Option ℕ) (k : ℕ) : Type 0 where
  address : List Step
  route : IsRoute g m address
  along : module_along g m address ≡ k
  told_as : steps_from g m 0 address ≡ steps
  ends_as : chain_from g m 0 address ≡ chain

addressed : (g : Grammar) → IsWellFormed g → (ss : List PlaceStep) (m k : ℕ) (c : Option ℕ) (j : ℕ) → Leads g m ss k → IsChain g k c j → IsAddressed g m ss c j
addressed g wf [] m k c j h hc =
    let p = chain_part g wf m c j (subst (λ z. IsChain g z c j) (sym h) hc) in
    record { address = p.part ++ []; route = p.route [] tt; along = p.along []; told_as = p.steps []; ends_as = p.ends [] ∙ p.chain_is }
addressed g wf (s ∷ ss) m k c j h hc =
    let l = h.1 in
    let t = h.0 in
    let p = chain_part g wf m s.chain l.from l.chain in
    let r = addressed g wf ss (target_of g t) k c j h.2 hc in
    let rest = t ∷ r.address in
    leave l p r (split g l.from p.count t r.address)
  where
    leave : (l : Leaves g m s h.0) (p : IsPart g m 0 s.chain l.from) (r : IsAddressed g (target_of g h.0) ss c j) →
        IsSplit g l.from p.count h.0 r.address (steps_from g l.from p.count (h.0 ∷ r.address)) (chain_from g l.from p.count (h.0 ∷ r.address)) →
        IsAddressed g m (s ∷ ss) c j
    leave l p r (inl q) = absurd (l.leaves q.0)
    leave l p r (inr q) =
        let same : step_told g l.from p.count h.0 ≡ s = λ i. record { chain = p.chain_is i; alternative = l.alternative i; position = l.position i } in
        record {
          address = p.part ++ h.0 ∷ r.address;
          route = p.route (h.0 ∷ r.address) (l.step.in_range, l.step.head, l.step.position, r.route);
          along = p.along (h.0 ∷ r.address) ∙ r.along;
          told_as = p.steps (h.0 ∷ r.address) ∙ (sym q.1 ∙ (ap (λ z. z ∷ steps_from g (target_of g h.0) 0 r.address) same ∙ ap (λ z. s ∷ z) r.told_as));
          ends_as = p.ends (h.0 ∷ r.address) ∙ (sym q.2 ∙ r.ends_as);
        }

pub place_law : PlaceLaw
place_law g wf m = record {
  valid = λ a p e h small. valid_from g wf a m 0 m p e (record { is = refl; began = λ z. absurd (omega arith); goes_on = λ z. absurd (omega arith) }) h (omega arith);
  one = λ a b p q e f h k eq.
      let r = one_route g a b m 0 h.route k.route (ap (λ (z : Place). z.steps) eq) (ap (λ (z : Place). z.chain) eq) in
      let along : module_along g m a ≡ module_along g m b = ap (module_along g m) r in
      (r, same_alternative g p q h.of_it.0 k.of_it.0 (h.of_it.1 ∙ (along ∙ sym k.of_it.1)) (ap (λ (z : Place). z.alternative) eq), ap (λ (z : Place). z.edge) eq);
  each = λ x h.
      let r = addressed g wf x.steps m h.entered x.chain h.from h.leads h.chain in (
        r.address,
        h.production,
        x.edge,
        record { route = r.route; of_it = (h.of_it.0, h.of_it.1 ∙ sym r.along); edge = h.edge },
        λ i. record { steps = r.told_as i; chain = r.ends_as i; alternative = h.alternative i; edge = x.edge },
      );
}
