-- A label in a state is a label of the lifted grammar.
use Rattle.std.proofs.Common.{◌≡◌, ℕ, zero, suc, ◌+◌, ◌*◌, ◌<◌, List, [], ◌∷◌, ◌++◌, map, flat_map, length, sym, ap, ◌∙◌, subst, arith}
use Rattle.std.proofs.Math.Arith.{digits_lt}
use Rattle.std.proofs.Math.Nat.{suc-mul}
use Rattle.wf_model.specs.Lists.{IsAt, numbers_from}
use Rattle.wf_model.specs.Grammar.{Grammar, Production, Edge, production_at}
use Rattle.wf_model.specs.Reach.{Step}
use Rattle.label_model.specs.Labels.{Label, Input, Output, OfEdge, IsLabel}
use Rattle.label_model.specs.Places.{IsEnding}
use Rattle.words_model.specs.Lifting.{in_state, lift_edge, lift, lift_label}
use Rattle.words_model.proofs.SameShape.{production_there}
use Rattle.words_model.proofs.States.{states_of, length-states, length-states_of}
use Rattle.words_model.proofs.LiftedParts.{lifted_production, lifted_inputs, lifted_outputs, lifted_shape}
use Rattle.words_model.proofs.SameContinuing.{along_same, route_there, chain_there, leads_there}

-- what a function makes of the s-th of n numbers, in front of other elements
made_at_place : {A : Type 0} (f : ℕ → A) (c n s : ℕ) (rest : List A) → s < n → IsAt (f (c + s)) s (map f (numbers_from c n) ++ rest)
made_at_place f c zero s rest h = absurd (omega arith)
made_at_place f c (suc n) zero rest h = let e : c + 0 ≡ c = omega arith in ap f e
made_at_place f c (suc n) (suc s) rest h = let e : suc c + s ≡ c + suc s = omega arith in subst (λ z. IsAt (f z) s (map f (numbers_from (suc c) n) ++ rest)) e (made_at_place f (suc c) n s rest (omega arith))

-- what stands at a place of a list, behind other elements
at_right : {A : Type 0} (x : A) (n : ℕ) (xs ys : List A) → IsAt x n ys → IsAt x (length xs + n) (xs ++ ys)
at_right x n [] ys h = let e : n ≡ 0 + n = omega arith in subst (λ z. IsAt x z ys) e h
at_right x n (y ∷ xs) ys h = let e : suc (length xs + n) ≡ suc (length xs) + n = omega arith in subst (λ z. IsAt x z (y ∷ xs ++ ys)) e (at_right x n xs ys h)

-- an element in a state stands at its number in the state
at_states : {A B : Type 0} (f : ℕ → A → B) (k s n : ℕ) (x : A) (xs : List A) → s < k → IsAt x n xs → IsAt (f s x) (in_state k s n) (flat_map (states_of f k) xs)
at_states f k s n x [] hs h = absurd h
at_states f k s zero x (y ∷ xs) hs h =
    let e : s ≡ 0 * k + s = omega arith in
    let z : 0 + s ≡ s = omega arith in
    let here = made_at_place (λ t. f t y) 0 k s (flat_map (states_of f k) xs) hs in
    subst (λ w. IsAt (f s x) w (states_of f k y ++ flat_map (states_of f k) xs)) e
    (subst (λ w. IsAt (f s w) s (states_of f k y ++ flat_map (states_of f k) xs)) (sym h) (subst (λ w. IsAt (f w y) s (states_of f k y ++ flat_map (states_of f k) xs)) z here))
at_states f k s (suc n) x (y ∷ xs) hs h =
    let c = length-states_of f k y in
    let m = suc-mul n k in
    let e : length (states_of f k y) + (n * k + s) ≡ suc n * k + s = omega arith in
    subst (λ w. IsAt (f s x) w (states_of f k y ++ flat_map (states_of f k) xs)) e
    (at_right (f s x) (in_state k s n) (states_of f k y) (flat_map (states_of f k) xs) (at_states f k s n x xs hs h))

module _ (g : Grammar) (k : ℕ) where
  -- an edge of a production, in a state
  pub edge_at : (p s n : ℕ) (x : Edge) → s < k → IsAt x n (production_at g p).edges → IsAt (lift_edge k s x) (in_state k s n) (production_at (lift g k) p).edges
  edge_at p s n x hs h = subst (λ (r : Production). IsAt (lift_edge k s x) (in_state k s n) r.edges) (sym (lifted_production g k p)) (at_states (lift_edge k) k s n x (production_at g p).edges hs h)

  pub edge_below : (p s n : ℕ) → s < k → n < length (production_at g p).edges → in_state k s n < length (production_at (lift g k) p).edges
  edge_below p s n hs h =
      subst (λ (r : Production). in_state k s n < length r.edges) (sym (lifted_production g k p)) (subst (λ z. in_state k s n < z) (sym (length-states (lift_edge k) k (production_at g p).edges)) (digits_lt h hs))

  pub ending_in : (a : List Step) (p s e : ℕ) → s < k → IsEnding g g.start a p e → IsEnding (lift g k) g.start a p (in_state k s e)
  ending_in a p s e hs h = record {
    route = route_there g (lift g k) (lifted_shape g k) g.start a h.route;
    of_it = let q = production_there g (lift g k) (lifted_shape g k) p _ h.of_it in (q.0, q.1 ∙ sym (along_same g (lift g k) (lifted_shape g k) g.start a));
    edge = edge_below p s e hs h.edge;
  }

  pub label_in : (s : ℕ) (l : Label) → s < k → IsLabel g l → IsLabel (lift g k) (lift_label k s l)
  label_in s (Input p) hs h = subst (λ z. in_state k s p < z) (sym (lifted_inputs g k g.start)) (digits_lt h hs)
  label_in s (Output p) hs h = subst (λ z. in_state k s p < z) (sym (lifted_outputs g k g.start)) (digits_lt h hs)
  label_in s (OfEdge p) hs h = record {
    entered = h.entered;
    leads = leads_there g (lift g k) (lifted_shape g k) g.start p.steps h.entered h.leads;
    from = h.from;
    chain = chain_there g (lift g k) (lifted_shape g k) h.entered p.chain h.from h.chain;
    production = h.production;
    of_it = production_there g (lift g k) (lifted_shape g k) h.production h.from h.of_it;
    alternative = (lifted_shape g k).alternative h.production ∙ h.alternative;
    edge = edge_below h.production s p.edge hs h.edge;
  }
