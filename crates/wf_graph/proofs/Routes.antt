-- Routes with their ends and their choices.
use Rattle.std.proofs.Common.{◌≡◌, ℕ, suc, ◌<◌, ◌⊎◌, cond, List, [], ◌∷◌, ◌++◌, length, refl, sym, ap, ap₂, ◌∙◌, subst, inl, inr, ⊎_elim, arith, eqb}
use Rattle.std.proofs.lemmas.Bool.{cases_Bool, eqb-true, eqb-false}
use Rattle.wf_model.specs.Lists.{IsIn}
use Rattle.wf_graph.specs.Routes.{IsRoute, place_of, choices_of, IsFirstOf, IsFirstShortest}

-- where a route ends
abbrev pub end_of : ℕ → List ℕ → ℕ
end_of a [] = a
end_of a (w ∷ ws) = end_of w ws

pub end_more : (a : ℕ) (us : List ℕ) (w : ℕ) → end_of a (us ++ w ∷ []) ≡ w
end_more a [] w = refl
end_more a (u ∷ us) w = end_more u us w

module _ (row : ℕ → List ℕ) where
  pub route_more : (a b : ℕ) (us : List ℕ) (w : ℕ) → IsRoute row a us b → IsIn w (row b) → IsRoute row a (us ++ w ∷ []) w
  route_more a b [] w e i = (subst (λ v. IsIn w (row v)) (sym e) i, refl)
  route_more a b (u ∷ us) w r i = (r.0, route_more u b us w r.1 i)

  pub choices_more : (a : ℕ) (us : List ℕ) (w : ℕ) → choices_of row a (us ++ w ∷ []) ≡ choices_of row a us ++ place_of w (row (end_of a us)) ∷ []
  choices_more a [] w = refl
  choices_more a (u ∷ us) w = ap (λ l. place_of u (row a) ∷ l) (choices_more u us w)

  pub choices-append : (a : ℕ) (us ws : List ℕ) → choices_of row a (us ++ ws) ≡ choices_of row a us ++ choices_of row (end_of a us) ws
  choices-append a [] ws = refl
  choices-append a (u ∷ us) ws = ap (λ l. place_of u (row a) ∷ l) (choices-append u us ws)

  pub choices-length : (a : ℕ) (us : List ℕ) → length (choices_of row a us) ≡ length us
  choices-length a [] = refl
  choices-length a (u ∷ us) = ap suc (choices-length u us)

-- an element stands first at the head, or behind it
pub place_cases : (x y : ℕ) (ys : List ℕ) → ((x ≡ y) × (place_of x (y ∷ ys) ≡ 0)) ⊎ ((x ≡ y → ⊥) × (place_of x (y ∷ ys) ≡ suc (place_of x ys)))
place_cases x y ys = ⊎_elim
    (λ e. inl (eqb-true x y e, ap (λ b. cond b 0 (suc (place_of x ys))) e))
    (λ e. inr (eqb-false x y e, ap (λ b. cond b 0 (suc (place_of x ys))) e))
    (cases_Bool (eqb x y))

pub place_there : (x : ℕ) (xs : List ℕ) → IsIn x xs → place_of x xs < length xs
place_there x [] h = absurd h
place_there x (y ∷ ys) h = ⊎_elim
    (λ f. let z = f.1 in omega arith)
    (λ n. ⊎_elim (λ e. absurd (n.0 e)) (λ i. let r = place_there x ys i in let z = n.1 in omega arith) h)
    (place_cases x y ys)

-- in a longer list an element stands where it stood
pub place_kept : (x : ℕ) (xs ys : List ℕ) → IsIn x xs → place_of x (xs ++ ys) ≡ place_of x xs
place_kept x [] ys h = absurd h
place_kept x (y ∷ xs) ys h = ⊎_elim
    (λ f. ⊎_elim (λ g. g.1 ∙ sym f.1) (λ g. absurd (g.0 f.0)) (place_cases x y (xs ++ ys)))
    (λ n. ⊎_elim (λ g. absurd (n.0 g.0)) (λ g. g.1 ∙ (ap suc (⊎_elim (λ e. absurd (n.0 e)) (λ i. place_kept x xs ys i) h) ∙ sym n.1)) (place_cases x y (xs ++ ys)))
    (place_cases x y xs)

-- one that was not there stands behind all
pub place_new : (x : ℕ) (xs : List ℕ) → (IsIn x xs → ⊥) → place_of x (xs ++ x ∷ []) ≡ length xs
place_new x [] n = ⊎_elim (λ f. f.1) (λ g. absurd (g.0 refl)) (place_cases x x [])
place_new x (y ∷ xs) n = ⊎_elim
    (λ f. absurd (n (inl f.0)))
    (λ g. g.1 ∙ ap suc (place_new x xs (λ i. n (inr i))))
    (place_cases x y (xs ++ x ∷ []))

-- two elements that stand first at one place are one
pub place_one : (x y : ℕ) (xs : List ℕ) → IsIn x xs → IsIn y xs → place_of x xs ≡ place_of y xs → x ≡ y
place_one x y [] h k e = absurd h
place_one x y (z ∷ xs) h k e = ⊎_elim
    (λ f. ⊎_elim (λ g. f.0 ∙ sym g.0) (λ g. absurd (omega (arith, f.1, g.1))) (place_cases y z xs))
    (λ f. ⊎_elim
    (λ g. absurd (omega (arith, f.1, g.1)))
    (λ g. place_one x y xs (⊎_elim (λ d. absurd (f.0 d)) (λ i. i) h) (⊎_elim (λ d. absurd (g.0 d)) (λ i. i) k) (omega (arith, f.1, g.1)))
    (place_cases y z xs))
    (place_cases x z xs)

-- numbers for the steps of a route
abbrev pub keys_of : (ℕ → ℕ → ℕ) → ℕ → List ℕ → List ℕ
keys_of key a [] = []
keys_of key a (w ∷ ws) = key a w ∷ keys_of key w ws

-- the first by its choices is the first by any numbers that rise with the choices of each vertex
pub first_by_keys : (row : ℕ → List ℕ) (key : ℕ → ℕ → ℕ) → ((v x y : ℕ) → IsIn x (row v) → IsIn y (row v) → place_of x (row v) < place_of y (row v) → key v x < key v y)
    → (a b c : ℕ) (us ws : List ℕ) → IsRoute row a us b → IsRoute row a ws c → IsFirstOf (choices_of row a us) (choices_of row a ws) → IsFirstOf (keys_of key a us) (keys_of key a ws)
first_by_keys row key rises a b c [] ws r s h = tt
first_by_keys row key rises a b c (u ∷ us) [] r s h = absurd h
first_by_keys row key rises a b c (u ∷ us) (w ∷ ws) r s (inl l) = inl (rises a u w r.0 s.0 l)
first_by_keys row key rises a b c (u ∷ us) (w ∷ ws) r s (inr h) =
    let same = place_one u w (row a) r.0 s.0 h.0 in
    inr (
      ap (key a) same,
      subst (λ v. IsFirstOf (keys_of key u us) (keys_of key v ws)) same
          (first_by_keys row key rises u b c us ws r.1 (subst (λ v. IsRoute row v ws c) (sym same) s.1) (subst (λ v. IsFirstOf (choices_of row u us) (choices_of row v ws)) (sym same) h.1)),
    )

-- where two graphs lead alike, so do their routes
module _ (row other : ℕ → List ℕ) (same : (v : ℕ) → row v ≡ other v) where
  pub route_alike : (a b : ℕ) (ws : List ℕ) → IsRoute row a ws b → IsRoute other a ws b
  route_alike a b [] r = r
  route_alike a b (w ∷ ws) r = (subst (IsIn w) (same a) r.0, route_alike w b ws r.1)

  pub choices_alike : (a : ℕ) (ws : List ℕ) → choices_of row a ws ≡ choices_of other a ws
  choices_alike a [] = refl
  choices_alike a (w ∷ ws) = ap₂ ◌∷◌ (ap (place_of w) (same a)) (choices_alike w ws)

pub first_alike : (row other : ℕ → List ℕ) → ((v : ℕ) → row v ≡ other v) → (a b : ℕ) (ws : List ℕ) → IsFirstShortest row a b ws → IsFirstShortest other a b ws
first_alike row other same a b ws f = record {
  some = f.some;
  route = route_alike row other same a b ws f.route;
  shortest = λ us p r. f.shortest us p (back us r);
  first = λ us r e. subst (λ cs. IsFirstOf cs (choices_of other a us)) (choices_alike row other same a ws) (subst (λ cs. IsFirstOf (choices_of row a ws) cs) (choices_alike row other same a us) (f.first us (back us r) e));
}
  where
    back : (us : List ℕ) → IsRoute other a us b → IsRoute row a us b
    back us r = route_alike other row (λ v. sym (same v)) a b us r
