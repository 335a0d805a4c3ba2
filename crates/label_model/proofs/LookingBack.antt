-- The address of an instance, looked for from the latest event back.
use Rattle.std.proofs.Common.{◌≡◌, ℕ, zero, suc, ◌+◌, ◌≤◌, Bool, true, false, not, cond, List, [], ◌∷◌, ◌++◌, length, reverse, bytes_eq, refl, ap, ◌∙◌, subst, arith, append-nil, length-append}
use Rattle.std.specs.List.{position_or_len}
use Rattle.std.proofs.lemmas.List.{reverse-append}
use Rattle.wf_model.specs.Lists.{IsIn, IsAt, AllDiffer, some}
use Rattle.wf_model.specs.declared.event.Event.{Event}
use Rattle.wf_model.specs.declared.event.Event.TheVariants.{Start, Expand}
use Rattle.wf_model.proofs.Lists.{same_bytes, bytes_same, among_from, among_none, at_in}
use Rattle.label_model.specs.RunLabels.{address_back, address_in}
use Rattle.label_model.specs.Bound.{expand_events}

-- the place of a name
position_is : (c : List ℕ) (k : ℕ) (names : List (List ℕ)) → AllDiffer names → IsAt c k names → position_or_len (bytes_eq c) names ≡ k
position_is c k [] d h = absurd h
position_is c zero (n ∷ names) d h = ap (λ b. cond (not b) (1 + position_or_len (bytes_eq c) names) 0) (bytes_same c n h)
position_is c (suc k) (n ∷ names) d h = go (position_is c k names d.1 h) (bytes_eq c n) refl
  where
    go : position_or_len (bytes_eq c) names ≡ k → (b : Bool) → bytes_eq c n ≡ b → cond (not b) (1 + position_or_len (bytes_eq c) names) 0 ≡ suc k
    go r true e = absurd (d.0 (subst (λ z. IsIn z names) (same_bytes c n e) (at_in c k names h)))
    go r false e = omega (arith, r)

module _ (b : List Event) where
  pub address_start : (r n : List ℕ) → address_in (b ++ Start r ∷ []) n ≡ address_in b n
  unfolding address_in
  address_start r n = ap (λ l. address_back l n) (reverse-append b (Start r ∷ []))

  -- an instance that the event does not make
  pub address_old : (i : List ℕ) (p : ℕ) (names : List (List ℕ)) (n : List ℕ) → (IsIn n names → ⊥) → address_in (b ++ Expand i p names ∷ []) n ≡ address_in b n
  unfolding address_in
  address_old i p names n h =
      ap (λ l. address_back l n) (reverse-append b (Expand i p names ∷ [])) ∙
      (ap (λ t. address_back (reverse b) (cond t i n) ++ cond t (record { production = p; position = position_or_len (bytes_eq n) names } ∷ []) []) (among_none n names h) ∙ append-nil (address_back (reverse b) n))

  -- a child has one step more than the instance that is expanded
  pub address_child : (i : List ℕ) (p : ℕ) (names : List (List ℕ)) (c : List ℕ) (k : ℕ) → AllDiffer names → IsAt c k names → address_in (b ++ Expand i p names ∷ []) c ≡ address_in b i ++ record { production = p; position = k } ∷ []
  unfolding address_in
  address_child i p names c k d h =
      ap (λ l. address_back l c) (reverse-append b (Expand i p names ∷ [])) ∙
      (ap (λ t. address_back (reverse b) (cond t i c) ++ cond t (record { production = p; position = position_or_len (bytes_eq c) names } ∷ []) []) (among_from c names (at_in c k names h)) ∙
      ap (λ o. address_back (reverse b) i ++ record { production = p; position = o } ∷ []) (position_is c k names d h))

pub expand_events-append : (a b : List Event) → expand_events (a ++ b) ≡ expand_events a + expand_events b
expand_events-append [] b = omega arith
expand_events-append (Start r ∷ a) b = expand_events-append a b
expand_events-append (Expand i p names ∷ a) b = omega (arith, expand_events-append a b)

pub expand_events-reverse : (a : List Event) → expand_events (reverse a) ≡ expand_events a
expand_events-reverse [] = refl
expand_events-reverse (Start r ∷ a) = ap expand_events (reverse-append (Start r ∷ []) a) ∙ omega (arith, expand_events-append (reverse a) (Start r ∷ []), expand_events-reverse a)
expand_events-reverse (Expand i p names ∷ a) = ap expand_events (reverse-append (Expand i p names ∷ []) a) ∙ omega (arith, expand_events-append (reverse a) (Expand i p names ∷ []), expand_events-reverse a)

back_short : (l : List Event) (n : List ℕ) → length (address_back l n) ≤ expand_events l
back_short [] n = omega arith
back_short (Start r ∷ l) n = back_short l n
back_short (Expand i p names ∷ l) n = go (back_short l) (some (bytes_eq n) names)
  where
    go : ((n : List ℕ) → length (address_back l n) ≤ expand_events l) → (t : Bool) → length (address_back l (cond t i n) ++ cond t (record { production = p; position = position_or_len (bytes_eq n) names } ∷ []) []) ≤ suc (expand_events l)
    go ih true = omega (arith, ih i, length-append (address_back l i) (record { production = p; position = position_or_len (bytes_eq n) names } ∷ []))
    go ih false = omega (arith, ih n, length-append (address_back l n) [])

pub address_short : (events : List Event) (n : List ℕ) → length (address_in events n) ≤ expand_events events
unfolding address_in
address_short events n = omega (arith, back_short (reverse events) n, expand_events-reverse events)
