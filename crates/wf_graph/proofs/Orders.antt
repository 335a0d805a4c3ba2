-- Lists of numbers in order: the shorter comes first, and of two as long the one with the lesser number where they first differ.
use Rattle.std.proofs.Common.{◌≡◌, ℕ, ◌<◌, ◌≤◌, ◌⊎◌, List, [], ◌∷◌, ◌++◌, length, refl, sym, ◌∙◌, inl, inr, ⊎_elim, arith, length-append, append-nil, subst}
use Rattle.std.proofs.lemmas.Bool.{cases_lt}
use Rattle.wf_graph.specs.Routes.{IsFirstOf}

-- the one list has the lesser number where they first differ
abbrev pub IsLess : List ℕ → List ℕ → Type 0
IsLess [] qs = ⊥
IsLess (p ∷ ps) [] = ⊥
IsLess (p ∷ ps) (q ∷ qs) = (p < q) ⊎ ((p ≡ q) × IsLess ps qs)

-- the one list comes before the other
abbrev pub IsBefore : List ℕ → List ℕ → Type 0
IsBefore ps qs = (length ps < length qs) ⊎ ((length ps ≡ length qs) × IsLess ps qs)

-- the one list comes before the other, or is it
abbrev pub IsNotAfter : List ℕ → List ℕ → Type 0
IsNotAfter ps qs = (length ps < length qs) ⊎ ((length ps ≡ length qs) × IsFirstOf ps qs)

first_same : (ps : List ℕ) → IsFirstOf ps ps
first_same [] = tt
first_same (p ∷ ps) = inr (refl, first_same ps)

less_first : (ps qs : List ℕ) → IsLess ps qs → IsFirstOf ps qs
less_first [] qs h = tt
less_first (p ∷ ps) [] h = h
less_first (p ∷ ps) (q ∷ qs) (inl l) = inl l
less_first (p ∷ ps) (q ∷ qs) (inr s) = inr (s.0, less_first ps qs s.1)

first_through : (ps qs rs : List ℕ) → IsFirstOf ps qs → IsFirstOf qs rs → IsFirstOf ps rs
first_through [] qs rs h k = tt
first_through (p ∷ ps) [] rs h k = absurd h
first_through (p ∷ ps) (q ∷ qs) [] h k = k
first_through (p ∷ ps) (q ∷ qs) (r ∷ rs) (inl h) (inl k) = inl (omega arith)
first_through (p ∷ ps) (q ∷ qs) (r ∷ rs) (inl h) (inr k) = inl (omega (arith, k.0))
first_through (p ∷ ps) (q ∷ qs) (r ∷ rs) (inr h) (inl k) = inl (omega (arith, h.0))
first_through (p ∷ ps) (q ∷ qs) (r ∷ rs) (inr h) (inr k) = inr (h.0 ∙ k.0, first_through ps qs rs h.1 k.1)

less_through : (ps qs rs : List ℕ) → IsLess ps qs → IsFirstOf qs rs → IsLess ps rs
less_through [] qs rs h k = h
less_through (p ∷ ps) [] rs h k = absurd h
less_through (p ∷ ps) (q ∷ qs) [] h k = k
less_through (p ∷ ps) (q ∷ qs) (r ∷ rs) (inl h) (inl k) = inl (omega arith)
less_through (p ∷ ps) (q ∷ qs) (r ∷ rs) (inl h) (inr k) = inl (omega (arith, k.0))
less_through (p ∷ ps) (q ∷ qs) (r ∷ rs) (inr h) (inl k) = inl (omega (arith, h.0))
less_through (p ∷ ps) (q ∷ qs) (r ∷ rs) (inr h) (inr k) = inr (h.0 ∙ k.0, less_through ps qs rs h.1 k.1)

less_more : (ps qs : List ℕ) (p q : ℕ) → IsLess ps qs → IsLess (ps ++ p ∷ []) (qs ++ q ∷ [])
less_more [] qs p q h = absurd h
less_more (x ∷ ps) [] p q h = absurd h
less_more (x ∷ ps) (y ∷ qs) p q (inl h) = inl h
less_more (x ∷ ps) (y ∷ qs) p q (inr h) = inr (h.0, less_more ps qs p q h.1)

less_last : (ps : List ℕ) (p q : ℕ) → p < q → IsLess (ps ++ p ∷ []) (ps ++ q ∷ [])
less_last [] p q h = inl h
less_last (x ∷ ps) p q h = inr (refl, less_last ps p q h)

first_more : (ps qs : List ℕ) (p q : ℕ) → length ps ≡ length qs → IsFirstOf ps qs → p ≤ q → IsFirstOf (ps ++ p ∷ []) (qs ++ q ∷ [])
first_more [] [] p q e h l = ⊎_elim (λ lt. inl lt) (λ ge. inr (omega arith, tt)) (cases_lt p q)
first_more [] (y ∷ qs) p q e h l = absurd (omega (arith, e))
first_more (x ∷ ps) [] p q e h l = absurd h
first_more (x ∷ ps) (y ∷ qs) p q e (inl h) l = inl h
first_more (x ∷ ps) (y ∷ qs) p q e (inr h) l = let r : length ps ≡ length qs = omega (arith, e) in inr (h.0, first_more ps qs p q r h.1 l)

pub after_same : (ps : List ℕ) → IsNotAfter ps ps
after_same ps = inr (refl, first_same ps)

pub before_after : (ps qs : List ℕ) → IsBefore ps qs → IsNotAfter ps qs
before_after ps qs (inl l) = inl l
before_after ps qs (inr s) = inr (s.0, less_first ps qs s.1)

pub after_through : (ps qs rs : List ℕ) → IsNotAfter ps qs → IsNotAfter qs rs → IsNotAfter ps rs
after_through ps qs rs (inl h) (inl k) = inl (omega arith)
after_through ps qs rs (inl h) (inr k) = inl (omega (arith, k.0))
after_through ps qs rs (inr h) (inl k) = inl (omega (arith, h.0))
after_through ps qs rs (inr h) (inr k) = inr (h.0 ∙ k.0, first_through ps qs rs h.1 k.1)

pub before_through : (ps qs rs : List ℕ) → IsBefore ps qs → IsNotAfter qs rs → IsBefore ps rs
before_through ps qs rs (inl h) (inl k) = inl (omega arith)
before_through ps qs rs (inl h) (inr k) = inl (omega (arith, k.0))
before_through ps qs rs (inr h) (inl k) = inl (omega (arith, h.0))
before_through ps qs rs (inr h) (inr k) = inr (h.0 ∙ k.0, less_through ps qs rs h.1 k.1)

-- each list with one number more
pub before_more : (ps qs : List ℕ) (p q : ℕ) → IsBefore ps qs → IsBefore (ps ++ p ∷ []) (qs ++ q ∷ [])
before_more ps qs p q (inl h) = inl (omega (arith, length-append ps (p ∷ []), length-append qs (q ∷ [])))
before_more ps qs p q (inr h) = inr (omega (arith, h.0, length-append ps (p ∷ []), length-append qs (q ∷ [])), less_more ps qs p q h.1)

pub before_last : (ps : List ℕ) (p q : ℕ) → p < q → IsBefore (ps ++ p ∷ []) (ps ++ q ∷ [])
before_last ps p q h = inr (length-append ps (p ∷ []) ∙ sym (length-append ps (q ∷ [])), less_last ps p q h)

pub after_more : (ps qs : List ℕ) (p q : ℕ) → IsNotAfter ps qs → p ≤ q → IsNotAfter (ps ++ p ∷ []) (qs ++ q ∷ [])
after_more ps qs p q (inl h) l = inl (omega (arith, length-append ps (p ∷ []), length-append qs (q ∷ [])))
after_more ps qs p q (inr h) l = inr (omega (arith, h.0, length-append ps (p ∷ []), length-append qs (q ∷ [])), first_more ps qs p q h.0 h.1 l)

-- a list does not come after a longer one with the same beginning
pub after_longer : (ps qs rs : List ℕ) → IsNotAfter ps qs → IsNotAfter ps (qs ++ rs)
after_longer ps qs [] h = subst (IsNotAfter ps) (sym (append-nil qs)) h
after_longer ps qs (r ∷ rs) (inl h) = inl (omega (arith, length-append qs (r ∷ rs)))
after_longer ps qs (r ∷ rs) (inr h) = inl (omega (arith, h.0, length-append qs (r ∷ rs)))
