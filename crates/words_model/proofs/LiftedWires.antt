-- The wiring of a lifted production: each edge, entry and exit stands in it once for each state.
use Rattle.std.proofs.Common.{◌≡◌, ℕ, zero, suc, ◌+◌, ◌*◌, ◌≤◌, ◌<◌, ◌⊎◌, List, [], ◌∷◌, ◌++◌, map, flat_map, length, Option, Some, None, refl, sym, ap, ◌∙◌, subst, inl, inr, ⊎_elim, arith}
use Rattle.std.proofs.Math.Nat.{suc-mul, zero-mul}
use Rattle.wf_model.specs.Lists.{IsIn, numbers_from}
use Rattle.wf_model.specs.Grammar.{Grammar, Production, Inner, Edge, production_at}
use Rattle.wf_model.specs.Links.{Link, input, output, edge_link, entry_links, exit_links, wiring}
use Rattle.wf_model.proofs.Lists.{in_append_left, in_append_right, in_append_cases, in_map, in_map_from}
use Rattle.words_model.specs.Lifting.{in_state, lift_port, lift_inner, lift_edge, edge_states, inner_states, lift}
use Rattle.words_model.proofs.States.{in_states, in_states_from, length-states_of}
use Rattle.words_model.proofs.LiftedParts.{lifted_production}

-- a link in the state s
abbrev pub lift_link : {A : Type 0} → ℕ → ℕ → Link A → Link A
lift_link k s l = record { from = lift_port k s l.from; to = lift_port k s l.to }

-- links that are numbered by their place in a list, as entries and exits are
abbrev numbered : (ℕ → Inner → Link (Option ℕ)) → ℕ → List Inner → List (Link (Option ℕ))
numbered f n [] = []
numbered f n (i ∷ is) = f n i ∷ numbered f (suc n) is

abbrev entry_at : ℕ → Inner → Link (Option ℕ)
entry_at n i = record { from = input None n; to = input (Some i.position) i.port }

abbrev exit_at : ℕ → Inner → Link (Option ℕ)
exit_at n i = record { from = output (Some i.position) i.port; to = output None n }

entries_numbered : (n : ℕ) (is : List Inner) → entry_links n is ≡ numbered entry_at n is
entries_numbered n [] = refl
entries_numbered n (i ∷ is) = ap (λ l. entry_at n i ∷ l) (entries_numbered (suc n) is)

exits_numbered : (n : ℕ) (is : List Inner) → exit_links n is ≡ numbered exit_at n is
exits_numbered n [] = refl
exits_numbered n (i ∷ is) = ap (λ l. exit_at n i ∷ l) (exits_numbered (suc n) is)

numbered-append : (f : ℕ → Inner → Link (Option ℕ)) (n : ℕ) (xs ys : List Inner) → numbered f n (xs ++ ys) ≡ numbered f n xs ++ numbered f (n + length xs) ys
numbered-append f n [] ys = let e : n ≡ n + 0 = omega arith in ap (λ z. numbered f z ys) e
numbered-append f n (x ∷ xs) ys =
    let e : suc n + length xs ≡ n + suc (length xs) = omega arith in
    ap (λ l. f n x ∷ l) (numbered-append f (suc n) xs ys ∙ ap (λ z. numbered f (suc n) xs ++ numbered f z ys) e)

-- the first number of a range, or a later one
first_or_later : (c s : ℕ) → c ≤ s → (s ≡ c) ⊎ (suc c ≤ s)
first_or_later c s h = grind arith

-- a link of the list, in a state
abbrev IsLifted : ℕ → List (Link (Option ℕ)) → Link (Option ℕ) → Type 0
IsLifted k ls l = (l0 : Link (Option ℕ)) × (s : ℕ) × (s < k) × IsIn l0 ls × (l ≡ lift_link k s l0)

module _ (k : ℕ) (f : ℕ → Inner → Link (Option ℕ)) (lifts : (n s : ℕ) (i : Inner) → f (in_state k s n) (lift_inner k s i) ≡ lift_link k s (f n i)) where
  -- the states of one port, from the c-th on
  states_from : (l : Link (Option ℕ)) (i : Inner) (base c n j : ℕ) → j ≡ base + c → IsIn l (numbered f j (map (λ s. lift_inner k s i) (numbers_from c n))) → (s : ℕ) × (s < c + n) × (l ≡ f (base + s) (lift_inner k s i))
  states_from l i base c zero j e h = absurd h
  states_from l i base c (suc n) j e (inl q) = (c, omega arith, q ∙ ap (λ z. f z (lift_inner k c i)) e)
  states_from l i base c (suc n) j e (inr q) =
      let e2 : suc j ≡ base + suc c = omega arith in
      let r = states_from l i base (suc c) n (suc j) e2 q in
      let b : r.0 < suc c + n = r.1 in
      (r.0, omega arith, r.2)

  states_in : (i : Inner) (base c n j s : ℕ) → j ≡ base + c → c ≤ s → s < c + n → IsIn (f (base + s) (lift_inner k s i)) (numbered f j (map (λ s. lift_inner k s i) (numbers_from c n)))
  states_in i base c zero j s e a b = absurd (omega arith)
  states_in i base c (suc n) j s e a b =
      ⊎_elim (λ q. inl (ap (λ z. f (base + z) (lift_inner k z i)) q ∙ ap (λ z. f z (lift_inner k c i)) (sym e))) (λ q. let e2 : suc j ≡ base + suc c = omega arith in let b2 : s < suc c + n = omega arith in inr (states_in i base (suc c) n (suc j) s e2 q b2)) (first_or_later c s a)

  -- the states of a list of ports, of which the first has the number n
  numbered_from : (l : Link (Option ℕ)) (n base : ℕ) → base ≡ n * k → (is : List Inner) → IsIn l (numbered f base (flat_map (inner_states k) is)) → IsLifted k (numbered f n is) l
  numbered_from l n base e [] h = absurd h
  numbered_from l n base e (i ∷ is) h =
      let rest = flat_map (inner_states k) is in
      let ps = inner_states k i in
      ⊎_elim
      (λ a. let j : base ≡ base + 0 = omega arith in
      let r = states_from l i base 0 k base j a in
      let b : r.0 < 0 + k = r.1 in
      (f n i, r.0, (omega arith), inl refl, r.2 ∙ (ap (λ z. f (z + r.0) (lift_inner k r.0 i)) e ∙ lifts n r.0 i)))
      (λ a. let c = length-states_of (lift_inner k) k i in let m = suc-mul n k in
      let e2 : base + length ps ≡ suc n * k = omega arith in
      let r = numbered_from l (suc n) (base + length ps) e2 is a in (r.0, r.1, r.2, inr r.3, r.4))
      (in_append_cases l (numbered f base ps) (numbered f (base + length ps) rest) (subst (IsIn l) (numbered-append f base ps rest) h))

  numbered_in : (l : Link (Option ℕ)) (s n base : ℕ) → base ≡ n * k → s < k → (is : List Inner) → IsIn l (numbered f n is) → IsIn (lift_link k s l) (numbered f base (flat_map (inner_states k) is))
  numbered_in l s n base e hs [] h = absurd h
  numbered_in l s n base e hs (i ∷ is) h =
      let rest = flat_map (inner_states k) is in
      let ps = inner_states k i in
      subst (IsIn (lift_link k s l)) (sym (numbered-append f base ps rest))
      (⊎_elim
      (λ a. in_append_left (lift_link k s l) (numbered f base ps) (numbered f (base + length ps) rest)
      (let j : base ≡ base + 0 = omega arith in
      let r = states_in i base 0 k base s j (omega arith) (omega arith) in
      subst (λ z. IsIn z (numbered f base ps)) (ap (λ z. f (z + s) (lift_inner k s i)) e ∙ (lifts n s i ∙ ap (lift_link k s) (sym a))) r))
      (λ a. in_append_right (lift_link k s l) (numbered f base ps) (numbered f (base + length ps) rest)
      (let c = length-states_of (lift_inner k) k i in let m = suc-mul n k in
      let e2 : base + length ps ≡ suc n * k = omega arith in
      numbered_in l s (suc n) (base + length ps) e2 hs is a))
      h)

-- edges, entries and exits as links
abbrev wires : List Edge → List Inner → List Inner → List (Link (Option ℕ))
wires es is os = map edge_link es ++ (entry_links 0 is ++ exit_links 0 os)

module _ (k : ℕ) (es : List Edge) (is os : List Inner) where
  abbrev lifted : List (Link (Option ℕ))
  lifted = wires (flat_map (edge_states k) es) (flat_map (inner_states k) is) (flat_map (inner_states k) os)

  wires_from : (l : Link (Option ℕ)) → IsIn l lifted → IsLifted k (wires es is os) l
  wires_from l h =
      let z : 0 ≡ 0 * k = sym (zero-mul k) in
      ⊎_elim
      (λ a.
      let e = in_map_from edge_link l (flat_map (edge_states k) es) a in
      let t = in_states_from (lift_edge k) k e.0 es e.1 in
      (edge_link t.0, t.1, t.2, in_append_left (edge_link t.0) (map edge_link es) _ (in_map edge_link t.0 es t.3), e.2 ∙ ap edge_link t.4))
      (λ b. ⊎_elim
      (λ a.
      let q = numbered_from k entry_at (λ q s i. refl) l 0 0 z is (subst (IsIn l) (entries_numbered 0 (flat_map (inner_states k) is)) a) in
      (q.0, q.1, q.2, in_append_right q.0 (map edge_link es) _ (in_append_left q.0 (entry_links 0 is) (exit_links 0 os) (subst (IsIn q.0) (sym (entries_numbered 0 is)) q.3)), q.4))
      (λ a.
      let q = numbered_from k exit_at (λ q s i. refl) l 0 0 z os (subst (IsIn l) (exits_numbered 0 (flat_map (inner_states k) os)) a) in
      (q.0, q.1, q.2, in_append_right q.0 (map edge_link es) _ (in_append_right q.0 (entry_links 0 is) (exit_links 0 os) (subst (IsIn q.0) (sym (exits_numbered 0 os)) q.3)), q.4))
      (in_append_cases l (entry_links 0 (flat_map (inner_states k) is)) (exit_links 0 (flat_map (inner_states k) os)) b))
      (in_append_cases l (map edge_link (flat_map (edge_states k) es)) (entry_links 0 (flat_map (inner_states k) is) ++ exit_links 0 (flat_map (inner_states k) os)) h)

  wires_in : (l : Link (Option ℕ)) (s : ℕ) → s < k → IsIn l (wires es is os) → IsIn (lift_link k s l) lifted
  wires_in l s hs h =
      let z : 0 ≡ 0 * k = sym (zero-mul k) in
      let l2 = lift_link k s l in
      let es2 = flat_map (edge_states k) es in
      let is2 = flat_map (inner_states k) is in
      let os2 = flat_map (inner_states k) os in
      ⊎_elim
      (λ a.
      let e = in_map_from edge_link l es a in
      in_append_left l2 (map edge_link es2) _ (subst (λ w. IsIn w (map edge_link es2)) (ap (lift_link k s) (sym e.2)) (in_map edge_link (lift_edge k s e.0) es2 (in_states (lift_edge k) k e.0 s es hs e.1))))
      (λ b. in_append_right l2 (map edge_link es2) (entry_links 0 is2 ++ exit_links 0 os2) (⊎_elim
      (λ a. in_append_left l2 (entry_links 0 is2) (exit_links 0 os2) (subst (IsIn l2) (sym (entries_numbered 0 is2)) (numbered_in k entry_at (λ q s i. refl) l s 0 0 z hs is (subst (IsIn l) (entries_numbered 0 is) a))))
      (λ a. in_append_right l2 (entry_links 0 is2) (exit_links 0 os2) (subst (IsIn l2) (sym (exits_numbered 0 os2)) (numbered_in k exit_at (λ q s i. refl) l s 0 0 z hs os (subst (IsIn l) (exits_numbered 0 os) a))))
      (in_append_cases l (entry_links 0 is) (exit_links 0 os) b)))
      (in_append_cases l (map edge_link es) (entry_links 0 is ++ exit_links 0 os) h)

module _ (g : Grammar) (k p : ℕ) (l : Link (Option ℕ)) where
  pub wiring_from_lifted : IsIn l (wiring (lift g k) p) → IsLifted k (wiring g p) l
  wiring_from_lifted h =
      let r = production_at g p in
      wires_from k r.edges r.entries r.exits l (subst (λ (r : Production). IsIn l (wires r.edges r.entries r.exits)) (lifted_production g k p) h)

  pub wiring_in_lifted : (s : ℕ) → s < k → IsIn l (wiring g p) → IsIn (lift_link k s l) (wiring (lift g k) p)
  wiring_in_lifted s hs h =
      let r = production_at g p in
      subst (λ (r : Production). IsIn (lift_link k s l) (wires r.edges r.entries r.exits)) (sym (lifted_production g k p)) (wires_in k r.edges r.entries r.exits l s hs h)
