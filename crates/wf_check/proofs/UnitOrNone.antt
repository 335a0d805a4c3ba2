-- A grammar has unit cycles, of which one is told, or none.
use Rattle.std.proofs.Common.{◌≡◌, ◌⊎◌, ℕ, zero, suc, ◌<◌, ◌≤◌, List, [], ◌∷◌, length, get_or, map, refl, sym, ap, ◌∙◌, subst, inl, inr, ⊎_elim, arith}
use Rattle.std.specs.List.{flat_map}
use Rattle.std.proofs.lemmas.Bool.{cases_lt}
use Rattle.std.proofs.lemmas.List.{map-id}
use Rattle.std.proofs.lemmas.Simd.{map-map}
use Rattle.wf_model.specs.declared.numbers.ProdNo.{ProdNo}
use Rattle.wf_model.specs.Lists.{IsIn, numbers_from, Walk}
use Rattle.wf_model.specs.Grammar.{Grammar, head_of, body_of, IsProductionOf}
use Rattle.wf_model.specs.WellFormed.{IsWellFormed}
use Rattle.wf_model.specs.Proper.{Becomes}
use Rattle.wf_model.proofs.Lists.{in_flat_map, in_flat_map_from}
use Rattle.wf_model.proofs.Level.{in_numbers, numbers_in}
use Rattle.wf_model.proofs.Composites.{composite_below}
use Rattle.wf_model.proofs.Deciding.{Either, IsFirst, either_same, either_both, number_either, below_either, some_below, first_below, first_of_all, walk_either}
use Rattle.wf_check.specs.Improper.{UnitPath, IsUnitCycle, IsFirstOf, IsToldCycle}
use Rattle.wf_check.proofs.Derived.{production_either}
use Rattle.wf_check.proofs.Loops.{only_one, only_first, path_of, walk_of}

-- something alone where a number is one, and nothing elsewhere
abbrev where_one : {A : Type 0} {n : ℕ} → Either (n ≡ 1) → A → List A
where_one (inl e) x = x ∷ []
where_one (inr no_one) x = []

one_gives : {A : Type 0} {n : ℕ} (e : Either (n ≡ 1)) (x y : A) → IsIn y (where_one e x) → (n ≡ 1) × (y ≡ x)
one_gives (inl e) x y (inl i) = (e, i)
one_gives (inl e) x y (inr i) = absurd i
one_gives (inr no_one) x y i = absurd i

one_in : {A : Type 0} {n : ℕ} (e : Either (n ≡ 1)) (x : A) → n ≡ 1 → IsIn x (where_one e x)
one_in (inl e) x is = inl refl
one_in (inr no_one) x is = absurd (no_one is)

module _ (g : Grammar) where
  -- the module that a unit production makes
  abbrev target : ℕ → ℕ
  target p = get_or (body_of g p) 0 0

  abbrev IsUnit : ℕ → ℕ → Type 0
  IsUnit a p = IsProductionOf g p a × (length (body_of g p) ≡ 1)

  is_unit_either : (a p : ℕ) → p < length g.productions → Either (IsUnit a p)
  is_unit_either a p l = either_both (production_either g p a l) (number_either (length (body_of g p)) 1)

  unit_becomes : (a p : ℕ) → IsUnit a p → Becomes g a (target p)
  unit_becomes a p h = (p, h.0, h.1, only_first (body_of g p) h.1)

  -- from the head of a unit production to the module that it makes
  abbrev unit_edges_by : ℕ → List (ℕ × ℕ)
  unit_edges_by p = where_one (number_either (length (body_of g p)) 1) (head_of g p, target p)

  abbrev unit_edges : List (ℕ × ℕ)
  unit_edges = flat_map unit_edges_by (numbers_from 0 (length g.productions))

  edge_becomes : (a b : ℕ) → IsIn (a, b) unit_edges → Becomes g a b
  edge_becomes a b h =
      let r = in_flat_map_from unit_edges_by (a, b) (numbers_from 0 (length g.productions)) h in
      let l : r.0 < length g.productions = let z = in_numbers r.0 0 (length g.productions) r.1 in omega arith in
      let q = one_gives (number_either (length (body_of g r.0)) 1) (head_of g r.0, target r.0) (a, b) r.2 in
      subst (λ c. Becomes g a c) (sym (ap (λ (x : ℕ × ℕ). x.1) q.1)) (unit_becomes a r.0 ((l, sym (ap (λ (x : ℕ × ℕ). x.0) q.1)), q.0))

  becomes_edge : (a b : ℕ) → Becomes g a b → IsIn (a, b) unit_edges
  becomes_edge a b h =
      let l = h.1.0 in
      in_flat_map unit_edges_by h.0 (a, b) (numbers_from 0 (length g.productions)) (numbers_in h.0 0 (length g.productions) (omega arith) (omega arith))
      (subst (λ (x : ℕ × ℕ). IsIn x (unit_edges_by h.0)) (λ i. (h.1.1 i, only_one (body_of g h.0) b h.2 h.3 i)) (one_in (number_either (length (body_of g h.0)) 1) (head_of g h.0, target h.0) h.2))

  becomes_either : (a b : ℕ) → Either (Walk (Becomes g) a b)
  becomes_either = walk_either number_either (Becomes g) unit_edges edge_becomes becomes_edge

  -- the first list of this many unit productions that leads from a to b, or none does
  record IsFirstPath (n a b : ℕ) (ps : List ℕ) : Type 0 where
    count : length ps ≡ n
    path : UnitPath g a ps b
    first : (qs : List ℕ) → length qs ≡ n → UnitPath g a qs b → IsFirstOf ps qs

  abbrev HasPath : ℕ → ℕ → ℕ → Type 0
  HasPath n a b = (qs : List ℕ) × (length qs ≡ n) × UnitPath g a qs b

  abbrev FirstOrNone : ℕ → ℕ → ℕ → Type 0
  FirstOrNone n a b = ((ps : List ℕ) × IsFirstPath n a b ps) ⊎ (HasPath n a b → ⊥)

  path_either : (n a b : ℕ) → FirstOrNone n a b → Either (HasPath n a b)
  path_either n a b (inl r) = inl (r.0, r.1.count, r.1.path)
  path_either n a b (inr none) = inr none

  -- a production that begins such a list
  abbrev Begins : ℕ → ℕ → ℕ → ℕ → Type 0
  Begins n a b p = IsUnit a p × HasPath n (target p) b

  no_path : (a b : ℕ) → (a ≡ b → ⊥) → HasPath 0 a b → ⊥
  no_path a b n ([], e, h) = n h
  no_path a b n (q ∷ qs, e, h) = absurd (omega arith)

  path_begins : (n a b : ℕ) → HasPath (suc n) a b → (p : ℕ) × (p < length g.productions) × Begins n a b p
  path_begins n a b ([], e, h) = absurd (omega arith)
  path_begins n a b (p ∷ ps, e, h) = (p, h.0.0, ((h.0, h.1), (ps, omega arith, h.2)))

  -- the least production that begins one, with the first list behind it
  first_with : (n a b p : ℕ) (ps : List ℕ) → IsFirst (Begins n a b) p → IsFirstPath n (target p) b ps → IsFirstPath (suc n) a b (p ∷ ps)
  first_with n a b p ps f r = record {
    count = ap suc r.count;
    path = (f.so.0.0, f.so.0.1, r.path);
    first = first;
  }
    where
      first : (qs : List ℕ) → length qs ≡ suc n → UnitPath g a qs b → IsFirstOf (p ∷ ps) qs
      first [] e h = absurd (omega arith)
      first (q ∷ qs) e h = ⊎_elim
          (λ l. inl l)
          (λ l. ⊎_elim
          (λ m. absurd (f.before q m ((h.0, h.1), (qs, omega arith, h.2))))
          (λ m. let same : p ≡ q = omega arith in inr (same, r.first qs (omega arith) (subst (λ z. UnitPath g (target z) qs b) (sym same) h.2)))
          (cases_lt q p))
          (cases_lt p q)

  first_path : (n a b : ℕ) → FirstOrNone n a b
  first_path zero a b = ⊎_elim
      (λ e. inl ([], record { count = refl; path = e; first = λ qs count path. tt }))
      (λ n. inr (no_path a b n))
      (number_either a b)
  first_path (suc n) a b = go (λ c. first_path n c b)
    where
      behind : (p : ℕ) → IsFirst (Begins n a b) p → FirstOrNone n (target p) b → FirstOrNone (suc n) a b
      behind p f (inl r) = inl (p ∷ r.0, first_with n a b p r.0 f r.1)
      behind p f (inr none) = absurd (none f.so.1)

      go : ((c : ℕ) → FirstOrNone n c b) → FirstOrNone (suc n) a b
      go next = ⊎_elim
          (λ r. behind r.0 r.2 (next (target r.0)))
          (λ none. inr (λ h. let r = path_begins n a b h in none r.0 r.1 r.2))
          (first_below (Begins n a b) (length g.productions) (λ p l. either_both (is_unit_either a p l) (path_either n (target p) b (next (target p)))))

  -- a module is on a unit cycle
  abbrev IsOnCycle : ℕ → Type 0
  IsOnCycle m = (ps : List ℕ) × IsUnitCycle g m ps

  -- a unit production of it makes a module from which unit productions lead back
  abbrev ComesBack : ℕ → Type 0
  ComesBack m = (p : ℕ) × (p < length g.productions) × (IsUnit m p × Walk (Becomes g) (target p) m)

  back_cycle : (m : ℕ) → ComesBack m → IsOnCycle m
  back_cycle m h = let r = path_of g h.2.1 in (h.0 ∷ r.0, (omega arith, (h.2.0.0, h.2.0.1, r.1)))

  cycle_back : (m : ℕ) → IsOnCycle m → ComesBack m
  cycle_back m ([], h) = let none = h.0 in absurd (omega arith)
  cycle_back m (p ∷ ps, h) = (p, h.1.0.0, ((h.1.0, h.1.1), walk_of g ps (target p) m h.1.2))

  cycle_either : (m : ℕ) → Either (IsOnCycle m)
  cycle_either m = either_same (back_cycle m) (cycle_back m) (some_below (λ p. IsUnit m p × Walk (Becomes g) (target p) m) (length g.productions) (λ p l. either_both (is_unit_either m p l) (becomes_either (target p) m)))

  -- the shortest of the cycles of the least module that is on one, and the first of these
  told_at : (m : ℕ) → IsFirst IsOnCycle m → (ps : List ℕ) × IsToldCycle g ps
  told_at m f = by_least (first_of_all IsLength (λ n. either_both (below_either 0 n) (path_either n m m (first_path n m m))) (length f.so.0) (f.so.1.0, (f.so.0, refl, f.so.1.1)))
    where
      IsLength : ℕ → Type 0
      IsLength n = (0 < n) × HasPath n m m

      with_first : (n : ℕ) → IsFirst IsLength n → FirstOrNone n m m → (ps : List ℕ) × IsToldCycle g ps
      with_first n s (inr none) = absurd (none s.so.1)
      with_first n s (inl r) = (
        r.0,
        record {
          module_no = m;
          cycle = (subst (λ k. 0 < k) (sym r.1.count) s.so.0, r.1.path);
          least = λ k qs l c. f.before k l (qs, c);
          shortest = λ qs c. ⊎_elim (λ l. absurd (s.before (length qs) (let e = r.1.count in omega arith) (c.0, (qs, refl, c.1)))) (λ l. l) (cases_lt (length qs) (length r.0));
          first = λ qs c e. r.1.first qs (e ∙ r.1.count) c.1;
        },
      )

      by_least : (n : ℕ) × (n ≤ length f.so.0) × IsFirst IsLength n → (ps : List ℕ) × IsToldCycle g ps
      by_least r = with_first r.0 r.2 (first_path r.0 m m)

  -- a list of numbers as productions
  abbrev as_productions : List ℕ → List ProdNo
  as_productions = map (λ p. record { 0 = p })

  same_numbers : (ps : List ℕ) → map (λ (p : ProdNo). p.0) (as_productions ps) ≡ ps
  same_numbers ps = map-map (λ (p : ProdNo). p.0) (λ p. record { 0 = p }) ps ∙ map-id ps

  -- a unit cycle is told, or unit productions lead from no module back to it
  pub told_or_none : IsWellFormed g → ((ps : List ProdNo) × IsToldCycle g (map (λ (p : ProdNo). p.0) ps)) ⊎ ((a b : ℕ) → Becomes g a b → Walk (Becomes g) b a → ⊥)
  told_or_none formed = ⊎_elim
      (λ r. let t = told_at r.0 r.2 in inl (as_productions t.0, subst (IsToldCycle g) (sym (same_numbers t.0)) t.1))
      (λ none. inr (λ a b h w. none a (composite_below g formed a (h.0, h.1)) (back_cycle a (h.0, h.1.0, ((h.1, h.2), subst (λ z. Walk (Becomes g) z a) (sym (only_one (body_of g h.0) b h.2 h.3)) w)))))
      (first_below IsOnCycle (length g.modules) (λ m l. cycle_either m))
