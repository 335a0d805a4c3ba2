-- The unit productions of a grammar as a list, and the cycle that is told.
use Rattle.std.proofs.Common.{◌≡◌, ℕ, zero, suc, ◌<◌, Option, Some, None, List, [], ◌∷◌, length, get_or, refl, sym, ap, ◌∙◌, subst, inl, inr, arith}
use Rattle.std.specs.List.{filter_map, cons_option}
use Rattle.wf_model.specs.Lists.{IsIn, numbers_from}
use Rattle.wf_model.specs.Grammar.{Grammar, body_of, head_of, IsProductionOf}
use Rattle.wf_model.specs.WellFormed.{IsWellFormed}
use Rattle.wf_model.proofs.Level.{in_numbers, numbers_in}
use Rattle.wf_model.proofs.NumberLists.{from_first}
use Rattle.wf_check.specs.declared.unit.rule.UnitRule.{UnitRule}
use Rattle.wf_graph.specs.Routes.{IsFirstShortest}
use Rattle.wf_check.specs.Improper.{UnitPath, IsUnitCycle, IsToldCycle}
use Rattle.wf_check.specs.UnitRules.{unit_rule_of, unit_rule_at, unit_rules_of, AreInOrder, AreBelow}
use Rattle.wf_check.specs.UnitPaths.{Turns, LeadTo, IsOnCycle, targets_of, AreFirstTurns}
use Rattle.wf_check.proofs.UnitRoutes.{leads_route, turned_leads, turned_first}

-- what is among the values of a list is that of one of its elements
in_filter_map_from : {A B : Type 0} (f : A → Option B) (y : B) (xs : List A) → IsIn y (filter_map f xs) → (x : A) × IsIn x xs × (f x ≡ Some y)
in_filter_map_from f y [] h = absurd h
in_filter_map_from {A} {B} f y (x ∷ xs) h = go (in_filter_map_from f y xs) (f x) refl h
  where
    go : (IsIn y (filter_map f xs) → (z : A) × IsIn z xs × (f z ≡ Some y)) → (o : Option B) → f x ≡ o → IsIn y (cons_option o (filter_map f xs)) → (z : A) × IsIn z (x ∷ xs) × (f z ≡ Some y)
    go later None e i = let r = later i in (r.0, inr r.1, r.2)
    go later (Some z) e (inl d) = (x, inl refl, e ∙ ap Some (sym d))
    go later (Some z) e (inr i) = let r = later i in (r.0, inr r.1, r.2)

in_filter_map : {A B : Type 0} (f : A → Option B) (x : A) (y : B) (xs : List A) → IsIn x xs → f x ≡ Some y → IsIn y (filter_map f xs)
in_filter_map f x y [] h e = absurd h
in_filter_map {A} {B} f x y (z ∷ xs) (inl d) e = subst (λ o. IsIn y (cons_option o (filter_map f xs))) (sym (ap f (sym d) ∙ e)) (inl refl)
in_filter_map {A} {B} f x y (z ∷ xs) (inr h) e = go (in_filter_map f x y xs h e) (f z)
  where
    go : IsIn y (filter_map f xs) → (o : Option B) → IsIn y (cons_option o (filter_map f xs))
    go i None = i
    go i (Some w) = inr i

-- a unit production has this number and head, and its target alone stands in this body
record Fits (p m : ℕ) (ms : List ℕ) (u : UnitRule) : Type 0 where
  pub number : u.number.0 ≡ p
  pub head : u.head.0 ≡ m
  pub body : ms ≡ u.target.0 ∷ []

fits : (p head : ℕ) (body : List ℕ) (u : UnitRule) → unit_rule_of p head body ≡ Some u → Fits p head body u
fits p head [] u e = cc
fits p head (m ∷ []) u e =
    let same : record { number = record { 0 = p }; head = record { 0 = head }; target = record { 0 = m } } ≡ u = cc in
    record {
      number = ap (λ (w : UnitRule). w.number.0) (sym same);
      head = ap (λ (w : UnitRule). w.head.0) (sym same);
      body = ap (λ (w : UnitRule). w.target.0 ∷ []) same;
    }
fits p head (m ∷ n ∷ ms) u e = cc

of_one : (p head : ℕ) (body : List ℕ) → length body ≡ 1 → (u : UnitRule) × (unit_rule_of p head body ≡ Some u) × (get_or body 0 0 ≡ u.target.0)
of_one p head [] h = absurd (omega arith)
of_one p head (m ∷ []) h = (record { number = record { 0 = p }; head = record { 0 = head }; target = record { 0 = m } }, refl, refl)
of_one p head (m ∷ n ∷ ms) h = absurd (omega arith)

-- a unit production of the list is one of the grammar
rule_is : (g : Grammar) (u : UnitRule) → IsIn u (unit_rules_of g) → (u.number.0 < length g.productions) × Fits u.number.0 (head_of g u.number.0) (body_of g u.number.0) u
rule_is g u i =
    let r = in_filter_map_from (unit_rule_at g) u (numbers_from 0 (length g.productions)) i in
    let f = fits r.0 (head_of g r.0) (body_of g r.0) u r.2 in
    let below : r.0 < length g.productions = omega (arith, in_numbers r.0 0 (length g.productions) r.1) in
    (omega (arith, f.number), subst (λ k. Fits k (head_of g k) (body_of g k) u) (sym f.number) f)

turns_is : (g : Grammar) (p a b : ℕ) → Turns (unit_rules_of g) p a b → IsProductionOf g p a × (length (body_of g p) ≡ 1) × (get_or (body_of g p) 0 0 ≡ b)
turns_is g p a b t =
    let r = rule_is g t.0 t.1 in
    let body : body_of g p ≡ t.0.target.0 ∷ [] = ap (body_of g) (sym t.2) ∙ r.1.body in
    ((subst (λ k. k < length g.productions) t.2 r.0, ap (head_of g) (sym t.2) ∙ sym r.1.head ∙ t.3), ap length body, ap (λ l. get_or l 0 0) body ∙ t.4)

is_turns : (g : Grammar) (p a : ℕ) → IsProductionOf g p a → length (body_of g p) ≡ 1 → Turns (unit_rules_of g) p a (get_or (body_of g p) 0 0)
is_turns g p a of_a one =
    let r = of_one p (head_of g p) (body_of g p) one in
    let f = fits p (head_of g p) (body_of g p) r.0 r.1 in
    (r.0, in_filter_map (unit_rule_at g) p r.0 (numbers_from 0 (length g.productions)) (numbers_in p 0 (length g.productions) (omega arith) (omega (arith, of_a.0))) r.1, f.number, f.head ∙ of_a.1, sym r.2)

-- paths along the list are those of the grammar
leads_is : (g : Grammar) (a : ℕ) (ps : List ℕ) (b : ℕ) → LeadTo (unit_rules_of g) a ps b → UnitPath g a ps b
leads_is g a [] b l = l
leads_is g a (p ∷ ps) b l =
    let t = turns_is g p a l.0 l.1 in
    (t.0, t.1, subst (λ c. UnitPath g c ps b) (sym t.2) (leads_is g l.0 ps b l.2))

is_leads : (g : Grammar) (a : ℕ) (ps : List ℕ) (b : ℕ) → UnitPath g a ps b → LeadTo (unit_rules_of g) a ps b
is_leads g a [] b l = l
is_leads g a (p ∷ ps) b l = (get_or (body_of g p) 0 0, is_turns g p a l.0 l.1, is_leads g (get_or (body_of g p) 0 0) ps b l.2)

-- the list is in order
pub rules_in_order : (g : Grammar) → AreInOrder (unit_rules_of g)
rules_in_order g = from 0 (length g.productions)
  where
    from : (k n : ℕ) → AreInOrder (filter_map (unit_rule_at g) (numbers_from k n))
    from k zero = tt
    from k (suc n) = go (from (suc k) n) (unit_rule_at g k) refl
      where
        go : AreInOrder (filter_map (unit_rule_at g) (numbers_from (suc k) n)) → (o : Option UnitRule) → unit_rule_at g k ≡ o → AreInOrder (cons_option o (filter_map (unit_rule_at g) (numbers_from (suc k) n)))
        go later None e = later
        go later (Some u) e = (
          λ v i.
              let r = in_filter_map_from (unit_rule_at g) v (numbers_from (suc k) n) i in
              let above = from_first r.0 (suc k) n r.1 in
              let mine = (fits k (head_of g k) (body_of g k) u e).number in
              let its = (fits r.0 (head_of g r.0) (body_of g r.0) v r.2).number in
              omega arith,
          later,
        )

-- their modules are there
pub rules_below : (g : Grammar) → IsWellFormed g → AreBelow (length g.modules) (unit_rules_of g)
rules_below g formed u i =
    let r = rule_is g u i in
    (subst (λ k. k < length g.modules) (sym r.1.head) (formed.heads u.number.0 r.0), (formed.bodies u.number.0 r.0).modules u.target.0 (subst (IsIn u.target.0) (sym r.1.body) (inl refl)))

-- no cycle along the list is none in the grammar
pub none_told : (g : Grammar) → ((m : ℕ) → IsOnCycle (unit_rules_of g) m → ⊥) → (m : ℕ) (ps : List ℕ) → IsUnitCycle g m ps → ⊥
none_told g none m ps cycle = none m (ps, cycle.0, is_leads g m ps m cycle.1)

-- the first unit productions along the first of the shortest routes from the least module back to it are told
pub is_told : (g : Grammar) (m : ℕ) (ws ps : List ℕ) → ((k : ℕ) → k < m → IsOnCycle (unit_rules_of g) k → ⊥) → IsFirstShortest (targets_of (unit_rules_of g)) m m ws → AreFirstTurns (unit_rules_of g) m ws ps → IsToldCycle g ps
is_told g m ws ps least route turns =
    let us = unit_rules_of g in
    let way = turned_leads us m ws ps m route.route turns in
    record {
      module_no = m;
      cycle = (subst (λ n. 0 < n) (sym way.0) route.some, leads_is g m ps m way.1);
      least = λ k qs l cycle. least k l (qs, cycle.0, is_leads g k qs k cycle.1);
      shortest = λ qs cycle.
          let r = leads_route us m qs m (is_leads g m qs m cycle.1) in
          let s = route.shortest r.0 (subst (λ n. 0 < n) (sym r.1) cycle.0) r.2 in
          omega (arith, way.0, r.1);
      first = λ qs cycle same.
          let l = is_leads g m qs m cycle.1 in
          let r = leads_route us m qs m l in
          turned_first us (rules_in_order g) m ws ps m m qs route.route turns l (route.first r.0 r.2 (r.1 ∙ (same ∙ way.0)));
    }

-- a module on a cycle is the head of a unit production
pub on_cycle_below : (us : List UnitRule) (n m : ℕ) → AreBelow n us → IsOnCycle us m → m < n
on_cycle_below us n m below cycle = go cycle.0 cycle.1 cycle.2
  where
    go : (ps : List ℕ) → 0 < length ps → LeadTo us m ps m → m < n
    go [] h l = absurd (omega arith)
    go (p ∷ ps) h l = let t = l.1 in subst (λ k. k < n) t.3 (below t.0 t.1).0
