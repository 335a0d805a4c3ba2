-- Routes in the graph of unit productions, and the productions along them.
use Rattle.std.proofs.Common.{◌≡◌, ℕ, zero, suc, ◌<◌, ◌≤◌, ◌⊎◌, cond, eqb, List, [], ◌∷◌, ◌++◌, length, get_or, take, Vec, Global, refl, sym, ap, ◌∙◌, subst, inl, inr, ⊎_elim, arith}
use Rattle.std.proofs.lemmas.Bool.{cases_Bool, cases_lt, eqb-true, eqb-false}
use Rattle.wf_model.specs.Lists.{IsIn}
use Rattle.wf_graph.specs.Graph.{InRange}
use Rattle.wf_graph.specs.Routes.{IsRoute, AreInRange, place_of, choices_of, IsFirstOf}
use Rattle.wf_graph.proofs.Routes.{end_of, place_cases, place_one}
use Rattle.wf_check.specs.declared.unit.rule.UnitRule.{UnitRule}
use Rattle.wf_check.specs.UnitRules.{AreInOrder, AreBelow}
use Rattle.wf_check.specs.UnitPaths.{Turns, LeadTo, targets_of, IsGraphOf, IsFirstTurn, AreFirstTurns}

-- the targets of one more unit production at the head of a list
targets_cases : (u : UnitRule) (us : List UnitRule) (m : ℕ) → ((u.head.0 ≡ m) × (targets_of (u ∷ us) m ≡ u.target.0 ∷ targets_of us m)) ⊎ ((u.head.0 ≡ m → ⊥) × (targets_of (u ∷ us) m ≡ targets_of us m))
targets_cases u us m = ⊎_elim
    (λ e. inl (eqb-true u.head.0 m e, ap (λ b. cond b (u.target.0 ∷ targets_of us m) (targets_of us m)) e))
    (λ e. inr (eqb-false u.head.0 m e, ap (λ b. cond b (u.target.0 ∷ targets_of us m) (targets_of us m)) e))
    (cases_Bool (eqb u.head.0 m))

-- of one more at the end
pub targets_same : (us : List UnitRule) (u : UnitRule) (m : ℕ) → (u.head.0 ≡ m → ⊥) → targets_of (us ++ u ∷ []) m ≡ targets_of us m
targets_same [] u m n = ⊎_elim (λ e. absurd (n e.0)) (λ e. e.1) (targets_cases u [] m)
targets_same (x ∷ us) u m n = ap (λ l. cond (eqb x.head.0 m) (x.target.0 ∷ l) l) (targets_same us u m n)

pub targets_more : (us : List UnitRule) (u : UnitRule) (m : ℕ) → u.head.0 ≡ m → targets_of (us ++ u ∷ []) m ≡ targets_of us m ++ u.target.0 ∷ []
targets_more [] u m h = ⊎_elim (λ e. e.1) (λ e. absurd (e.0 h)) (targets_cases u [] m)
targets_more (x ∷ us) u m h = ⊎_elim
    (λ e. ⊎_elim (λ f. f.1 ∙ (ap (λ l. x.target.0 ∷ l) (targets_more us u m h) ∙ ap (λ l. l ++ u.target.0 ∷ []) (sym e.1))) (λ f. absurd (f.0 e.0)) (targets_cases x (us ++ u ∷ []) m))
    (λ e. ⊎_elim (λ f. absurd (e.0 f.0)) (λ f. f.1 ∙ (targets_more us u m h ∙ ap (λ l. l ++ u.target.0 ∷ []) (sym e.1))) (targets_cases x (us ++ u ∷ []) m))
    (targets_cases x us m)

-- with one unit production more, what leads on still does
turns_behind : (u : UnitRule) (us : List UnitRule) (a b : ℕ) → (p : ℕ) × Turns us p a b → (p : ℕ) × Turns (u ∷ us) p a b
turns_behind u us a b r = (r.0, (r.1.0, inr r.1.1, r.1.2, r.1.3, r.1.4))

-- a target is that of a unit production, and back
pub target_turns : (us : List UnitRule) (a b : ℕ) → IsIn b (targets_of us a) → (p : ℕ) × Turns us p a b
target_turns [] a b i = absurd i
target_turns (u ∷ us) a b i = ⊎_elim
    (λ e. ⊎_elim (λ d. (u.number.0, (u, inl refl, refl, e.0, sym d))) (λ j. turns_behind u us a b (target_turns us a b j)) (subst (IsIn b) e.1 i))
    (λ e. turns_behind u us a b (target_turns us a b (subst (IsIn b) e.1 i)))
    (targets_cases u us a)

pub turns_target : (us : List UnitRule) (p a b : ℕ) → Turns us p a b → IsIn b (targets_of us a)
turns_target [] p a b t = absurd t.1
turns_target (u ∷ us) p a b t = ⊎_elim
    (λ e. subst (IsIn b) (sym e.1) (⊎_elim (λ (d : t.0 ≡ u). inl (sym t.4 ∙ ap (λ (w : UnitRule). w.target.0) d)) (λ i. inr (turns_target us p a b (t.0, i, t.2, t.3, t.4))) t.1))
    (λ e. subst (IsIn b) (sym e.1) (⊎_elim (λ (d : t.0 ≡ u). absurd (e.0 (sym (ap (λ (w : UnitRule). w.head.0) d) ∙ t.3))) (λ i. turns_target us p a b (t.0, i, t.2, t.3, t.4)) t.1))
    (targets_cases u us a)

pub targets_below : (n : ℕ) (us : List UnitRule) → AreBelow n us → AreInRange (targets_of us) n
targets_below n us below a b i = let t = target_turns us a b i in subst (λ k. k < n) t.1.4 (below t.1.0 t.1.1).1

-- a graph of unit productions has edges between its vertices alone
pub graph_in_range : (n : ℕ) (us : List UnitRule) (graph : List (Vec ℕ Global)) → AreBelow n us → IsGraphOf us graph → length graph ≡ n → InRange graph
graph_in_range n us graph below is count a b i = subst (λ k. b < k) (sym count) (targets_below n us below a b (subst (IsIn b) (is a) i))

-- a module that no unit production has as its head leads nowhere
pub targets_past : (n : ℕ) (us : List UnitRule) → AreBelow n us → (m : ℕ) → n ≤ m → targets_of us m ≡ []
targets_past n [] below m h = refl
targets_past n (u ∷ us) below m h = ⊎_elim
    (λ e. absurd (omega (arith, (below u (inl refl)).0, e.0)))
    (λ e. e.1 ∙ targets_past n us (λ v i. below v (inr i)) m h)
    (targets_cases u us m)

-- where a path along unit productions leads, a route of as many modules does
abbrev pub leads_route : (us : List UnitRule) (a : ℕ) (ps : List ℕ) (b : ℕ) → LeadTo us a ps b → (ws : List ℕ) × (length ws ≡ length ps) × IsRoute (targets_of us) a ws b
leads_route us a [] b l = ([], refl, l)
leads_route us a (p ∷ ps) b l = let r = leads_route us l.0 ps b l.2 in (l.0 ∷ r.0, ap suc r.1, (turns_target us p a l.0 l.1, r.2))

-- the first unit productions along a route are a path of as many
pub turned_leads : (us : List UnitRule) (a : ℕ) (ws ps : List ℕ) (b : ℕ) → IsRoute (targets_of us) a ws b → AreFirstTurns us a ws ps → (length ps ≡ length ws) × LeadTo us a ps b
turned_leads us a [] [] b r t = (refl, r)
turned_leads us a [] (p ∷ ps) b r t = absurd t
turned_leads us a (w ∷ ws) [] b r t = absurd t
turned_leads us a (w ∷ ws) (p ∷ ps) b r t = let l = turned_leads us w ws ps b r.1 t.1 in (ap suc l.0, (w, t.0.turns, l.1))

-- a unit production that is not the first is one of the rest
turns_rest : (u : UnitRule) (us : List UnitRule) (r a b : ℕ) → Turns (u ∷ us) r a b → (u.head.0 ≡ a → u.target.0 ≡ b → ⊥) → Turns us r a b
turns_rest u us r a b s n =
    ⊎_elim (λ (d : s.0 ≡ u). absurd (n (sym (ap (λ (v : UnitRule). v.head.0) d) ∙ s.3) (sym (ap (λ (v : UnitRule). v.target.0) d) ∙ s.4))) (λ i. (s.0, i, s.2, s.3, s.4)) s.1

first_rest : (u : UnitRule) (us : List UnitRule) (p a b : ℕ) → IsFirstTurn (u ∷ us) a b p → (u.head.0 ≡ a → u.target.0 ≡ b → ⊥) → IsFirstTurn us a b p
first_rest u us p a b f n = record { turns = turns_rest u us p a b f.turns n; first = λ r s. f.first r (s.0, inr s.1, s.2, s.3, s.4) }

-- an earlier target is that of a lesser unit production
earlier_lesser : (us : List UnitRule) → AreInOrder us → (a w x p q : ℕ) → IsFirstTurn us a w p → Turns us q a x → place_of w (targets_of us a) < place_of x (targets_of us a) → p < q
earlier_lesser [] order a w x p q f t l = absurd t.1
earlier_lesser (u ∷ us) order a w x p q f t l =
    let rest = λ (n : u.head.0 ≡ a → u.target.0 ≡ w → ⊥) (m : u.head.0 ≡ a → u.target.0 ≡ x → ⊥) (k : place_of w (targets_of us a) < place_of x (targets_of us a)).
    earlier_lesser us order.1 a w x p q (first_rest u us p a w f n) (turns_rest u us q a x t m) k in
    ⊎_elim
    (λ e. here e.0 rest (subst (λ row. place_of w row < place_of x row) e.1 l))
    (λ e. rest (λ h d. e.0 h) (λ h d. e.0 h) (subst (λ row. place_of w row < place_of x row) e.1 l))
    (targets_cases u us a)
  where
    here : u.head.0 ≡ a → ((u.head.0 ≡ a → u.target.0 ≡ w → ⊥) → (u.head.0 ≡ a → u.target.0 ≡ x → ⊥) → place_of w (targets_of us a) < place_of x (targets_of us a) → p < q)
        → place_of w (u.target.0 ∷ targets_of us a) < place_of x (u.target.0 ∷ targets_of us a) → p < q
    here h rest k = ⊎_elim
        (λ c. absurd (omega (arith, c.1)))
        (λ c. ⊎_elim
        (λ d.
        let least = f.first u.number.0 (u, inl refl, refl, h, sym d.0) in
        let s = turns_rest u us q a x t (λ g e. c.0 (sym e)) in
        let more = order.0 s.0 s.1 in
        omega (arith, s.2))
        (λ d. rest (λ g e. d.0 (sym e)) (λ g e. c.0 (sym e)) (omega (arith, c.1, d.1)))
        (place_cases w u.target.0 (targets_of us a)))
        (place_cases x u.target.0 (targets_of us a))

-- the first unit productions along the route that is first by its choices are first by their numbers
pub turned_first : (us : List UnitRule) → AreInOrder us → (a : ℕ) (ws ps : List ℕ) (b c : ℕ) (qs : List ℕ) → IsRoute (targets_of us) a ws b → AreFirstTurns us a ws ps → (l : LeadTo us a qs c)
    → IsFirstOf (choices_of (targets_of us) a ws) (choices_of (targets_of us) a (leads_route us a qs c l).0) → IsFirstOf ps qs
turned_first us order a [] [] b c qs r t l f = tt
turned_first us order a [] (p ∷ ps) b c qs r t l f = absurd t
turned_first us order a (w ∷ ws) [] b c qs r t l f = absurd t
turned_first us order a (w ∷ ws) (p ∷ ps) b c [] r t l f = absurd f
turned_first us order a (w ∷ ws) (p ∷ ps) b c (q ∷ qs) r t l (inl k) = inl (earlier_lesser us order a w l.0 p q t.0 l.1 k)
turned_first us order a (w ∷ ws) (p ∷ ps) b c (q ∷ qs) r t l (inr f) =
    let same : w ≡ l.0 = place_one w l.0 (targets_of us a) r.0 (turns_target us q a l.0 l.1) f.0 in
    let least = t.0.first q (subst (Turns us q a) (sym same) l.1) in
    ⊎_elim
    (λ k. inl k)
    (λ k. inr (omega arith, turned_first us order l.0 ws ps b c qs (subst (λ v. IsRoute (targets_of us) v ws b) same r.1) (subst (λ v. AreFirstTurns us v ws ps) same t.1) l.2 (subst (λ v. IsFirstOf (choices_of (targets_of us) v ws) (choices_of (targets_of us) l.0 (leads_route us l.0 qs c l.2).0)) same f.1)))
    (cases_lt p q)

-- a step of a route leads to one of the targets of the module before it
pub route_step : (row : ℕ → List ℕ) (a b : ℕ) (ws : List ℕ) (k : ℕ) → IsRoute row a ws b → k < length ws → IsIn (get_or ws k 0) (row (end_of a (take k ws)))
route_step row a b [] k r h = absurd (omega arith)
route_step row a b (w ∷ ws) zero r h = r.0
route_step row a b (w ∷ ws) (suc k) r h = let l : k < length ws = omega arith in route_step row w b ws k r.1 l

-- one step more
pub turns_more : (us : List UnitRule) (a : ℕ) (ws ps : List ℕ) (w p : ℕ) → AreFirstTurns us a ws ps → IsFirstTurn us (end_of a ws) w p → AreFirstTurns us a (ws ++ w ∷ []) (ps ++ p ∷ [])
turns_more us a [] [] w p t f = (f, tt)
turns_more us a [] (q ∷ ps) w p t f = absurd t
turns_more us a (v ∷ ws) [] w p t f = absurd t
turns_more us a (v ∷ ws) (q ∷ ps) w p t f = (t.0, turns_more us v ws ps w p t.1 f)

-- the first of the list that leads from one module to another has the least number of these
pub first_at : (us : List UnitRule) → AreInOrder us → (k a b : ℕ) (d : UnitRule) → k < length us → ((u : UnitRule) → IsIn u (take k us) → u.head.0 ≡ a → u.target.0 ≡ b → ⊥)
    → (get_or us k d).head.0 ≡ a → (get_or us k d).target.0 ≡ b → IsFirstTurn us a b (get_or us k d).number.0
first_at [] order k a b d h before e f = absurd (omega arith)
first_at (u ∷ us) order zero a b d h before e f = record {
  turns = (u, inl refl, refl, e, f);
  first = λ q t. ⊎_elim
      (λ (same : t.0 ≡ u). omega (arith, ap (λ (v : UnitRule). v.number.0) same, t.2))
      (λ i. let l = order.0 t.0 i in omega (arith, t.2))
      t.1;
}
first_at (u ∷ us) order (suc k) a b d h before e f =
    let l : k < length us = omega arith in
    let r = first_at us order.1 k a b d l (λ v i. before v (inr i)) e f in
    let not = before u (inl refl) in
    record {
      turns = (r.turns.0, inr r.turns.1, r.turns.2, r.turns.3, r.turns.4);
      first = λ q t. r.first q (turns_rest u us q a b t not);
    }
