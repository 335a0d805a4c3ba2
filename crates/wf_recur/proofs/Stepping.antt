-- The steps of a module that lead back to it.
use Rattle.std.proofs.Common.{◌≡◌, ◌↔◌, ℕ, ◌+◌, ◌<◌, ◌≤◌, ◌∙◌, Bool, List, [], ◌∷◌, ◌++◌, map, filter, length, get_or, Some, refl, sym, ap, subst, inl, inr, ⊎_elim, arith, add-one, zero-add, append_assoc}
use Rattle.std.specs.Prelude.{◌==◌}
use Rattle.std.proofs.lemmas.List.{get_or-map, length-map, map-append}
use Rattle.std.proofs.lemmas.List.Elements.{filter-append}
use Rattle.wf_model.specs.declared.body.Position.{Position as PositionHeld}
use Rattle.wf_model.specs.declared.body.Step.{Step as StepHeld}
use Rattle.wf_model.specs.Meaning.{position_of}
use Rattle.wf_model.specs.Lists.{IsIn, numbers_from}
use Rattle.wf_model.specs.Grammar.{Grammar, Position, head_of, body_of}
use Rattle.wf_model.specs.WellFormed.{IsWellFormed}
use Rattle.wf_model.specs.Reach.{Step, target_of}
use Rattle.wf_model.specs.Linear.{Continues, IsOnCycle}
use Rattle.wf_model.proofs.Lists.{in_filter, in_filter_from, in_flat_map, in_flat_map_from, in_map, in_map_from, at_in, is_at}
use Rattle.wf_model.proofs.Level.{in_numbers, numbers_in}
use Rattle.wf_spec.specs.Bodies.{modules_at}
use Rattle.wf_spec.specs.Tables.{productions_of}
use Rattle.wf_recur.specs.Cycles.{step_of}
use Rattle.wf_recur.specs.Loops.{IsBefore}
use Rattle.wf_recur.specs.Reaching.{AreDerived}
use Rattle.wf_recur.specs.Steps.{steps_to, leads_back, back_steps, all_back_steps, TellsStep, AreTwoLeast}
use Rattle.wf_spec.proofs.Heads.{headed_gives, headed_from}
use Rattle.wf_recur.proofs.Order.{InOrder, numbers_in_order, filter_in_order, map_in_order, flat_in_order}
use Rattle.wf_model.proofs.NumberLists.{numbers_from-last}

pub target_below : (g : Grammar) → IsWellFormed g → (s : Step) → s.production < length g.productions → s.position < length (body_of g s.production) → target_of g s < length g.modules
target_below g w s h i = (w.bodies s.production h).modules (target_of g s) (at_in (target_of g s) s.position (body_of g s.production) (is_at s.position (body_of g s.production) 0 i))

-- the module at a position, as it is held
pub module_read : (xs : List PositionHeld) (k : ℕ) (d : PositionHeld) (ps : List Position) → map position_of xs ≡ ps → k < length (modules_at ps) → (get_or xs k d).module.0 ≡ get_or (modules_at ps) k 0
module_read xs k d ps is h =
    let l : k < length ps = omega (arith, length-map ps (λ (q : Position). q.module_no)) in
    let m : k < length xs = omega (arith, ap length is, length-map xs position_of) in
    sym (get_or-map (λ (q : Position). q.module_no) ps k (position_of d) 0 l
    ∙ ap (λ (z : List Position). (get_or z k (position_of d)).module_no) (sym is)
    ∙ ap (λ (q : Position). q.module_no) (get_or-map position_of xs k d (position_of d) m))

steps_more : (p n : ℕ) → steps_to p (n + 1) ≡ steps_to p n ++ record { production = p; position = n } ∷ []
steps_more p n =
    ap (steps_to p) (add-one n)
    ∙ ap (map step) (numbers_from-last 0 n)
    ∙ map-append step (numbers_from 0 n) ((0 + n) ∷ [])
    ∙ ap (λ k. steps_to p n ++ step k ∷ []) (zero-add n)
  where
    step : ℕ → Step
    step k = record { production = p; position = k }

-- the steps that lead back to a module, and one more if it does
pub back_more : (test : Step → Bool) (p n : ℕ) (before middle after : List Step) → middle ≡ before ++ filter test (steps_to p n) → after ≡ middle ++ filter test (record { production = p; position = n } ∷ []) → after ≡ before ++ filter test (steps_to p (n + 1))
back_more test p n before middle after is new =
    new ∙ ap (λ l. l ++ filter test (record { production = p; position = n } ∷ [])) is
    ∙ append_assoc before (filter test (steps_to p n)) (filter test (record { production = p; position = n } ∷ []))
    ∙ ap (λ l. before ++ l) (sym (ap (filter test) (steps_more p n) ∙ filter-append test (steps_to p n) (record { production = p; position = n } ∷ [])))

-- a step of a production is of that production, and to one of its positions
step_in : (p n : ℕ) (s : Step) → IsIn s (steps_to p n) → (s.production ≡ p) × (s.position < n)
step_in p n s i =
    let r = in_map_from (λ k. record { production = p; position = k }) s (numbers_from 0 n) i in
    let l = in_numbers r.0 0 n r.1 in
    let q : s.position ≡ r.0 = ap (λ (z : Step). z.position) r.2 in
    (ap (λ (z : Step). z.production) r.2, omega arith)

-- they are the continuing steps
back_continue : (g : Grammar) (rows : List (List Bool)) (m : ℕ) → IsWellFormed g → AreDerived g rows → (s : Step) → IsIn s (all_back_steps g rows m) ↔ Continues g m s
back_continue g rows m w derived s = (
  λ i.
      let r = in_flat_map_from (back_steps g rows m) s (productions_of g m) i in
      let of = headed_gives g m r.0 r.1 in
      let f = in_filter_from (leads_back g rows m) s (steps_to r.0 (length (body_of g r.0))) r.2 in
      let n = step_in r.0 (length (body_of g r.0)) s f.0 in
      let at : s.position < length (body_of g s.production) = subst (λ p. s.position < length (body_of g p)) (sym n.0) n.1 in
      let low : s.production < length g.productions = subst (λ p. p < length g.productions) (sym n.0) of.0 in
      (record { in_range = low; head = ap (head_of g) n.0 ∙ of.1; position = at }, ((derived.each (target_of g s) (target_below g w s low at)).told m).0 f.1),
  λ c.
      let p = s.production in
      let n = length (body_of g p) in
      let l = c.0.position in
      in_flat_map (back_steps g rows m) p s (productions_of g m) (headed_from g m p (c.0.in_range, c.0.head))
      (in_filter (leads_back g rows m) s (steps_to p n)
      (in_map (λ k. record { production = p; position = k }) s.position (numbers_from 0 n) (numbers_in s.position 0 n (omega arith) (omega arith)))
      (((derived.each (target_of g s) (target_below g w s c.0.in_range c.0.position)).told m).1 c.1)),
)

back_in_order : (g : Grammar) (rows : List (List Bool)) (m : ℕ) → InOrder IsBefore (all_back_steps g rows m)
back_in_order g rows m =
    flat_in_order (λ (a b : ℕ). a < b) IsBefore (back_steps g rows m) each across (productions_of g m)
    (filter_in_order (λ (a b : ℕ). a < b) (λ k. head_of g k == m) (numbers_from 0 (length g.productions)) (numbers_in_order 0 (length g.productions)))
  where
    each : (p : ℕ) → InOrder IsBefore (back_steps g rows m p)
    each p =
        filter_in_order IsBefore (leads_back g rows m) (steps_to p (length (body_of g p)))
        (map_in_order (λ (a b : ℕ). a < b) IsBefore (λ k. record { production = p; position = k }) (λ x y h. inr (refl, h)) (numbers_from 0 (length (body_of g p))) (numbers_in_order 0 (length (body_of g p))))

    of : (p : ℕ) (s : Step) → IsIn s (back_steps g rows m p) → s.production ≡ p
    of p s i = (step_in p (length (body_of g p)) s (in_filter_from (leads_back g rows m) s (steps_to p (length (body_of g p))) i).0).0

    across : (p q : ℕ) (s t : Step) → p < q → IsIn s (back_steps g rows m p) → IsIn t (back_steps g rows m q) → IsBefore s t
    across p q s t h i j = let a = of p s i in let b = of q t j in inl (omega arith)

-- a list that has exactly the continuing steps of a module
abbrev pub Lists : Grammar → ℕ → List StepHeld → Type 0
Lists g m xs = (s : Step) → IsIn s (map step_of xs) ↔ Continues g m s

-- the list of the steps that lead back, as it is held
pub back_listed : (g : Grammar) (rows : List (List Bool)) (m : ℕ) → IsWellFormed g → AreDerived g rows → (xs : List StepHeld) → map step_of xs ≡ all_back_steps g rows m → Lists g m xs × InOrder IsBefore (map step_of xs)
back_listed g rows m w derived xs e = (
  λ s. subst (λ (l : List Step). IsIn s l ↔ Continues g m s) (sym e) (back_continue g rows m w derived s),
  subst (InOrder IsBefore) (sym e) (back_in_order g rows m),
)

pub none_listed : (g : Grammar) (m : ℕ) (xs : List StepHeld) → Lists g m xs → length xs ≡ 0 → ¬ IsOnCycle g m
none_listed g m [] listed h c = (listed c.0).1 c.1
none_listed g m (x ∷ xs) listed h c = absurd (omega arith)

pub one_listed : (g : Grammar) (m : ℕ) (xs : List StepHeld) (d : StepHeld) → Lists g m xs → length xs ≡ 1 → TellsStep g m (Some (get_or xs 0 d))
one_listed g m [] d listed h = absurd (omega arith)
one_listed g m (x ∷ []) d listed h = ((listed (step_of x)).0 (inl refl), λ t c. ⊎_elim (λ e. e) (λ z. absurd z) ((listed t).1 c))
one_listed g m (x ∷ (y ∷ xs)) d listed h = absurd (omega arith)

pub two_listed : (g : Grammar) (m : ℕ) (xs : List StepHeld) (d e : StepHeld) → Lists g m xs → InOrder IsBefore (map step_of xs) → 2 ≤ length xs → AreTwoLeast g m (step_of (get_or xs 0 d)) (step_of (get_or xs 1 e))
two_listed g m [] d e listed order h = absurd (omega arith)
two_listed g m (x ∷ []) d e listed order h = absurd (omega arith)
two_listed g m (x ∷ (y ∷ xs)) d e listed order h = record {
  first_continues = (listed (step_of x)).0 (inl refl);
  second_continues = (listed (step_of y)).0 (inr (inl refl));
  in_order = order.0 (step_of y) (inl refl);
  first_least = λ s c no. ⊎_elim (λ z. absurd (no z)) (λ i. order.0 s i) ((listed s).1 c);
  second_least = λ s c no nor. ⊎_elim (λ z. absurd (no z)) (λ i. ⊎_elim (λ z. absurd (nor z)) (λ j. order.1.0 s j) i) ((listed s).1 c);
}
