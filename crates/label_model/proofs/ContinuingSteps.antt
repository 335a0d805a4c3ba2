-- The continuing step as it is computed is the one of the definition.
use Rattle.std.proofs.Common.{◌≡◌, ◌≢◌, ℕ, zero, suc, ◌<◌, true, false, cond, eqb, [], length, map, Option, Some, None, refl, sym, ap, ◌∙◌, subst, ⊎_elim, arith, true≢false}
use Rattle.std.proofs.lemmas.Bool.{eqb-true, eq-eqb, and_parts, and_from}
use Rattle.wf_model.specs.Lists.{IsIn, numbers_from, Walk, here, onward}
use Rattle.wf_model.specs.Grammar.{Grammar, head_of, body_of}
use Rattle.wf_model.specs.WellFormed.{IsWellFormed}
use Rattle.wf_model.specs.Proper.{Makes, Derives}
use Rattle.wf_model.specs.Reach.{Step, target_of}
use Rattle.wf_model.specs.Linear.{IsStepOf, Continues}
use Rattle.wf_model.proofs.Lists.{in_map, in_map_from, in_flat_map, in_flat_map_from, in_at, at_below, at_is}
use Rattle.wf_model.proofs.Level.{in_numbers, numbers_in}
use Rattle.wf_model.proofs.Walks.{walk-append, walk_one}
use Rattle.wf_model.proofs.Going.{step_makes}
use Rattle.label_model.specs.Continuing.{derives, steps_of, continuing, is_step, continues, next_by, after}
use Rattle.label_model.specs.ContinuingLaws.{ContinuingLaw}
use Rattle.label_model.proofs.Finding.{find_gives, find_none, cases_option}
use Rattle.label_model.proofs.Deriving.{if_head, head_if, derives_gives, derives_from}

pub steps_gives : (g : Grammar) (m : ℕ) (s : Step) → IsIn s (steps_of g m) → IsStepOf g m s
steps_gives g m s h =
    let r = in_flat_map_from (λ p. cond (eqb (head_of g p) m) (map (λ k. record { production = p; position = k }) (numbers_from 0 (length (body_of g p)))) []) s (numbers_from 0 (length g.productions)) h in
    let q = if_head s _ (eqb (head_of g r.0) m) r.2 in
    let w = in_map_from (λ k. record { production = r.0; position = k }) s (numbers_from 0 (length (body_of g r.0))) q.0 in
    let i : r.0 < length g.productions = let z = in_numbers r.0 0 (length g.productions) r.1 in omega arith in
    let j : w.0 < length (body_of g r.0) = let z = in_numbers w.0 0 (length (body_of g r.0)) w.1 in omega arith in
    let x : ◌≡◌ {A = Step} (record { production = r.0; position = w.0 }) s = sym w.2 in
    subst (λ z. IsStepOf g m z) x (record { in_range = i; head = eqb-true (head_of g r.0) m q.1; position = j })

pub steps_from_step : (g : Grammar) (m : ℕ) (s : Step) → IsStepOf g m s → IsIn s (steps_of g m)
steps_from_step g m s h =
    let i = h.in_range in
    let j = h.position in
    in_flat_map (λ p. cond (eqb (head_of g p) m) (map (λ k. record { production = p; position = k }) (numbers_from 0 (length (body_of g p)))) []) s.production s (numbers_from 0 (length g.productions)) (numbers_in s.production 0 (length g.productions) (omega arith) (omega arith))
    (head_if s _ (eqb (head_of g s.production) m) (in_map (λ k. record { production = s.production; position = k }) s.position (numbers_from 0 (length (body_of g s.production))) (numbers_in s.position 0 (length (body_of g s.production)) (omega arith) (omega arith)))
    (eq-eqb (head_of g s.production) m h.head))

pub continuing_is : (g : Grammar) (m : ℕ) (s : Step) → continuing g m ≡ Some s → Continues g m s
unfolding continuing
continuing_is g m s h =
    let r = find_gives (λ s. derives g (target_of g s) m) (steps_of g m) s h in
    (steps_gives g m s r.0, derives_gives g (target_of g s) m r.1)

pub continuing_none : (g : Grammar) → IsWellFormed g → (m : ℕ) → continuing g m ≡ None → (s : Step) → Continues g m s → ⊥
unfolding continuing
continuing_none g wf m h s c = find_none (λ s. derives g (target_of g s) m) (steps_of g m) h s (steps_from_step g m s c.0) (derives_from g wf (target_of g s) m c.1)

pub continuing_found : (g : Grammar) → IsWellFormed g → (m : ℕ) (s : Step) → Continues g m s → (t : Step) × (continuing g m ≡ Some t)
continuing_found g wf m s c = ⊎_elim (λ e. absurd (continuing_none g wf m e s c)) (λ q. q) (cases_option (continuing g m))

pub continuing_law : ContinuingLaw
continuing_law g wf lin m s = (
  (λ e. continuing_is g m s e),
  (λ c. let q = continuing_found g wf m s c in q.1 ∙ ap Some (lin m q.0 s (continuing_is g m q.0 q.1) c)),
)

-- what stands in a body of a module is the target of a step of it
pub step_to : (g : Grammar) (a b : ℕ) → Makes g a b → (s : Step) × IsStepOf g a s × (target_of g s ≡ b)
step_to g a b h =
    let k = in_at b (body_of g h.0) h.2 in
    (record { production = h.0; position = k.0 }, record { in_range = h.1.0; head = h.1.1; position = at_below b k.0 (body_of g h.0) k.1 }, at_is b k.0 (body_of g h.0) 0 k.1)

-- a module that derives itself by a step or more has a continuing step
pub on_cycle : (g : Grammar) → IsWellFormed g → (a b : ℕ) → Makes g a b → Derives g b a → (t : Step) × (continuing g a ≡ Some t)
on_cycle g wf a b h w =
    let s = step_to g a b h in
    continuing_found g wf a s.0 (s.1, subst (λ z. Derives g z a) (sym s.2) w)

-- the target of a continuing step has one
pub target_continues : (g : Grammar) → IsWellFormed g → (m : ℕ) (s : Step) → continuing g m ≡ Some s → (t : Step) × (continuing g (target_of g s) ≡ Some t)
target_continues g wf m s e =
    let c = continuing_is g m s e in
    go (target_of g s) c.1 (step_makes g m s c.0)
  where
    go : (k : ℕ) → Derives g k m → Makes g m k → (t : Step) × (continuing g k ≡ Some t)
    go k w mk = first w mk
      where
        first : {a b : ℕ} → Walk (Makes g) a b → Makes g b a → (t : Step) × (continuing g a ≡ Some t)
        first (here {x = x}) h = on_cycle g wf x x h here
        first (onward {x = x} {y = y} {z = z} r w) h = on_cycle g wf x y r (walk-append w (walk_one h))

-- what the test says
pub continues_gives : (g : Grammar) (m : ℕ) (s : Step) → continues g m s ≡ true → continuing g m ≡ Some s
continues_gives g m s h = go (continuing g m) h
  where
    go : (o : Option Step) → is_step o s ≡ true → o ≡ Some s
    go None e = absurd (true≢false (sym e))
    go (Some t) e =
        let r = and_parts (eqb t.production s.production) (eqb t.position s.position) e in
        let p = eqb-true t.production s.production r.0 in
        let q = eqb-true t.position s.position r.1 in
        λ i. Some (record { production = p i; position = q i })

pub continues_from : (g : Grammar) (m : ℕ) (s : Step) → continuing g m ≡ Some s → continues g m s ≡ true
continues_from g m s h = ap (λ o. is_step o s) h ∙ and_from (eqb s.production s.production) (eqb s.position s.position) (eq-eqb s.production s.production refl) (eq-eqb s.position s.position refl)

pub continues_not : (g : Grammar) (m : ℕ) (s : Step) → continues g m s ≡ false → continuing g m ≢ Some s
continues_not g m s h e = true≢false (sym (continues_from g m s e) ∙ h)

-- one continuing step more
pub after_more : (g : Grammar) (c m : ℕ) → after g (suc c) m ≡ next_by g (after g c m) (continuing g (after g c m))
after_more g zero m = refl
after_more g (suc c) m = after_more g c (next_by g m (continuing g m))
