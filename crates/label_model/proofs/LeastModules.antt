-- The least modules of strong components.
use Rattle.std.proofs.Common.{◌≡◌, ℕ, suc, ◌≤◌, ◌&&◌, Bool, true, false, not, eqb, [], Option, Some, None, is_some, refl, ap, subst, arith}
use Rattle.std.specs.Prelude.{find}
use Rattle.std.proofs.lemmas.Bool.{eq-eqb, and_parts, and_from, not_from_false}
use Rattle.wf_model.specs.Lists.{some, numbers_from, Walk, here, onward}
use Rattle.wf_model.specs.Grammar.{Grammar, Production, production_at, head_of}
use Rattle.wf_model.specs.WellFormed.{IsWellFormed}
use Rattle.wf_model.specs.Proper.{Makes, Derives}
use Rattle.wf_model.proofs.Lists.{some_from, some_gives, at_in, is_at}
use Rattle.wf_model.proofs.Level.{numbers_in, in_numbers}
use Rattle.wf_model.proofs.Walks.{walk-append}
use Rattle.label_model.specs.Continuing.{derives, continuing, is_least}
use Rattle.label_model.proofs.Finding.{find_gives, find_none, found_first}
use Rattle.label_model.proofs.Deriving.{derives_gives, derives_from}
use Rattle.label_model.proofs.ContinuingSteps.{on_cycle}
use Rattle.wf_model.specs.Composite.{is_composite}

-- k and m derive each other
test : Grammar → ℕ → ℕ → Bool
test g m k = derives g k m && derives g m k

-- what was found, and m where nothing was
least_by : ℕ → Option ℕ → ℕ
least_by m None = m
least_by m (Some k) = k

-- the least module of the strong component of m
pub least : Grammar → ℕ → ℕ
least g m = least_by m (find (test g m) (numbers_from 0 (suc m)))

-- k is the least module of the strong component of m
pub record IsLeastOf (g : Grammar) (m k : ℕ) : Type 0 where
  pub low : k ≤ m
  pub up : Derives g k m
  pub down : Derives g m k
  pub first : is_least g k ≡ true

module _ (g : Grammar) (wf : IsWellFormed g) where
  pub least_is : (m : ℕ) → IsLeastOf g m (least g m)
  unfolding least least_by test
  least_is m = go (find (test g m) (numbers_from 0 (suc m))) refl
    where
      go : (o : Option ℕ) → find (test g m) (numbers_from 0 (suc m)) ≡ o → IsLeastOf g m (least_by m o)
      go None e =
          let t = derives_from g wf m m here in
          absurd (find_none (test g m) (numbers_from 0 (suc m)) e m (numbers_in m 0 (suc m) (omega arith) (omega arith)) (and_from (derives g m m) (derives g m m) t t))
      go (Some k) e =
          let r = find_gives (test g m) (numbers_from 0 (suc m)) k e in
          let p = and_parts (derives g k m) (derives g m k) r.1 in
          let inside = in_numbers k 0 (suc m) r.0 in
          let up = derives_gives g k m p.0 in
          let down = derives_gives g m k p.1 in
          record {
            low = omega arith;
            up = up;
            down = down;
            first = not_from_false (some (λ j. derives g j k && derives g k j) (numbers_from 0 k)) (none up down (some (λ j. derives g j k && derives g k j) (numbers_from 0 k)) refl);
          }
        where
          none : Derives g k m → Derives g m k → (b : Bool) → some (λ j. derives g j k && derives g k j) (numbers_from 0 k) ≡ b → some (λ j. derives g j k && derives g k j) (numbers_from 0 k) ≡ false
          none up down false q = q
          none up down true q =
              let w = some_gives (λ j. derives g j k && derives g k j) (numbers_from 0 k) q in
              let small = in_numbers w.0 0 k w.1 in
              let d = and_parts (derives g w.0 k) (derives g k w.0) w.2 in
              let passes = and_from (derives g w.0 m) (derives g m w.0)
              (derives_from g wf w.0 m (walk-append (derives_gives g w.0 k d.0) up))
              (derives_from g wf m w.0 (walk-append down (derives_gives g k w.0 d.1))) in
              absurd (found_first (test g m) 0 (suc m) k e w.0 (omega arith) (omega arith) passes)

  -- modules that do not derive each other have different least modules
  pub apart : (a b : ℕ) → (Derives g b a → ⊥) → least g a ≡ least g b → ⊥
  apart a b not e = not (walk-append (least_is b).down (subst (λ z. Derives g z a) e (least_is a).up))

  -- a module that makes another is composite
  pub composite_from : (a b : ℕ) → Makes g a b → is_composite g a ≡ true
  composite_from a b h =
      let d : Production = record { head = 0; positions = []; edges = []; entries = []; exits = [] } in
      some_from (λ (r : Production). eqb r.head a) (production_at g h.0) g.productions (at_in (production_at g h.0) h.0 g.productions (is_at h.0 g.productions d h.1.0)) (eq-eqb (head_of g h.0) a h.1.1)

  -- a module that derives a composite one is composite
  pub composite_up : {a b : ℕ} → Walk (Makes g) a b → is_composite g b ≡ true → is_composite g a ≡ true
  composite_up here h = h
  composite_up (onward {x = x} {y = y} r w) h = composite_from x y r

  -- of two modules that derive each other both are on a cycle, or none is
  pub cycle_up : {a b : ℕ} → Walk (Makes g) a b → Derives g b a → is_some (continuing g b) ≡ true → is_some (continuing g a) ≡ true
  cycle_up here back h = h
  cycle_up (onward {x = x} {y = y} r w) back h = let q = on_cycle g wf x y r (walk-append w back) in ap is_some q.1
