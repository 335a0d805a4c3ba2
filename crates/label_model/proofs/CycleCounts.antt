-- The cycles that are counted are those that are numbered.
use Rattle.std.proofs.Common.{◌≡◌, ℕ, ◌<◌, ◌≤◌, ◌&&◌, Bool, true, false, List, length, filter, Some, is_some, refl, sym, ap, ◌∙◌, subst, ⊎_elim, arith, true≢false}
use Rattle.std.proofs.lemmas.Bool.{and_parts, and_from, cases_lt, not-true, not_from_false}
use Rattle.std.proofs.lemmas.List.Sums.{length-filter}
use Rattle.wf_model.specs.Lists.{some, numbers_from, Walk, here, onward}
use Rattle.wf_model.specs.Grammar.{Grammar}
use Rattle.wf_model.specs.WellFormed.{IsWellFormed}
use Rattle.wf_model.specs.Proper.{Makes, Derives}
use Rattle.wf_model.specs.Reach.{Step}
use Rattle.wf_model.specs.Linear.{IsLinear, GoesOn, IsLeast, AreCycles}
use Rattle.wf_model.proofs.Lists.{in_filter_from, some_from, some_gives}
use Rattle.wf_model.proofs.Level.{in_numbers, numbers_in}
use Rattle.wf_model.proofs.Walks.{walk-append, walk_one}
use Rattle.wf_model.proofs.Going.{goes_derives, makes_goes}
use Rattle.label_model.specs.Continuing.{derives, continuing, is_least}
use Rattle.label_model.specs.Bound.{cycles}
use Rattle.label_model.specs.ContinuingLaws.{CyclesLaw}
use Rattle.label_model.proofs.Differing.{no_more, no_more_below, in_order_differ, numbers_differ, differ_filter}
use Rattle.label_model.proofs.Finding.{cases_option}
use Rattle.label_model.proofs.Deriving.{derives_gives, derives_from}
use Rattle.label_model.proofs.ContinuingSteps.{continuing_is, continuing_found}

-- along a cycle each module derives those before it
goes_back : (g : Grammar) {a b : ℕ} → Walk (GoesOn g) a b → Derives g b a
goes_back g here = here
goes_back g (onward {x = x} {y = y} r w) = walk-append (goes_back g w) (subst (λ z. Derives g z x) r.2 r.1.1)

module _ (g : Grammar) (wf : IsWellFormed g) (lin : IsLinear g) where
  -- modules that derive each other are on one cycle
  derives_goes : {a b : ℕ} → Walk (Makes g) a b → Derives g b a → Walk (GoesOn g) a b
  derives_goes here back = here
  derives_goes (onward {x = x} {y = y} r w) back = onward (makes_goes g x y r (walk-append w back)) (derives_goes w (walk-append back (walk_one r)))

  -- the test by which cycles are counted
  test : ℕ → Bool
  test m = is_some (continuing g m) && is_least g m

  passes : (m : ℕ) → IsLeast g m → test m ≡ true
  unfolding test
  passes m h =
      let f = continuing_found g wf m h.0.0 h.0.1 in
      and_from (is_some (continuing g m)) (is_least g m) (ap is_some f.1) (not_from_false (some (λ k. derives g k m && derives g m k) (numbers_from 0 m)) (none (some (λ k. derives g k m && derives g m k) (numbers_from 0 m)) refl))
    where
      none : (b : Bool) → some (λ k. derives g k m && derives g m k) (numbers_from 0 m) ≡ b → some (λ k. derives g k m && derives g m k) (numbers_from 0 m) ≡ false
      none false q = q
      none true q =
          let w = some_gives (λ k. derives g k m && derives g m k) (numbers_from 0 m) q in
          let d = and_parts (derives g w.0 m) (derives g m w.0) w.2 in
          let low = in_numbers w.0 0 m w.1 in
          let high = h.1 w.0 (derives_goes (derives_gives g m w.0 d.1) (derives_gives g w.0 m d.0)) in
          absurd (omega arith)

  is_passed : (m : ℕ) → test m ≡ true → IsLeast g m
  unfolding test
  is_passed m t =
      let p = and_parts (is_some (continuing g m)) (is_least g m) t in
      let s = some_step p.0 in
      ((s.0, continuing_is g m s.0 s.1), low (not-true (some (λ k. derives g k m && derives g m k) (numbers_from 0 m)) p.1))
    where
      some_step : is_some (continuing g m) ≡ true → (s : Step) × (continuing g m ≡ Some s)
      some_step e = ⊎_elim (λ q. absurd (true≢false (sym e ∙ ap is_some q))) (λ q. q) (cases_option (continuing g m))

      low : some (λ k. derives g k m && derives g m k) (numbers_from 0 m) ≡ false → (k : ℕ) → Walk (GoesOn g) m k → m ≤ k
      low e k w = ⊎_elim
          (λ (l : k < m). absurd (true≢false (sym (some_from (λ k. derives g k m && derives g m k) k (numbers_from 0 m) (numbers_in k 0 m (omega arith) (omega arith))
          (and_from (derives g k m) (derives g m k) (derives_from g wf k m (goes_back g w)) (derives_from g wf m k (goes_derives g w)))) ∙ e)))
          (λ l. l) (cases_lt k m)

  small : (m : ℕ) → IsLeast g m → m < length g.modules
  small m h = subst (λ z. z < length g.modules) h.0.1.0.head (wf.heads h.0.0.production h.0.1.0.in_range)

  counted : (leasts : List ℕ) → AreCycles g leasts → length leasts ≡ cycles g
  unfolding test
  counted leasts h =
      let ns = numbers_from 0 (length g.modules) in
      let a = no_more_below test (length g.modules) leasts (in_order_differ leasts h.in_order) (λ m i. (small m (h.each m i), passes m (h.each m i))) in
      let b = no_more (filter test ns) leasts (differ_filter test ns (numbers_differ 0 (length g.modules))) (λ m i. h.all m (is_passed m (in_filter_from test m ns i).1)) in
      omega (arith, a, b, length-filter test ns)

pub cycles_law : CyclesLaw
cycles_law g wf lin leasts h = counted g wf lin leasts h
