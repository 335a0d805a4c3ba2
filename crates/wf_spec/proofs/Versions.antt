-- Earlier versions of a grammar, by a test of their productions.
use Rattle.std.proofs.Common.{◌≡◌, ℕ, ◌<◌, ◌≤◌, Bool, true, ◌&&◌, nat_lt, List, [], map, length, take, sym, ap, ◌∙◌, subst}
use Rattle.std.specs.List.{list_all}
use Rattle.std.proofs.lemmas.Bool.{ltb-true, lt-ltb, and_from}
use Rattle.std.proofs.lemmas.List.{get_or-take, length-take-le, take-map}
use Rattle.std.proofs.lemmas.List.Folds.{list_all-map}
use Rattle.wf_model.specs.declared.body.Position.{Position as PositionHeld}
use Rattle.wf_model.specs.Lists.{IsIn}
use Rattle.wf_model.specs.Grammar.{Grammar, Position, Production, production_at}
use Rattle.wf_model.specs.Meaning.{position_of}
use Rattle.wf_model.specs.Versions.{IsVersion}
use Rattle.wf_model.proofs.Lists.{at_below, at_in, at_is, in_at, is_at}
use Rattle.wf_model.proofs.Tests.{and_left, and_right}
use Rattle.wf_spec.specs.Bodies.{modules_at}
use Rattle.wf_spec.specs.Held.{HeldProduction}
use Rattle.wf_spec.proofs.Tests.{all_gives, all_from}

-- the head of a production and the modules of its body are among the first m modules, as a test
abbrev pub has_first : ℕ → Production → Bool
has_first m r = nat_lt r.head m && list_all (λ k. nat_lt k m) (modules_at r.positions)

-- it is that of the positions as they are held, where the head is one of these
pub first_tested : (m : ℕ) (r : Production) (held : List PositionHeld) → r.head < m → map position_of held ≡ r.positions → list_all (λ (q : PositionHeld). nat_lt q.module.0 m) held ≡ has_first m r
first_tested m r held below are =
    sym (list_all-map (λ (q : Position). nat_lt q.module_no m) position_of held)
    ∙ (ap (list_all (λ (q : Position). nat_lt q.module_no m)) are
    ∙ (sym (list_all-map (λ k. nat_lt k m) (λ (q : Position). q.module_no) r.positions) ∙ sym (ap (λ b. b && list_all (λ k. nat_lt k m) (modules_at r.positions)) (lt-ltb r.head m below))))

module _ (g : Grammar) (m p : ℕ) (within : p ≤ length g.productions) where
  many : length (take p g.productions) ≡ p
  many = length-take-le p g.productions within

  -- a production of a number below p is one of the first p, and the other way round
  one_of_first : (q : ℕ) → q < p → IsIn (production_at g q) (take p g.productions)
  one_of_first q h =
      let none : Production = record { head = 0; positions = []; edges = []; entries = []; exits = [] } in
      subst (λ r. IsIn r (take p g.productions)) (get_or-take p g.productions q none h)
      (at_in _ q (take p g.productions) (is_at q (take p g.productions) none (subst (λ n. q < n) (sym many) h)))

  first_number : (r : Production) → IsIn r (take p g.productions) → (q : ℕ) × (q < p) × (production_at g q ≡ r)
  first_number r i =
      let none : Production = record { head = 0; positions = []; edges = []; entries = []; exits = [] } in
      let k = in_at r (take p g.productions) i in
      let h : k.0 < p = subst (λ n. k.0 < n) many (at_below r k.0 (take p g.productions) k.1) in
      (k.0, h, sym (get_or-take p g.productions k.0 none h) ∙ at_is r k.0 (take p g.productions) none k.1)

  -- where the first p productions pass the test they make a version
  pub passes_gives : m ≤ length g.modules → g.start < m → list_all (has_first m) (take p g.productions) ≡ true → IsVersion g m p
  passes_gives few start pass =
      let tested : (q : ℕ) → q < p → has_first m (production_at g q) ≡ true = λ q h. all_gives (has_first m) (take p g.productions) pass (production_at g q) (one_of_first q h) in
      let below = λ (k : ℕ). nat_lt k m in
      record {
        modules = few;
        productions = within;
        start = start;
        heads = λ q h. ltb-true _ m (and_left (nat_lt (production_at g q).head m) (list_all below (modules_at (production_at g q).positions)) (tested q h));
        bodies = λ q h k i.
            ltb-true k m (all_gives below (modules_at (production_at g q).positions) (and_right (nat_lt (production_at g q).head m) (list_all below (modules_at (production_at g q).positions)) (tested q h)) k i);
      }

  -- and those of a version pass it
  pub version_passes : IsVersion g m p → list_all (has_first m) (take p g.productions) ≡ true
  version_passes is = all_from (has_first m) (take p g.productions)
      (λ r i. let q = first_number r i in
      subst (λ (z : Production). has_first m z ≡ true) q.2
      (and_from (nat_lt (production_at g q.0).head m) (list_all (λ k. nat_lt k m) (modules_at (production_at g q.0).positions)) (lt-ltb _ m (is.heads q.0 q.1))
      (all_from (λ k. nat_lt k m) (modules_at (production_at g q.0).positions) (λ k j. lt-ltb k m (is.bodies q.0 q.1 k j)))))

-- the test over productions as they are held
pub held_pass : (g : Grammar) (m p : ℕ) (held : List HeldProduction) → map (λ (r : HeldProduction). r.core) held ≡ g.productions
    → list_all (λ (r : HeldProduction). has_first m r.core) (take p held) ≡ list_all (has_first m) (take p g.productions)
held_pass g m p held are =
    sym (list_all-map (has_first m) (λ (r : HeldProduction). r.core) (take p held))
    ∙ ap (list_all (has_first m)) (sym (take-map (λ (r : HeldProduction). r.core) p held) ∙ ap (take p) are)
