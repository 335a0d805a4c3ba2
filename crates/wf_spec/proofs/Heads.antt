-- The productions that a module heads, and what stands in their bodies.
use Rattle.std.proofs.Common.{◌≡◌, ◌↔◌, ℕ, suc, ◌<◌, Bool, true, false, not, IsTrue, List, [], ◌∷◌, length, get_or, map, flat_map, refl, sym, ap, ◌∙◌, subst, inl, arith, true≢false}
use Rattle.std.specs.Prelude.{◌==◌}
use Rattle.std.proofs.lemmas.Bool.{eqb-true, eq-eqb}
use Rattle.std.proofs.lemmas.Bool.Decides.{nat_tests}
use Rattle.wf_model.specs.declared.numbers.ProdNo.{ProdNo}
use Rattle.wf_model.specs.Lists.{IsIn, numbers_from}
use Rattle.wf_model.specs.Composite.{is_composite}
use Rattle.wf_model.specs.Grammar.{Grammar, head_of, body_of, IsComposite, IsProductionOf}
use Rattle.wf_model.specs.Proper.{Makes}
use Rattle.wf_model.proofs.Lists.{in_filter, in_filter_from, in_flat_map, in_flat_map_from, in_map, at_in, is_at}
use Rattle.wf_model.proofs.Composites.{composite_is, atomic_is}
use Rattle.wf_model.proofs.Level.{in_numbers, numbers_in}
use Rattle.wf_spec.specs.Tables.{productions_of}

pub headed_gives : (g : Grammar) (m p : ℕ) → IsIn p (productions_of g m) → IsProductionOf g p m
headed_gives g m p i =
    let f = in_filter_from (λ k. head_of g k == m) p (numbers_from 0 (length g.productions)) i in
    (omega (arith, in_numbers p 0 (length g.productions) f.0), eqb-true (head_of g p) m f.1)

pub headed_from : (g : Grammar) (m p : ℕ) → IsProductionOf g p m → IsIn p (productions_of g m)
headed_from g m p h =
    let l = h.0 in
    in_filter (λ k. head_of g k == m) p (numbers_from 0 (length g.productions)) (numbers_in p 0 (length g.productions) (omega arith) (omega arith)) (eq-eqb (head_of g p) m h.1)

-- each of a list of numbers is of such a production
pub headed_at : (g : Grammar) (m : ℕ) (ps : List ProdNo) (k : ℕ) (d : ProdNo) → map (λ (p : ProdNo). p.0) ps ≡ productions_of g m → k < length ps → IsProductionOf g (get_or ps k d).0 m
headed_at g m ps k d e h = headed_gives g m (get_or ps k d).0 (subst (IsIn (get_or ps k d).0) e (in_map (λ (p : ProdNo). p.0) (get_or ps k d) ps (at_in (get_or ps k d) k ps (is_at k ps d h))))

-- the modules of all bodies of a module
pub bodies_make : (g : Grammar) (m k : ℕ) → IsIn k (flat_map (body_of g) (productions_of g m)) ↔ Makes g m k
bodies_make g m k = (
  λ i. (let r = in_flat_map_from (body_of g) k (productions_of g m) i in (r.0, headed_gives g m r.0 r.1, r.2)),
  λ d. in_flat_map (body_of g) d.0 k (productions_of g m) (headed_from g m d.0 d.1) d.2,
)

-- a module is composite where it heads some production
pub composite_told : (g : Grammar) (m : ℕ) (ps : List ProdNo) (empty : Bool) → empty ≡ (length ps == 0) → map (λ (p : ProdNo). p.0) ps ≡ productions_of g m → IsTrue (not empty) ↔ IsComposite g m
composite_told g m [] empty e is = (
  λ t. absurd (true≢false (sym t ∙ ap not e)),
  λ d. absurd (subst (IsIn d.0) (sym is) (headed_from g m d.0 d.1)),
)
composite_told g m (p ∷ ps) empty e is = (
  λ t. (p.0, headed_gives g m p.0 (subst (IsIn p.0) is (inl refl))),
  λ d. ap not (e ∙ some_there (suc (length ps)) (omega arith)),
)
  where
    some_there : (n : ℕ) → 0 < n → (n == 0) ≡ false
    some_there n h = grind (arith, nat_tests)

-- and so its test says
pub composite_tested : (g : Grammar) (m : ℕ) (ps : List ProdNo) (empty : Bool) → empty ≡ (length ps == 0) → map (λ (p : ProdNo). p.0) ps ≡ productions_of g m → not empty ≡ is_composite g m
composite_tested g m ps empty e is = by (composite_told g m ps empty e is) (not empty) refl
  where
    by : IsTrue (not empty) ↔ IsComposite g m → (b : Bool) → not empty ≡ b → not empty ≡ is_composite g m
    by told true t = t ∙ sym (composite_is g m (told.0 t))
    by told false t = t ∙ sym (atomic_is g m (λ d. true≢false (sym (told.1 d) ∙ t)))
