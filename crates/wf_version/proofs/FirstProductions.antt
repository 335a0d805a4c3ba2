-- The first production of a module tells whether the module is composite in a version.
use Rattle.std.proofs.Common.{◌≡◌, ◌↔◌, ℕ, ◌<◌, ◌≤◌, false, nat_lt, IsTrue, List, [], ◌∷◌, map, length, get_or, refl, sym, ◌∙◌, subst, inl, ⊎_elim, arith, true≢false}
use Rattle.std.specs.Prelude.{◌==◌}
use Rattle.std.proofs.lemmas.Bool.Decides.{Decides-ltb}
use Rattle.wf_model.specs.declared.numbers.ProdNo.{ProdNo}
use Rattle.wf_model.specs.Lists.{IsIn, numbers_from}
use Rattle.wf_model.specs.Grammar.{Grammar, head_of, IsComposite, IsProductionOf}
use Rattle.wf_model.specs.Versions.{version_of, IsVersion}
use Rattle.version_model.proofs.SameParts.{count_productions, in_version, in_grammar, head_same}
use Rattle.wf_spec.specs.Tables.{productions_of}
use Rattle.wf_spec.proofs.Heads.{headed_gives, headed_from}
use Rattle.wf_recur.proofs.Order.{InOrder, numbers_in_order, filter_in_order}

-- no production of a module stands before the first
first_least : (g : Grammar) (k q first : ℕ) (others : List ℕ) → first ∷ others ≡ productions_of g k → IsProductionOf g q k → first ≤ q
first_least g k q first others e h = ⊎_elim (λ (s : q ≡ first). omega arith) (λ i. (let l = order.0 q i in omega arith)) in_list
  where
    order : InOrder (λ (a b : ℕ). a < b) (first ∷ others)
    order = subst (InOrder (λ (a b : ℕ). a < b)) (sym e) (filter_in_order (λ (a b : ℕ). a < b) (λ z. head_of g z == k) (numbers_from 0 (length g.productions)) (numbers_in_order 0 (length g.productions)))

    in_list : IsIn q (first ∷ others)
    in_list = subst (IsIn q) (sym e) (headed_from g k q h)

module _ (g : Grammar) (m p : ℕ) (is : IsVersion g m p) (k : ℕ) where
  -- a module that is composite in the version has a production of the version
  production_up : IsComposite (version_of g m p) k → (q : ℕ) × (q < p) × IsProductionOf g q k
  production_up c =
      let small = in_version g m p is c.0 c.1.0 in
      (c.0, small, (in_grammar g m p is c.0 small, sym (head_same g m p is c.0 small) ∙ c.1.1))

  first_tells : (first : ℕ) (others : List ℕ) → first ∷ others ≡ productions_of g k → (first < p) ↔ IsComposite (version_of g m p) k
  first_tells first others e = (
    λ small. (first, (subst (λ z. first < z) (sym (count_productions g m p is)) small, head_same g m p is first small ∙ (headed_gives g k first (subst (IsIn first) e (inl refl))).1)),
    λ c. (let r = production_up c in let l = first_least g k r.0 first others e r.2 in let s = r.1 in omega arith),
  )

  -- its first production tells whether it is, as it is held
  pub first_by_held : (ps : List ProdNo) (d : ProdNo) → 0 < length ps → map (λ (q : ProdNo). q.0) ps ≡ productions_of g k → IsTrue (nat_lt (get_or ps 0 d).0 p) ↔ IsComposite (version_of g m p) k
  first_by_held [] d some e = absurd (omega arith)
  first_by_held (q ∷ ps) d some e =
      let both = first_tells q.0 (map (λ (r : ProdNo). r.0) ps) e in
      let test = Decides-ltb q.0 p in
      (λ t. both.0 (test.0 t), λ c. test.1 (both.1 c))

  -- a module without productions is not
  pub none_by_held : (ps : List ProdNo) → length ps ≡ 0 → map (λ (q : ProdNo). q.0) ps ≡ productions_of g k → IsTrue false ↔ IsComposite (version_of g m p) k
  none_by_held [] none e = (
    λ t. absurd (true≢false (sym t)),
    λ c. (let r = production_up c in absurd (subst (IsIn r.0) (sym e) (headed_from g k r.0 r.2))),
  )
  none_by_held (q ∷ ps) none e = absurd (omega arith)

-- a module that is composite in a version is one of its modules
pub composite_below : (g : Grammar) (m p : ℕ) → IsVersion g m p → (k : ℕ) → IsComposite (version_of g m p) k → k < m
composite_below g m p is k c = let r = production_up g m p is k c in subst (λ z. z < m) r.2.1 (is.heads r.0 r.1)
