-- The default view, as it is computed: it expands every composite module, and an atomic module keeps the pairs of the grammar.
use Rattle.std.proofs.Common.{◌≡◌, ℕ, ◌+◌, ◌<◌, ◌==◌, ◌&&◌, Bool, true, false, cond, List, [], ◌∷◌, length, flat_map, refl, sym, ap, ◌∙◌, subst, inl, inr, arith, true≢false}
use Rattle.std.proofs.lemmas.Bool.{and_parts, and_from, eqb-true, eq-eqb}
use Rattle.std.specs.Cmp.Derive.{one_truth}
use Rattle.wf_model.specs.Lists.{IsIn, some, numbers_from}
use Rattle.wf_model.specs.Grammar.{Grammar, Production, inputs_of, outputs_of, production_at, head_of, is_given}
use Rattle.wf_model.specs.View.{shows, IsDefaultView}
use Rattle.wf_model.specs.DefaultView.{composites, given_pairs, default_view}
use Rattle.wf_model.specs.Finishing.{ExpandsAll, ExpandsComposites}
use Rattle.wf_model.proofs.Lists.{in_map, in_map_from, in_flat_map, in_flat_map_from, some_from, some_gives, at_is, is_at, at_in, in_at, at_below}
use Rattle.wf_model.proofs.Level.{numbers_in}
use Rattle.wf_model.proofs.NumberLists.{get_numbered}

-- the default view expands every composite module
pub default_expands_all : (g : Grammar) → ExpandsAll g (default_view g)
default_expands_all g m c =
    some_from (λ k. k == m) (head_of g c.0) (composites g)
    (in_map (λ (r : Production). r.head) (production_at g c.0) g.productions (at_in _ c.0 g.productions (is_at c.0 g.productions _ c.1.0)))
    (eq-eqb (head_of g c.0) m c.1.1)

-- and no other
pub default_expands_composites : (g : Grammar) → ExpandsComposites g (default_view g)
default_expands_composites g m h =
    let r = some_gives (λ k. k == m) (composites g) h in
    let q = in_map_from (λ (r : Production). r.head) r.0 g.productions r.1 in
    let k = in_at q.0 g.productions q.1 in
    (k.0, (at_below q.0 k.0 g.productions k.1, ap (λ (z : Production). z.head) (at_is q.0 k.0 g.productions _ k.1) ∙ (sym q.2 ∙ eqb-true r.0 m r.2)))

module _ (g : Grammar) (m i o : ℕ) (hi : i < inputs_of g m) (ho : o < outputs_of g m) where
  abbrev is_it : ℕ × ℕ → Bool
  is_it e = (e.0 == i) && (e.1 == o)

  abbrev row : ℕ → List (ℕ × ℕ)
  row a = flat_map (λ b. cond (is_given g.given m a b) ((a, b) ∷ []) []) (numbers_from 0 (outputs_of g m))

  given_in : is_given g.given m i o ≡ true → some is_it (given_pairs g m) ≡ true
  given_in e =
      some_from is_it (i, o) (given_pairs g m)
      (in_flat_map row i (i, o) (numbers_from 0 (inputs_of g m)) (numbers_in i 0 (inputs_of g m) (omega arith) (omega arith))
      (in_flat_map (λ b. cond (is_given g.given m i b) ((i, b) ∷ []) []) o (i, o) (numbers_from 0 (outputs_of g m)) (numbers_in o 0 (outputs_of g m) (omega arith) (omega arith))
      (subst (λ t. IsIn {A = ℕ × ℕ} (i, o) (cond t ((i, o) ∷ []) [])) (sym e) (inl refl))))
      (and_from (i == i) (o == o) (eq-eqb i i refl) (eq-eqb o o refl))

  in_given : some is_it (given_pairs g m) ≡ true → is_given g.given m i o ≡ true
  in_given h =
      let r = some_gives is_it (given_pairs g m) h in
      let both = and_parts (r.0.0 == i) (r.0.1 == o) r.2 in
      let a = in_flat_map_from row r.0 (numbers_from 0 (inputs_of g m)) r.1 in
      let b = in_flat_map_from (λ b. cond (is_given g.given m a.0 b) ((a.0, b) ∷ []) []) r.0 (numbers_from 0 (outputs_of g m)) a.2 in
      let c = one a.0 b.0 r.0 (is_given g.given m a.0 b.0) refl b.2 in
      let ei : a.0 ≡ i = sym (ap (λ (e : ℕ × ℕ). e.0) c.1) ∙ eqb-true r.0.0 i both.0 in
      let eo : b.0 ≡ o = sym (ap (λ (e : ℕ × ℕ). e.1) c.1) ∙ eqb-true r.0.1 o both.1 in
      subst (λ x. is_given g.given m x o ≡ true) ei (subst (λ x. is_given g.given m a.0 x ≡ true) eo c.0)
    where
      one : (a b : ℕ) (e : ℕ × ℕ) (t : Bool) → is_given g.given m a b ≡ t → IsIn e (cond t ((a, b) ∷ []) []) → (is_given g.given m a b ≡ true) × (e ≡ (a, b))
      one a b e true q (inl z) = (q, z)
      one a b e true q (inr z) = absurd z
      one a b e false q z = absurd z

  given_shown : some is_it (given_pairs g m) ≡ is_given g.given m i o
  given_shown = one_truth (some is_it (given_pairs g m)) (is_given g.given m i o) in_given given_in

-- within the ports of a module the default view shows the pairs of the grammar
pub default_shows : (g : Grammar) (m i o : ℕ) → m < length g.modules → i < inputs_of g m → o < outputs_of g m → shows (default_view g) m i o ≡ is_given g.given m i o
default_shows g m i o hm hi ho =
    ap (some (λ (e : ℕ × ℕ). (e.0 == i) && (e.1 == o))) (get_numbered (given_pairs g) 0 (length g.modules) m [] hm ∙ ap (given_pairs g) (let e : 0 + m ≡ m = omega arith in e)) ∙ given_shown g m i o hi ho

pub default_is_default : (g : Grammar) → IsDefaultView g (default_view g)
default_is_default g = record {
  expanded = λ m. (default_expands_composites g m, default_expands_all g m);
  shown = λ m hm shut. record {
    atomic = λ a i o hi ho. default_shows g m i o hm hi ho;
    composite = λ c i o hi ho. absurd (true≢false (sym (default_expands_all g m c) ∙ shut));
  };
}
