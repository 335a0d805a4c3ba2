-- The view that parts describe: what it expands, and what it shows.
use Rattle.std.proofs.Common.{◌≡◌, ℕ, ◌+◌, ◌<◌, ◌≤◌, ◌==◌, ◌&&◌, Bool, true, false, cond, nat_lt, List, [], ◌∷◌, length, get_or, flat_map, refl, sym, ap, ◌∙◌, subst, inl, inr, arith, true≢false}
use Rattle.std.specs.List.{filter}
use Rattle.std.proofs.lemmas.Bool.{and_parts, and_from, eqb-true, eq-eqb, ltb-true, ltb-false}
use Rattle.std.proofs.lemmas.List.{get_or-map, get_or_past, length-map}
use Rattle.std.specs.Cmp.Derive.{one_truth}
use Rattle.wf_model.specs.declared.parts.ViewParts.{ViewParts}
use Rattle.wf_model.specs.Lists.{IsIn, some, numbers_from}
use Rattle.wf_model.specs.Grammar.{Grammar, inputs_of, outputs_of}
use Rattle.wf_model.specs.View.{expands, shows}
use Rattle.wf_model.proofs.Level.{in_numbers, numbers_in}
use Rattle.wf_model.proofs.Lists.{some_from, some_gives, in_filter, in_filter_from, in_flat_map, in_flat_map_from}
use Rattle.wf_model.proofs.NumberLists.{length-numbers, number_at}
use Rattle.wf_view.specs.Viewing.{is_expanded, is_shown, pairs_by, shown_pairs, view_of}

-- a number of the first n is below n
pub below_all : (i n : ℕ) → IsIn i (numbers_from 0 n) → i < n
below_all i n h = omega (arith, in_numbers i 0 n h)

-- the modules that it expands
pub expands_gives : (g : Grammar) (parts : ViewParts) (m : ℕ) → expands (view_of g parts) m ≡ true → (m < length g.modules) × (is_expanded g parts m ≡ true)
expands_gives g parts m h =
    let r = some_gives (λ k. k == m) (filter (is_expanded g parts) (numbers_from 0 (length g.modules))) h in
    let q = in_filter_from (is_expanded g parts) r.0 (numbers_from 0 (length g.modules)) r.1 in
    let e : r.0 ≡ m = eqb-true r.0 m r.2 in
    (subst (λ k. k < length g.modules) e (below_all r.0 (length g.modules) q.0), ap (is_expanded g parts) (sym e) ∙ q.1)

pub expands_from : (g : Grammar) (parts : ViewParts) (m : ℕ) → m < length g.modules → is_expanded g parts m ≡ true → expands (view_of g parts) m ≡ true
expands_from g parts m below h =
    some_from (λ k. k == m) m (filter (is_expanded g parts) (numbers_from 0 (length g.modules)))
    (in_filter (is_expanded g parts) m (numbers_from 0 (length g.modules)) (numbers_in m 0 (length g.modules) (omega arith) (omega arith)) h) (eq-eqb m m refl)

pub expands_is : (g : Grammar) (parts : ViewParts) (m : ℕ) → m < length g.modules → expands (view_of g parts) m ≡ is_expanded g parts m
expands_is g parts m below = one_truth (expands (view_of g parts) m) (is_expanded g parts m) (λ h. (expands_gives g parts m h).1) (expands_from g parts m below)

-- a pair is one of a list of pairs, as a test
abbrev pub is_it : ℕ → ℕ → ℕ × ℕ → Bool
is_it i o e = (e.0 == i) && (e.1 == o)

-- the pairs of numbers below two that pass a test
abbrev pub passing : ℕ → ℕ → (ℕ → ℕ → Bool) → List (ℕ × ℕ)
passing inputs outputs test = flat_map (λ i. flat_map (λ o. cond (test i o) ((i, o) ∷ []) []) (numbers_from 0 outputs)) (numbers_from 0 inputs)

module _ (inputs outputs : ℕ) (test : ℕ → ℕ → Bool) where
  abbrev row : ℕ → List (ℕ × ℕ)
  row i = flat_map (λ o. cond (test i o) ((i, o) ∷ []) []) (numbers_from 0 outputs)

  -- a pair that is in the list is below them and passes the test
  pub in_passing : (i o : ℕ) → some (is_it i o) (passing inputs outputs test) ≡ true → (i < inputs) × ((o < outputs) × (test i o ≡ true))
  in_passing i o h =
      let r = some_gives (is_it i o) (passing inputs outputs test) h in
      let both = and_parts (r.0.0 == i) (r.0.1 == o) r.2 in
      let a = in_flat_map_from row r.0 (numbers_from 0 inputs) r.1 in
      let b = in_flat_map_from (λ k. cond (test a.0 k) ((a.0, k) ∷ []) []) r.0 (numbers_from 0 outputs) a.2 in
      let c = one a.0 b.0 r.0 (test a.0 b.0) refl b.2 in
      let ei : a.0 ≡ i = sym (ap (λ (e : ℕ × ℕ). e.0) c.1) ∙ eqb-true r.0.0 i both.0 in
      let eo : b.0 ≡ o = sym (ap (λ (e : ℕ × ℕ). e.1) c.1) ∙ eqb-true r.0.1 o both.1 in (
        subst (λ k. k < inputs) ei (below_all a.0 inputs a.1),
        (subst (λ k. k < outputs) eo (below_all b.0 outputs b.1), subst (λ x. test x o ≡ true) ei (subst (λ x. test a.0 x ≡ true) eo c.0)),
      )
    where
      one : (a b : ℕ) (e : ℕ × ℕ) (t : Bool) → test a b ≡ t → IsIn e (cond t ((a, b) ∷ []) []) → (test a b ≡ true) × (e ≡ (a, b))
      one a b e true q (inl z) = (q, z)
      one a b e true q (inr z) = absurd z
      one a b e false q z = absurd z

  -- and one that is below them and passes is in it
  pub passing_from : (i o : ℕ) → i < inputs → o < outputs → test i o ≡ true → some (is_it i o) (passing inputs outputs test) ≡ true
  passing_from i o hi ho t =
      some_from (is_it i o) (i, o) (passing inputs outputs test)
      (in_flat_map row i (i, o) (numbers_from 0 inputs) (numbers_in i 0 inputs (omega arith) (omega arith))
      (in_flat_map (λ k. cond (test i k) ((i, k) ∷ []) []) o (i, o) (numbers_from 0 outputs) (numbers_in o 0 outputs (omega arith) (omega arith))
      (subst (λ b. IsIn {A = ℕ × ℕ} (i, o) (cond b ((i, o) ∷ []) [])) (sym t) (inl refl))))
      (and_from (i == i) (o == o) (eq-eqb i i refl) (eq-eqb o o refl))

  pub passing_is : (i o : ℕ) → i < inputs → o < outputs → some (is_it i o) (passing inputs outputs test) ≡ test i o
  passing_is i o hi ho = one_truth (some (is_it i o) (passing inputs outputs test)) (test i o) (λ h. (in_passing i o h).1.1) (passing_from i o hi ho)

-- the pairs that are shown of a module, as the view holds them
pub shown_at : (g : Grammar) (parts : ViewParts) (m : ℕ) → m < length g.modules → get_or (view_of g parts).shown m [] ≡ shown_pairs g parts m
shown_at g parts m below =
    get_or-map (shown_pairs g parts) (numbers_from 0 (length g.modules)) m 0 [] (subst (λ n. m < n) (sym (length-numbers 0 (length g.modules))) below)
    ∙ ap (shown_pairs g parts) (number_at 0 (length g.modules) m below ∙ (let e : 0 + m ≡ m = omega arith in e))

-- a module that is not expanded shows the pairs that pass the test of its parts
pub shows_is : (g : Grammar) (parts : ViewParts) (m i o : ℕ) → m < length g.modules → is_expanded g parts m ≡ false → i < inputs_of g m → o < outputs_of g m → shows (view_of g parts) m i o ≡ is_shown g parts.deps m i o
shows_is g parts m i o below shut hi ho =
    ap (some (is_it i o)) (shown_at g parts m below ∙ ap (λ b. cond b [] (pairs_by g m (is_shown g parts.deps m))) shut)
    ∙ passing_is (inputs_of g m) (outputs_of g m) (is_shown g parts.deps m) i o hi ho

-- what is shown are pairs of ports of modules
pub shows_gives : (g : Grammar) (parts : ViewParts) (m i o : ℕ) → shows (view_of g parts) m i o ≡ true → (m < length g.modules) × (i < inputs_of g m) × (o < outputs_of g m)
shows_gives g parts m i o h = by (nat_lt m (length g.modules)) refl
  where
    within : m < length g.modules → (b : Bool) → is_expanded g parts m ≡ b → some (is_it i o) (shown_pairs g parts m) ≡ true → (m < length g.modules) × (i < inputs_of g m) × (o < outputs_of g m)
    within below true e t = absurd (true≢false (sym t ∙ ap (λ b. some (is_it i o) (cond b [] (pairs_by g m (is_shown g parts.deps m)))) e))
    within below false e t =
        let r = in_passing (inputs_of g m) (outputs_of g m) (is_shown g parts.deps m) i o (sym (ap (λ b. some (is_it i o) (cond b [] (pairs_by g m (is_shown g parts.deps m)))) e) ∙ t) in
        (below, r.0, r.1.0)

    by : (b : Bool) → nat_lt m (length g.modules) ≡ b → (m < length g.modules) × (i < inputs_of g m) × (o < outputs_of g m)
    by true e =
        let below = ltb-true m (length g.modules) e in
        within below (is_expanded g parts m) refl (ap (some (is_it i o)) (sym (shown_at g parts m below)) ∙ h)
    by false e =
        absurd (true≢false (sym h ∙ ap (some (is_it i o)) (get_or_past (view_of g parts).shown m [] (subst (λ n. n ≤ m) (sym (length-map (numbers_from 0 (length g.modules)) (shown_pairs g parts) ∙ length-numbers 0 (length g.modules))) (ltb-false m (length g.modules) e)))))
