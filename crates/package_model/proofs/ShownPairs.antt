-- The pairs of a test, as a list.
use Rattle.std.proofs.Common.{◌≡◌, ℕ, ◌+◌, ◌<◌, ◌==◌, ◌&&◌, Bool, true, false, cond, List, [], ◌∷◌, Option, Some, None, refl, sym, ap, ◌∙◌, subst, inl, inr, arith}
use Rattle.std.proofs.lemmas.Bool.{and_parts, and_from, eqb-true, eq-eqb}
use Rattle.std.specs.Cmp.Derive.{one_truth}
use Rattle.wf_model.specs.Lists.{IsIn, numbers_from}
use Rattle.wf_model.specs.Grammar.{Grammar, inputs_of, outputs_of}
use Rattle.wf_model.specs.View.{View, expands, shows}
use Rattle.wf_model.proofs.Lists.{in_flat_map, in_flat_map_from, some_from, some_gives}
use Rattle.wf_model.proofs.Level.{in_numbers, numbers_in}
use Rattle.package_model.specs.Shown.{pairs_of_input, pairs_within, perceived}
use Rattle.package_model.specs.Packages.{is_among}

module _ (ins outs : ℕ) (test : ℕ → ℕ → Bool) where
  abbrev row : ℕ → List (ℕ × ℕ)
  row i = pairs_of_input i outs (test i)

  pub pairs_in : (i o : ℕ) → i < ins → o < outs → test i o ≡ true → IsIn (i, o) (pairs_within ins outs test)
  pairs_in i o hi ho t =
      in_flat_map row i (i, o) (numbers_from 0 ins) (numbers_in i 0 ins (omega arith) (omega arith))
      (in_flat_map (λ o. cond (test i o) ((i, o) ∷ []) []) o (i, o) (numbers_from 0 outs) (numbers_in o 0 outs (omega arith) (omega arith))
      (subst (λ b. IsIn {A = ℕ × ℕ} (i, o) (cond b ((i, o) ∷ []) [])) (sym t) (inl refl)))

  -- a pair of the list passes the test, and is one of ports
  pub pairs_from : (e : ℕ × ℕ) → IsIn e (pairs_within ins outs test) → (e.0 < ins) × (e.1 < outs) × (test e.0 e.1 ≡ true)
  pairs_from e h =
      let a = in_flat_map_from row e (numbers_from 0 ins) h in
      let b = in_flat_map_from (λ o. cond (test a.0 o) ((a.0, o) ∷ []) []) e (numbers_from 0 outs) a.2 in
      let ra : a.0 < 0 + ins = in_numbers a.0 0 ins a.1 in
      let rb : b.0 < 0 + outs = in_numbers b.0 0 outs b.1 in
      go a.0 b.0 (omega arith) (omega arith) (test a.0 b.0) refl b.2
    where
      go : (i o : ℕ) → i < ins → o < outs → (b : Bool) → test i o ≡ b → IsIn e (cond b ((i, o) ∷ []) []) → (e.0 < ins) × (e.1 < outs) × (test e.0 e.1 ≡ true)
      go i o hi ho false t q = absurd q
      go i o hi ho true t (inl q) = subst (λ (z : ℕ × ℕ). (z.0 < ins) × (z.1 < outs) × (test z.0 z.1 ≡ true)) (sym q) (hi, ho, t)
      go i o hi ho true t (inr q) = absurd q

  -- the list has what passes the test
  pub pair_within : (i o : ℕ) → i < ins → o < outs → is_among (pairs_within ins outs test) (i, o) ≡ test i o
  pair_within i o hi ho =
      one_truth (is_among (pairs_within ins outs test) (i, o)) (test i o)
      (λ h. let q = some_gives (λ (e : ℕ × ℕ). (e.0 == i) && (e.1 == o)) (pairs_within ins outs test) h in
      let r = and_parts (q.0.0 == i) (q.0.1 == o) q.2 in
      let t = (pairs_from q.0 q.1).2 in
      subst (λ z. test z o ≡ true) (eqb-true q.0.0 i r.0) (subst (λ z. test q.0.0 z ≡ true) (eqb-true q.0.1 o r.1) t))
      (λ h. some_from (λ (e : ℕ × ℕ). (e.0 == i) && (e.1 == o)) (i, o) (pairs_within ins outs test) (pairs_in i o hi ho h) (and_from (i == i) (o == o) (eq-eqb i i refl) (eq-eqb o o refl)))

-- equal lists are those of tests that agree
pub same_tests : (ins outs : ℕ) (t v : ℕ → ℕ → Bool) → pairs_within ins outs t ≡ pairs_within ins outs v → (i o : ℕ) → i < ins → o < outs → v i o ≡ t i o
same_tests ins outs t v e i o hi ho = sym (pair_within ins outs v i o hi ho) ∙ (ap (λ l. is_among l (i, o)) (sym e) ∙ pair_within ins outs t i o hi ho)

-- a module that is not expanded has perceived pairs, one that is has none
pub shut_perceived : (g : Grammar) (u : View) (m : ℕ) → expands u m ≡ false → perceived g u m ≡ Some (pairs_within (inputs_of g m) (outputs_of g m) (shows u m))
shut_perceived g u m e = ap (λ b. cond {A = Option (List (ℕ × ℕ))} b None (Some (pairs_within (inputs_of g m) (outputs_of g m) (shows u m)))) e

pub open_perceived : (g : Grammar) (u : View) (m : ℕ) → expands u m ≡ true → perceived g u m ≡ None
open_perceived g u m e = ap (λ b. cond {A = Option (List (ℕ × ℕ))} b None (Some (pairs_within (inputs_of g m) (outputs_of g m) (shows u m)))) e

none_pairs : {a : List (ℕ × ℕ)} → None ≡ Some a → ⊥
none_pairs q = cc

some_pairs : {a b : List (ℕ × ℕ)} → Some a ≡ Some b → a ≡ b
some_pairs q = cc

-- a module with perceived pairs is not expanded, and they are these
pub perceived_shut : (g : Grammar) (u : View) (m : ℕ) (pairs : List (ℕ × ℕ)) → perceived g u m ≡ Some pairs → (expands u m ≡ false) × (pairs ≡ pairs_within (inputs_of g m) (outputs_of g m) (shows u m))
perceived_shut g u m pairs q = go (expands u m) refl
  where
    go : (b : Bool) → expands u m ≡ b → (expands u m ≡ false) × (pairs ≡ pairs_within (inputs_of g m) (outputs_of g m) (shows u m))
    go true e = absurd (none_pairs (sym (open_perceived g u m e) ∙ q))
    go false e = (e, some_pairs (sym q ∙ shut_perceived g u m e))

-- and so two modules with the same perceived pairs are expanded alike
pub perceived_alike : (g h : Grammar) (u w : View) (m n : ℕ) → perceived g u m ≡ perceived h w n → expands w n ≡ expands u m
perceived_alike g h u w m n q = go (expands u m) refl
  where
    go : (b : Bool) → expands u m ≡ b → expands w n ≡ expands u m
    go false e = (perceived_shut h w n _ (sym q ∙ shut_perceived g u m e)).0 ∙ sym e
    go true e = on (expands w n) refl
      where
        on : (b : Bool) → expands w n ≡ b → expands w n ≡ expands u m
        on true f = f ∙ sym e
        on false f = absurd (none_pairs (sym (open_perceived g u m e) ∙ (q ∙ shut_perceived h w n f)))
