-- Tables of what is shown, made module by module and deps part by deps part.
use Rattle.std.proofs.Common.{◌≡◌, ◌≢◌, ℕ, ◌+◌, ◌<◌, ◌==◌, Bool, true, false, List, [], ◌∷◌, ◌++◌, Vec, Global, length, get_or, set, take, refl, sym, ap, ◌∙◌, subst, ⊎_elim, true≢false}
use Rattle.std.proofs.lemmas.Bool.{eqb-true, eq-eqb}
use Rattle.std.proofs.lemmas.List.{length-append, length-set, take_more}
use Rattle.wf_model.specs.declared.parts.DepsPart.{DepsPart}
use Rattle.wf_model.specs.Lists.{IsIn, IsAt}
use Rattle.wf_model.specs.Grammar.{Grammar, module_at, inputs_of, outputs_of}
use Rattle.wf_model.specs.WellFormed.{IsWellFormed}
use Rattle.wf_model.proofs.Lists.{at_below}
use Rattle.wf_model.proofs.Positions.{at_push}
use Rattle.wf_view.specs.Rules.{deps_names, number_in, IsModuleName}
use Rattle.wf_view.specs.Tables.{names_pair, AreRowsBy, IsKept, AreKept, IsTakenIn}
use Rattle.wf_view.specs.Viewing.{is_about, is_shown}
use Rattle.wf_view.proofs.Naming.{named_is}
use Rattle.wf_view.proofs.Pairing.{by_same}
use Rattle.wf_view.proofs.Places.{at_set}
use Rattle.wf_view.proofs.Showing.{shown_last, shown_other}

-- one module more is kept
pub kept_more : (g : Grammar) (marks : List Bool) (deps : List DepsPart) (n : ℕ) (old new : List (Vec ℕ Global)) (s : Vec ℕ Global) → AreKept g marks deps n old → IsKept g (get_or marks n false) (is_shown g deps n) n s.items → new ≡ old ++ s ∷ []
    → AreKept g marks deps (n + 1) new
kept_more g marks deps n old new s kept last is = subst (AreKept g marks deps (n + 1)) (sym is) (record {
  one_each = length-append old (s ∷ []) ∙ ap (λ k. k + 1) kept.one_each;
  each = λ m x at. ⊎_elim (kept.each m x)
      (λ d. subst (λ (y : Vec ℕ Global). IsKept g (get_or marks m false) (is_shown g deps m) m y.items) (sym d.1) (subst (λ k. IsKept g (get_or marks k false) (is_shown g deps k) k s.items) (sym (d.0 ∙ kept.one_each)) last))
      (at_push x m old s at);
})

-- what is kept of a module by one test is kept by an equal one
pub kept_same : (g : Grammar) (expanded : Bool) (p q : ℕ → ℕ → Bool) (m : ℕ) (list : List ℕ) → ((i o : ℕ) → p i o ≡ q i o) → IsKept g expanded p m list → IsKept g expanded q m list
kept_same g expanded p q m list same k = record {
  none = k.none;
  rows = λ e. by_same (inputs_of g m) (outputs_of g m) p q list (λ i o a b. same i o) (k.rows e);
}

module _ (g : Grammar) (formed : IsWellFormed g) (d : DepsPart) (known : IsModuleName g d.«module») (m : ℕ) (number : m ≡ number_in g d.«module») (rows : Vec ℕ Global)
    (by : AreRowsBy (inputs_of g m) (outputs_of g m) (names_pair (module_at g m) d.pairs) rows.items) (table : List (Vec ℕ Global)) (inside : m < length table) where
  about : (j : ℕ) → j < length g.modules → is_about g j d ≡ (m == j)
  about j below = named_is g formed d.«module» known j below ∙ ap (λ k. k == j) (sym number)

  -- the rows of a part are put in place of those of its module
  pub part_taken : IsTakenIn g d table (set table m rows)
  part_taken marks before shut new kept = record {
    one_each = length-set table m rows ∙ kept.one_each;
    each = λ j x at. ⊎_elim (λ e. here j x e.0 e.1) (λ e. other j x e.0 e.1) (at_set x j table m rows at);
  }
    where
      below : m < length g.modules
      below = subst (λ n. m < n) kept.one_each inside

      closed : get_or marks m false ≡ false
      closed = ap (λ k. get_or marks k false) number ∙ shut

      it_is : IsKept g (get_or marks m false) (is_shown g (before ++ d ∷ []) m) m rows.items
      it_is = record {
        none = λ e. absurd (true≢false (sym e ∙ closed));
        rows = λ e. by_same (inputs_of g m) (outputs_of g m) (names_pair (module_at g m) d.pairs) (is_shown g (before ++ d ∷ []) m) rows.items
            (λ i o a b. sym (shown_last g before m d (about m below ∙ eq-eqb m m refl) new i o)) by;
      }

      here : (j : ℕ) (x : Vec ℕ Global) → j ≡ m → x ≡ rows → IsKept g (get_or marks j false) (is_shown g (before ++ d ∷ []) j) j x.items
      here j x at is =
          subst (λ (y : Vec ℕ Global). IsKept g (get_or marks j false) (is_shown g (before ++ d ∷ []) j) j y.items) (sym is)
          (subst (λ k. IsKept g (get_or marks k false) (is_shown g (before ++ d ∷ []) k) k rows.items) (sym at) it_is)

      other : (j : ℕ) (x : Vec ℕ Global) → j ≢ m → IsAt x j table → IsKept g (get_or marks j false) (is_shown g (before ++ d ∷ []) j) j x.items
      other j x apart at =
          kept_same g (get_or marks j false) (is_shown g before j) (is_shown g (before ++ d ∷ []) j) j x.items
          (shown_other g before j d (about j (subst (λ n. j < n) kept.one_each (at_below x j table at)) ∙ not_it (m == j) refl)) (kept.each j x at)
        where
          not_it : (b : Bool) → (m == j) ≡ b → (m == j) ≡ false
          not_it true e = absurd (apart (sym (eqb-true m j e)))
          not_it false e = e

-- so with the parts that a loop has read and the next
pub take_more_in : (g : Grammar) (marks : List Bool) (deps : List DepsPart) (k : ℕ) (d : DepsPart) (old new : List (Vec ℕ Global)) → d ≡ get_or deps k d → k < length deps → get_or marks (number_in g d.«module») false ≡ false
    → ¬ IsIn d.«module» (deps_names (take k deps)) → AreKept g marks (take k deps) (length g.modules) old → IsTakenIn g d old new → AreKept g marks (take (k + 1) deps) (length g.modules) new
take_more_in g marks deps k d old new was inside shut apart kept taken =
    subst (λ (ds : List DepsPart). AreKept g marks ds (length g.modules) new) (sym (take_more deps k d inside ∙ ap (λ (x : DepsPart). take k deps ++ x ∷ []) (sym was))) (taken marks (take k deps) shut apart kept)
