-- The pairs that deps parts show of a module.
use Rattle.std.proofs.Common.{◌≡◌, ℕ, ◌&&◌, ◌||◌, Bool, true, false, cond, List, [], ◌∷◌, ◌++◌, refl, sym, ap, ◌∙◌, subst, inl, ⊎_elim}
use Rattle.std.proofs.lemmas.Bool.{and_parts, and_from}
use Rattle.std.specs.Cmp.Derive.{one_truth}
use Rattle.wf_model.specs.declared.parts.DepsPart.{DepsPart}
use Rattle.wf_model.specs.Lists.{IsIn, some}
use Rattle.wf_model.specs.Grammar.{Grammar, is_given}
use Rattle.wf_model.proofs.Lists.{in_map, in_append_right, in_append_cases, same_bytes, some_from, some_gives}
use Rattle.wf_model.proofs.Tests.{some_more, or_nothing}
use Rattle.wf_view.specs.Rules.{deps_names}
use Rattle.wf_view.specs.Viewing.{name_of, is_about, is_pair, is_shown}

-- where one part is about a module, and no other is, its pairs are shown
pub shown_by : (g : Grammar) (deps : List DepsPart) (m : ℕ) (d : DepsPart) → IsIn d deps → is_about g m d ≡ true → ((e : DepsPart) → IsIn e deps → is_about g m e ≡ true → e ≡ d)
    → (i o : ℕ) → is_shown g deps m i o ≡ some (is_pair g m i o) d.pairs
shown_by g deps m d here about only i o =
    ap (λ b. cond b (some names_it deps) (is_given g.given m i o)) (some_from (is_about g m) d deps here about)
    ∙ one_truth (some names_it deps) (some (is_pair g m i o) d.pairs) there back
  where
    names_it : DepsPart → Bool
    names_it e = is_about g m e && some (is_pair g m i o) e.pairs

    there : some names_it deps ≡ true → some (is_pair g m i o) d.pairs ≡ true
    there h =
        let r = some_gives names_it deps h in
        let both = and_parts (is_about g m r.0) (some (is_pair g m i o) (r.0).pairs) r.2 in
        subst (λ (e : DepsPart). some (is_pair g m i o) e.pairs ≡ true) (only r.0 r.1 both.0) both.1

    back : some (is_pair g m i o) d.pairs ≡ true → some names_it deps ≡ true
    back h = some_from names_it d deps here (and_from (is_about g m d) (some (is_pair g m i o) d.pairs) about h)

-- a part about a module that no part before is about shows its pairs
pub shown_last : (g : Grammar) (before : List DepsPart) (m : ℕ) (d : DepsPart) → is_about g m d ≡ true → ¬ IsIn d.«module» (deps_names before) → (i o : ℕ) → is_shown g (before ++ d ∷ []) m i o ≡ some (is_pair g m i o) d.pairs
shown_last g before m d about new = shown_by g (before ++ d ∷ []) m d (in_append_right d before (d ∷ []) (inl refl)) about only
  where
    only : (e : DepsPart) → IsIn e (before ++ d ∷ []) → is_about g m e ≡ true → e ≡ d
    only e here same =
        ⊎_elim
        (λ i. absurd (new (subst (λ n. IsIn n (deps_names before)) (sym (same_bytes (name_of g m) e.«module» same) ∙ same_bytes (name_of g m) d.«module» about) (in_map (λ (p : DepsPart). p.«module») e before i))))
        (λ l. ⊎_elim (λ q. q) (λ never. absurd never) l)
        (in_append_cases e before (d ∷ []) here)

-- a part about another module shows nothing of it
pub shown_other : (g : Grammar) (before : List DepsPart) (m : ℕ) (d : DepsPart) → is_about g m d ≡ false → (i o : ℕ) → is_shown g before m i o ≡ is_shown g (before ++ d ∷ []) m i o
shown_other g before m d other i o =
    ap (λ b. cond b (some names_it before) (is_given g.given m i o)) (or_nothing (some (is_about g m) before) ∙ (ap (λ b. some (is_about g m) before || b) (sym other) ∙ sym (some_more (is_about g m) before d)))
    ∙ ap (λ b. cond (some (is_about g m) (before ++ d ∷ [])) b (is_given g.given m i o))
    (or_nothing (some names_it before) ∙ (ap (λ b. some names_it before || (b && some (is_pair g m i o) d.pairs)) (sym other) ∙ sym (some_more names_it before d)))
  where
    names_it : DepsPart → Bool
    names_it e = is_about g m e && some (is_pair g m i o) e.pairs
