-- What is told of an address with one step more.
use Rattle.std.proofs.Common.{◌≡◌, ◌≢◌, ℕ, ◌+◌, Bool, true, false, cond, List, [], ◌∷◌, ◌++◌, Some, None, refl, sym, ap, ◌∙◌, ⊎_elim, append_assoc, append-nil}
use Rattle.wf_model.specs.Grammar.{Grammar, alternative_of}
use Rattle.wf_model.specs.Reach.{Step, target_of, module_along}
use Rattle.label_model.specs.Continuing.{continuing, continues}
use Rattle.label_model.specs.Places.{chain_by, chain_at, count_after, told, steps_from, chain_from}
use Rattle.label_model.specs.PlaceLaws.{PrefixLaw}
use Rattle.label_model.proofs.Finding.{cases_option}
use Rattle.label_model.proofs.ContinuingSteps.{target_continues, continues_gives, continues_from}

-- how many continuing steps the address ends in
abbrev pub count_from : Grammar → ℕ → ℕ → List Step → ℕ
count_from g m c [] = c
count_from g m c (s ∷ a) = count_from g (target_of g s) (count_after g m c s) a

pub chain_from-is : (g : Grammar) (m c : ℕ) (a : List Step) → chain_from g m c a ≡ chain_at g (module_along g m a) (count_from g m c a)
chain_from-is g m c [] = refl
chain_from-is g m c (s ∷ a) = chain_from-is g (target_of g s) (count_after g m c s) a

pub steps_from-more : (g : Grammar) (m c : ℕ) (a : List Step) (s : Step) → steps_from g m c (a ++ s ∷ []) ≡ steps_from g m c a ++ told g (module_along g m a) (count_from g m c a) s
steps_from-more g m c [] s = append-nil (told g m c s)
steps_from-more g m c (t ∷ a) s =
    ap (λ z. told g m c t ++ z) (steps_from-more g (target_of g t) (count_after g m c t) a s) ∙
    sym (append_assoc (told g m c t) (steps_from g (target_of g t) (count_after g m c t) a) (told g (module_along g (target_of g t) a) (count_from g (target_of g t) (count_after g m c t) a) s))

pub chain_from-more : (g : Grammar) (m c : ℕ) (a : List Step) (s : Step) → chain_from g m c (a ++ s ∷ []) ≡ chain_at g (target_of g s) (count_after g (module_along g m a) (count_from g m c a) s)
chain_from-more g m c [] s = refl
chain_from-more g m c (t ∷ a) s = chain_from-more g (target_of g t) (count_after g m c t) a s

pub chain_some : (g : Grammar) (m c : ℕ) (s : Step) → continuing g m ≡ Some s → chain_at g m c ≡ Some c
chain_some g m c s e = ap (λ o. chain_by o c) e

pub chain_none : (g : Grammar) (m c : ℕ) → continuing g m ≡ None → chain_at g m c ≡ None
chain_none g m c e = ap (λ o. chain_by o c) e

none_chain : (g : Grammar) (m c : ℕ) → chain_at g m c ≡ None → continuing g m ≡ None
none_chain g m c e = ⊎_elim (λ z. z) (λ z. let f = sym (chain_some g m c z.0 z.1) ∙ e in absurd (cc)) (cases_option (continuing g m))

pub prefix_law : PrefixLaw
prefix_law g wf m a =
    let k = module_along g m a in
    let n = count_from g m 0 a in
    record {
      on_cycle = ((λ e. none_chain g k n (sym (chain_from-is g m 0 a) ∙ e)), (λ e. chain_from-is g m 0 a ∙ chain_none g k n e));
      goes_on = λ s c e h.
          let t = continues_from g k s e in
          let x : Some n ≡ Some c = sym (chain_some g k n s e) ∙ (sym (chain_from-is g m 0 a) ∙ h) in
          let y : n ≡ c = cc in
          let w = target_continues g wf k s e in (
            steps_from-more g m 0 a s ∙ (ap (λ z. steps_from g m 0 a ++ cond z [] (record { chain = chain_at g k n; alternative = alternative_of g s.production; position = s.position } ∷ [])) t ∙ append-nil (steps_from g m 0 a)),
            chain_from-more g m 0 a s ∙ (chain_some g (target_of g s) _ w.0 w.1 ∙ ap Some (ap (λ z. cond z (n + 1) 0) t ∙ ap (λ z. z + 1) y)),
          );
      leaves = λ s not. go s not (continues g k s) refl;
    }
  where
    go : (s : Step) → continuing g (module_along g m a) ≢ Some s → (t : Bool) → continues g (module_along g m a) s ≡ t →
        (steps_from g m 0 (a ++ s ∷ []) ≡ steps_from g m 0 a ++ record { chain = chain_from g m 0 a; alternative = alternative_of g s.production; position = s.position } ∷ []) ×
        (chain_from g m 0 (a ++ s ∷ []) ≡ chain_at g (target_of g s) 0)
    go s not true t = absurd (not (continues_gives g (module_along g m a) s t))
    go s not false t =
        let k = module_along g m a in
        let n = count_from g m 0 a in (
          steps_from-more g m 0 a s ∙
              (ap (λ z. steps_from g m 0 a ++ cond z [] (record { chain = chain_at g k n; alternative = alternative_of g s.production; position = s.position } ∷ [])) t ∙
              ap (λ z. steps_from g m 0 a ++ record { chain = z; alternative = alternative_of g s.production; position = s.position } ∷ []) (sym (chain_from-is g m 0 a))),
          chain_from-more g m 0 a s ∙ ap (λ z. chain_at g (target_of g s) (cond z (n + 1) 0)) t,
        )
