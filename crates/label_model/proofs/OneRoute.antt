-- A place is that of one address.
use Rattle.std.proofs.Common.{◌≡◌, ◌≢◌, ℕ, ◌+◌, ◌≤◌, ◌⊎◌, Bool, true, false, cond, List, [], ◌∷◌, ◌++◌, Option, Some, None, refl, sym, ap, ◌∙◌, subst, inl, inr, ⊎_elim, arith}
use Rattle.wf_model.specs.Grammar.{Grammar, alternative_of}
use Rattle.wf_model.specs.Reach.{Step, target_of}
use Rattle.wf_model.specs.Routes.{IsRoute}
use Rattle.wf_model.proofs.Going.{same_step}
use Rattle.label_model.specs.Continuing.{continuing, continues}
use Rattle.label_model.specs.Labels.{PlaceStep}
use Rattle.label_model.specs.Places.{chain_by, chain_at, steps_from, chain_from}
use Rattle.label_model.proofs.ContinuingSteps.{continues_gives, continues_not}
use Rattle.label_model.proofs.Alternatives.{same_alternative}
use Rattle.label_model.proofs.StepsTold.{chain_some}

-- the first step told has a chain number from c on, if it has one
told_later : (g : Grammar) (a : List Step) (m c : ℕ) (q : PlaceStep) (qs : List PlaceStep) → steps_from g m c a ≡ q ∷ qs → (d : ℕ) → q.chain ≡ Some d → c ≤ d
told_later g [] m c q qs h d e = absurd (cc)
told_later g (s ∷ a) m c q qs h d e = go (continues g m s) h (λ b w. told_later g a (target_of g s) b q qs w d e)
  where
    go : (t : Bool) → cond t [] (record { chain = chain_at g m c; alternative = alternative_of g s.production; position = s.position } ∷ []) ++ steps_from g (target_of g s) (cond t (c + 1) 0) a ≡ q ∷ qs →
        ((b : ℕ) → steps_from g (target_of g s) b a ≡ q ∷ qs → b ≤ d) → c ≤ d
    go true h ih = let r = ih (c + 1) h in omega arith
    go false h ih =
        let w : ◌≡◌ {A = PlaceStep} (record { chain = chain_at g m c; alternative = alternative_of g s.production; position = s.position }) q = cc in
        of (continuing g m) (ap (λ (z : PlaceStep). z.chain) w ∙ e)
      where
        of : (o : Option Step) → chain_by o c ≡ Some d → c ≤ d
        of None e = absurd (cc)
        of (Some z) e = let f : c ≡ d = cc in omega arith

-- and so has the last chain, where no step is told
chain_later : (g : Grammar) (a : List Step) (m c : ℕ) → steps_from g m c a ≡ [] → (d : ℕ) → chain_from g m c a ≡ Some d → c ≤ d
chain_later g [] m c h d e = of (continuing g m) e
  where
    of : (o : Option Step) → chain_by o c ≡ Some d → c ≤ d
    of None e = absurd (cc)
    of (Some z) e = let f : c ≡ d = cc in omega arith
chain_later g (s ∷ a) m c h d e = go (continues g m s) h e (λ b w x. chain_later g a (target_of g s) b w d x)
  where
    go : (t : Bool) → cond t [] (record { chain = chain_at g m c; alternative = alternative_of g s.production; position = s.position } ∷ []) ++ steps_from g (target_of g s) (cond t (c + 1) 0) a ≡ [] →
        chain_from g (target_of g s) (cond t (c + 1) 0) a ≡ Some d → ((b : ℕ) → steps_from g (target_of g s) b a ≡ [] → chain_from g (target_of g s) b a ≡ Some d → b ≤ d) → c ≤ d
    go true h e ih = let r = ih (c + 1) h e in omega arith
    go false h e ih = absurd (cc)

-- what is told of a step
abbrev pub step_told : Grammar → ℕ → ℕ → Step → PlaceStep
step_told g m c s = record { chain = chain_at g m c; alternative = alternative_of g s.production; position = s.position }

-- a step is the continuing one and is counted, or it is another and is told
abbrev pub IsSplit : Grammar → ℕ → ℕ → Step → List Step → List PlaceStep → Option ℕ → Type 0
IsSplit g m c s a steps chain =
    ((continuing g m ≡ Some s) × (steps_from g (target_of g s) (c + 1) a ≡ steps) × (chain_from g (target_of g s) (c + 1) a ≡ chain)) ⊎
    ((continuing g m ≢ Some s) × (step_told g m c s ∷ steps_from g (target_of g s) 0 a ≡ steps) × (chain_from g (target_of g s) 0 a ≡ chain))

pub split : (g : Grammar) (m c : ℕ) (s : Step) (a : List Step) → IsSplit g m c s a (steps_from g m c (s ∷ a)) (chain_from g m c (s ∷ a))
split g m c s a = go (continues g m s) refl
  where
    go : (t : Bool) → continues g m s ≡ t →
        IsSplit g m c s a (cond t [] (record { chain = chain_at g m c; alternative = alternative_of g s.production; position = s.position } ∷ []) ++ steps_from g (target_of g s) (cond t (c + 1) 0) a)
        (chain_from g (target_of g s) (cond t (c + 1) 0) a)
    go true t = inl (continues_gives g m s t, refl, refl)
    go false t = inr (continues_not g m s t, refl, refl)

pub one_route : (g : Grammar) (a b : List Step) (m c : ℕ) → IsRoute g m a → IsRoute g m b → steps_from g m c a ≡ steps_from g m c b → chain_from g m c a ≡ chain_from g m c b → a ≡ b
one_route g [] [] m c ra rb e f = refl
one_route g [] (t ∷ b) m c ra rb e f =
    ⊎_elim
    (λ q. let l = chain_later g b (target_of g t) (c + 1) (q.1 ∙ sym e) c (q.2 ∙ (sym f ∙ chain_some g m c t q.0)) in absurd (omega arith))
    (λ q. let w = q.1 ∙ sym e in absurd (cc))
    (split g m c t b)
one_route g (s ∷ a) [] m c ra rb e f =
    ⊎_elim
    (λ q. let l = chain_later g a (target_of g s) (c + 1) (q.1 ∙ e) c (q.2 ∙ (f ∙ chain_some g m c s q.0)) in absurd (omega arith))
    (λ q. let w = q.1 ∙ e in absurd (cc))
    (split g m c s a)
one_route g (s ∷ a) (t ∷ b) m c ra rb e f = go (λ d. one_route g a b (target_of g s) d ra.3) (split g m c s a) (split g m c t b)
  where
    joined : s ≡ t → ((d : ℕ) → IsRoute g (target_of g s) b → steps_from g (target_of g s) d a ≡ steps_from g (target_of g s) d b → chain_from g (target_of g s) d a ≡ chain_from g (target_of g s) d b → a ≡ b) → (d : ℕ) →
        steps_from g (target_of g s) d a ≡ steps_from g (target_of g t) d b → chain_from g (target_of g s) d a ≡ chain_from g (target_of g t) d b → s ∷ a ≡ t ∷ b
    joined w ih d x y =
        let r = ih d (subst (λ (z : Step). IsRoute g (target_of g z) b) (sym w) rb.3) (subst (λ (z : Step). steps_from g (target_of g s) d a ≡ steps_from g (target_of g z) d b) (sym w) x) (subst (λ (z : Step). chain_from g (target_of g s) d a ≡ chain_from g (target_of g z) d b) (sym w) y) in
        ap (λ z. z ∷ a) w ∙ ap (λ z. t ∷ z) r

    go : ((d : ℕ) → IsRoute g (target_of g s) b → steps_from g (target_of g s) d a ≡ steps_from g (target_of g s) d b → chain_from g (target_of g s) d a ≡ chain_from g (target_of g s) d b → a ≡ b) →
        IsSplit g m c s a (steps_from g m c (s ∷ a)) (chain_from g m c (s ∷ a)) → IsSplit g m c t b (steps_from g m c (t ∷ b)) (chain_from g m c (t ∷ b)) → s ∷ a ≡ t ∷ b
    go ih (inl p) (inl q) =
        let w : Some s ≡ Some t = sym p.0 ∙ q.0 in
        joined (let z : s ≡ t = cc in z) ih (c + 1) (p.1 ∙ (e ∙ sym q.1)) (p.2 ∙ (f ∙ sym q.2))
    go ih (inl p) (inr q) =
        let l = told_later g a (target_of g s) (c + 1) (step_told g m c t) (steps_from g (target_of g t) 0 b) (p.1 ∙ (e ∙ sym q.1)) c (chain_some g m c s p.0) in absurd (omega arith)
    go ih (inr p) (inl q) =
        let l = told_later g b (target_of g t) (c + 1) (step_told g m c s) (steps_from g (target_of g s) 0 a) (q.1 ∙ (sym e ∙ sym p.1)) c (chain_some g m c t q.0) in absurd (omega arith)
    go ih (inr p) (inr q) =
        let w = p.1 ∙ (e ∙ sym q.1) in
        let h : step_told g m c s ≡ step_told g m c t = cc in
        let r : steps_from g (target_of g s) 0 a ≡ steps_from g (target_of g t) 0 b = cc in
        joined (same_step s t (same_alternative g s.production t.production ra.0 rb.0 (ra.1 ∙ sym rb.1) (ap (λ (z : PlaceStep). z.alternative) h)) (ap (λ (z : PlaceStep). z.position) h)) ih 0 r (p.2 ∙ (f ∙ sym q.2))
