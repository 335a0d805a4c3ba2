-- A run that is made step by step.
use Rattle.std.proofs.Common.{◌≡◌, ℕ, ◌+◌, List, [], ◌∷◌, ◌++◌, map, length, refl, sym, ap, ap₂, ◌∙◌, subst, append_assoc, append-nil}
use Rattle.wf_model.specs.declared.event.Event.{Event}
use Rattle.wf_model.specs.declared.event.Event.TheVariants.{Expand}
use Rattle.wf_model.specs.Grammar.{Grammar, body_of}
use Rattle.wf_model.specs.declared.body.Step.{Step as StepHeld}
use Rattle.wf_model.specs.Lists.{IsIn}
use Rattle.wf_model.specs.Steps.{step_of}
use Rattle.numbered_names.specs.Names.{numbered_name, numbered_names}
use Rattle.compare_model.specs.RunAlong.{expand_along, number_along}

-- the event of the first step goes behind the events so far
pub event_more : (g : Grammar) (next here n there : ℕ) (left rest : List StepHeld) (s : StepHeld) (event : Event) (run more all : List Event) → left ≡ s ∷ rest → n ≡ length (body_of g s.production.0) → there ≡ next + s.position.0
    → event ≡ Expand (numbered_name here) s.production.0 (numbered_names next n) → more ≡ run ++ event ∷ [] → run ++ expand_along g next here (map step_of left) ≡ all
    → more ++ expand_along g (next + n) there (map step_of rest) ≡ all
event_more g next here n there left rest s event run more all e count place is pushed before =
    ap (λ l. l ++ expand_along g (next + n) there (map step_of rest)) pushed
    ∙ (append_assoc run (event ∷ []) (expand_along g (next + n) there (map step_of rest))
    ∙ (ap (λ l. run ++ l) step ∙ (ap (λ l. run ++ expand_along g next here (map step_of l)) (sym e) ∙ before)))
  where
    step : event ∷ expand_along g (next + n) there (map step_of rest) ≡ expand_along g next here (map step_of (s ∷ rest))
    step =
        ap₂ ◌∷◌ (is ∙ ap (λ k. Expand (numbered_name here) s.production.0 (numbered_names next k)) count)
        (ap (λ k. expand_along g (next + k) there (map step_of rest)) count ∙ ap (λ k. expand_along g (next + length (body_of g s.production.0)) k (map step_of rest)) place)

pub number_more : (g : Grammar) (next here n there all : ℕ) (left rest : List StepHeld) (s : StepHeld) → left ≡ s ∷ rest → n ≡ length (body_of g s.production.0) → there ≡ next + s.position.0
    → number_along g next here (map step_of left) ≡ all → number_along g (next + n) there (map step_of rest) ≡ all
number_more g next here n there all left rest s e count place before =
    ap (λ k. number_along g (next + k) there (map step_of rest)) count
    ∙ (ap (λ k. number_along g (next + length (body_of g s.production.0)) k (map step_of rest)) place
    ∙ (ap (λ l. number_along g next here (map step_of l)) (sym e) ∙ before))

-- what is so of all that are left is so of the first and of the rest
pub of_first : {A : Type 0} (P : A → Type 0) (left rest : List A) (x : A) → left ≡ x ∷ rest → ((y : A) → IsIn y left → P y) → P x
of_first P left rest x e all = all x (subst (IsIn x) (sym e) (Rattle.std.proofs.Common.inl refl))

pub of_rest : {A : Type 0} (P : A → Type 0) (left rest : List A) (x : A) → left ≡ x ∷ rest → ((y : A) → IsIn y left → P y) → (y : A) → IsIn y rest → P y
of_rest P left rest x e all y i = all y (subst (IsIn y) (sym e) (Rattle.std.proofs.Common.inr i))

-- nothing is left
pub run_done : (g : Grammar) (next here : ℕ) (left : List StepHeld) (run all : List Event) → left ≡ [] → run ++ expand_along g next here (map step_of left) ≡ all → run ≡ all
run_done g next here left run all e before = sym (append-nil run) ∙ (ap (λ l. run ++ expand_along g next here (map step_of l)) (sym e) ∙ before)

pub number_done : (g : Grammar) (next here all : ℕ) (left : List StepHeld) → left ≡ [] → number_along g next here (map step_of left) ≡ all → here ≡ all
number_done g next here all left e before = ap (λ l. number_along g next here (map step_of l)) (sym e) ∙ before
