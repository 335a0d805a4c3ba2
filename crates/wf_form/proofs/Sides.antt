-- Modules, their names, and how many ports stand at positions.
use Rattle.std.proofs.Common.{◌≡◌, ℕ, ◌+◌, ◌<◌, Bool, true, false, not, List, [], ◌∷◌, ◌++◌, length, get_or, map, take, refl, sym, ap, ◌∙◌}
use Rattle.std.proofs.lemmas.List.{take_more}
use Rattle.wf_model.specs.Lists.{AllDiffer}
use Rattle.wf_model.specs.Faults.{is_short_name, some_twice}
use Rattle.wf_model.specs.Meaning.{position_of}
use Rattle.wf_model.specs.WellFormed.{IsShortName}
use Rattle.wf_model.specs.declared.body.Position.{Position as PositionHeld}
use Rattle.wf_model.proofs.Taking.{short_gives, short_from, twice_gives, twice_from}
use Rattle.wf_spec.specs.Bodies.{modules_at}

pub short_name : (n : List ℕ) → is_short_name n ≡ true → IsShortName n
short_name n h = short_gives n h

pub name_short : (n : List ℕ) → IsShortName n → is_short_name n ≡ true
name_short n h = short_from n h.0 h.1

pub differ_gives : (ns : List (List ℕ)) (b : Bool) → b ≡ not (some_twice [] ns) → b ≡ true → AllDiffer ns
differ_gives ns b e t = (twice_gives [] ns (go (some_twice [] ns) (sym e ∙ t))).0
  where
    go : (c : Bool) → not c ≡ true → c ≡ false
    go true h = sym h
    go false h = refl

pub differ_from : (ns : List (List ℕ)) (b : Bool) → b ≡ not (some_twice [] ns) → AllDiffer ns → b ≡ true
differ_from ns b e d = e ∙ ap not (twice_from [] ns d (λ n i k. k))

-- one position more is counted
pub counts_more : (f : ℕ → ℕ) (xs : List PositionHeld) (k : ℕ) (q : PositionHeld) (old new : List ℕ) (n : ℕ) → k < length xs → q ≡ get_or xs k q → old ≡ map f (modules_at (map position_of (take k xs))) → new ≡ old ++ n ∷ [] → n ≡ f q.module.0
    → new ≡ map f (modules_at (map position_of (take (k + 1) xs)))
counts_more f xs k q old new n h e before more is =
    more ∙ (ap (λ l. l ++ n ∷ []) before ∙ (ap (λ z. map f (modules_at (map position_of (take k xs))) ++ z ∷ []) is ∙ sym whole))
  where
    step : take (k + 1) xs ≡ take k xs ++ q ∷ []
    step = take_more xs k q h ∙ ap (λ z. take k xs ++ z ∷ []) (sym e)

    through : (ps : List PositionHeld) → map f (modules_at (map position_of (ps ++ q ∷ []))) ≡ map f (modules_at (map position_of ps)) ++ f q.module.0 ∷ []
    through [] = refl
    through (p ∷ ps) = ap (λ l. f p.module.0 ∷ l) (through ps)

    whole : map f (modules_at (map position_of (take (k + 1) xs))) ≡ map f (modules_at (map position_of (take k xs))) ++ f q.module.0 ∷ []
    whole = ap (λ l. map f (modules_at (map position_of l))) step ∙ through (take k xs)
