-- Lists of steps, made one by one, and read.
use Rattle.std.proofs.Common.{◌≡◌, ℕ, ◌<◌, ◌≤◌, List, [], ◌∷◌, map, length, get_or, refl, sym, ap, ◌∙◌, arith}
use Rattle.std.proofs.lemmas.List.{get_or-map, length-map}
use Rattle.wf_model.specs.declared.body.Position.{Position as PositionHeld}
use Rattle.wf_model.specs.Grammar.{Grammar, Position, Production, body_of, production_at}
use Rattle.wf_model.specs.Meaning.{position_of}
use Rattle.wf_compare.specs.declared.steps.Leading.{Leading}
use Rattle.wf_compare.specs.Steps.{targets_of}

-- the modules of held positions are those of the body
bodies : (g : Grammar) (p : ℕ) (held : List PositionHeld) (rule : Production) → map position_of held ≡ rule.positions → rule ≡ production_at g p → body_of g p ≡ map (λ (q : PositionHeld). q.module.0) held
bodies g p held rule e r = ap (λ (x : Production). map (λ (q : Position). q.module_no) x.positions) (sym r) ∙ (ap (map (λ (q : Position). q.module_no)) (sym e) ∙ go held)
  where
    go : (xs : List PositionHeld) → map (λ (q : Position). q.module_no) (map position_of xs) ≡ map (λ (q : PositionHeld). q.module.0) xs
    go [] = refl
    go (x ∷ xs) = ap (λ l. x.module.0 ∷ l) (go xs)

pub module_there : (g : Grammar) (p k : ℕ) (held : List PositionHeld) (rule : Production) (q : PositionHeld) → map position_of held ≡ rule.positions → rule ≡ production_at g p → k < length held → q ≡ get_or held k q → q.module.0 ≡ get_or (body_of g p) k 0
module_there g p k held rule q e r h is =
    ap (λ (z : PositionHeld). z.module.0) is ∙ (sym (get_or-map (λ (z : PositionHeld). z.module.0) held k q 0 h) ∙ ap (λ l. get_or l k 0) (sym (bodies g p held rule e r)))

-- the target at a place
pub target_there : (row : List Leading) (k w : ℕ) (e : Leading) → k < length row → e ≡ get_or row k e → w ≡ e.target.0 → w ≡ get_or (targets_of row) k w
target_there row k w e h is led = led ∙ (ap (λ (z : Leading). z.target.0) is ∙ sym (get_or-map (λ (z : Leading). z.target.0) row k e w h))

pub no_more_targets : (row : List Leading) (k : ℕ) → length row ≤ k → length (targets_of row) ≤ k
no_more_targets row k h = let e = length-map row (λ (z : Leading). z.target.0) in omega arith
