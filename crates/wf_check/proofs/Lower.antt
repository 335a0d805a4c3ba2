-- Productions whose bodies have modules of told ranks below a number alone.
use Rattle.std.proofs.Common.{◌≡◌, ◌↔◌, ℕ, ◌<◌, ◌≤◌, ◌⊎◌, Bool, true, List, Option, None, length, get_or, map, sym, ap, ◌∙◌, subst, ⊎_elim, arith}
use Rattle.std.specs.List.{list_all}
use Rattle.std.specs.Prelude.{◌==◌}
use Rattle.wf_model.specs.declared.numbers.ProdNo.{ProdNo}
use Rattle.wf_model.specs.Lists.{IsIn, IsAt}
use Rattle.wf_model.specs.Grammar.{Grammar, Production, head_of, body_of, production_at, IsProductionOf}
use Rattle.wf_model.proofs.Lists.{in_at, is_at}
use Rattle.wf_spec.proofs.Tests.{all_gives, all_from}
use Rattle.wf_spec.specs.Bodies.{modules_at}
use Rattle.wf_spec.specs.Tables.{productions_of}
use Rattle.wf_check.specs.Ranks.{IsLower, is_below}
use Rattle.wf_spec.proofs.Heads.{headed_from}
use Rattle.wf_check.proofs.Lists.{filtered_order, map_at}
use Rattle.wf_model.proofs.Mapping.{at_map}

-- a test of the body tells it
pub lower_told : (g : Grammar) (ranks : List (Option ℕ)) (n m p : ℕ) (r : Production) (b : Bool) → IsProductionOf g p m → r ≡ production_at g p → b ≡ list_all (λ k. is_below n (get_or ranks k None)) (modules_at r.positions) → (b ≡ true) ↔ IsLower g ranks n m p
lower_told g ranks n m p r b of is told =
    let e = told ∙ ap (λ (z : Production). list_all (λ k. is_below n (get_or ranks k None)) (modules_at z.positions)) is in (
      λ t. record { of_module = of; body = all_gives (λ k. is_below n (get_or ranks k None)) (body_of g p) (sym e ∙ t) },
      λ l. e ∙ all_from (λ k. is_below n (get_or ranks k None)) (body_of g p) l.body,
    )

-- none among the first of the module's productions
abbrev pub NoneLower : Grammar → List (Option ℕ) → ℕ → ℕ → List ProdNo → ℕ → Type 0
NoneLower g ranks n m ps i = (k : ℕ) → k < i → IsLower g ranks n m (get_or ps k (record { 0 = 0 })).0 → ⊥

-- where a lower one stands among them
lower_place : (g : Grammar) (ranks : List (Option ℕ)) (n m : ℕ) (ps : List ProdNo) → map (λ (p : ProdNo). p.0) ps ≡ productions_of g m → (q : ℕ) → IsLower g ranks n m q → (k : ℕ) × (k < length ps) × ((get_or ps k (record { 0 = 0 })).0 ≡ q)
lower_place g ranks n m ps e q l =
    let k = in_at q (map (λ (p : ProdNo). p.0) ps) (subst (IsIn q) (sym e) (headed_from g m q l.of_module)) in
    let r = map_at (λ (p : ProdNo). p.0) ps q k.0 (record { 0 = 0 }) k.1 in
    (k.0, r.0, r.1)

pub none_found : (g : Grammar) (ranks : List (Option ℕ)) (n m : ℕ) (ps : List ProdNo) (i : ℕ) → map (λ (p : ProdNo). p.0) ps ≡ productions_of g m → length ps ≤ i → NoneLower g ranks n m ps i → (q : ℕ) → ¬ IsLower g ranks n m q
none_found g ranks n m ps i e h none q l =
    let k = lower_place g ranks n m ps e q l in
    let r = k.1 in
    let s : k.0 < i = omega arith in
    none k.0 s (subst (IsLower g ranks n m) (sym k.2) l)

-- the first is the least
pub least_found : (g : Grammar) (ranks : List (Option ℕ)) (n m : ℕ) (ps : List ProdNo) (i : ℕ) → map (λ (p : ProdNo). p.0) ps ≡ productions_of g m → i < length ps → NoneLower g ranks n m ps i → (q : ℕ) → IsLower g ranks n m q → (get_or ps i (record { 0 = 0 })).0 ≤ q
least_found g ranks n m ps i e h none q l = ⊎_elim
    (λ s. absurd (none k.0 s (subst (IsLower g ranks n m) (sym k.2) l)))
    (λ s. filtered_order (λ p. head_of g p == m) 0 (length g.productions) i k.0 (get_or ps i (record { 0 = 0 })).0 q s (place i h) (subst (λ x. IsAt x k.0 (productions_of g m)) k.2 (place k.0 k.1)))
    cases
  where
    k : (k : ℕ) × (k < length ps) × ((get_or ps k (record { 0 = 0 })).0 ≡ q)
    k = lower_place g ranks n m ps e q l

    place : (j : ℕ) → j < length ps → IsAt (get_or ps j (record { 0 = 0 })).0 j (productions_of g m)
    place j r = subst (IsAt (get_or ps j (record { 0 = 0 })).0 j) e (at_map (λ (p : ProdNo). p.0) (get_or ps j (record { 0 = 0 })) j ps (is_at j ps (record { 0 = 0 }) r))

    cases : (k.0 < i) ⊎ (i ≤ k.0)
    cases = grind arith
