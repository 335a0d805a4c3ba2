-- The productions of a module by their alternative numbers.
use Rattle.std.proofs.Common.{◌≡◌, ℕ, zero, suc, ◌<◌, ◌⊎◌, true, cond, ◌==◌, List, [], ◌∷◌, ◌++◌, length, get_or, take, count_by, sym, ap, ◌∙◌, subst, ⊎_elim, arith, length-append}
use Rattle.std.proofs.lemmas.Bool.{eq-eqb}
use Rattle.std.proofs.lemmas.List.{get_or_append_left}
use Rattle.std.proofs.Math.Seq.{get_or-append_seam}
use Rattle.wf_model.specs.Grammar.{Grammar, Production, alternative_of, IsProductionOf}
use Rattle.wf_spec.specs.Tables.{productions_of, head_at, headed}
use Rattle.wf_spec.proofs.Tables.{headed-next, headed_count}

before_or_last : (p n : ℕ) → p < suc n → (p < n) ⊎ (p ≡ n)
before_or_last p n h = grind arith

-- among the first n productions with this head, a production stands behind those before it
headed_at : (ps : List Production) (n p m : ℕ) → p < n → head_at ps p ≡ m → (length (headed ps p m) < length (headed ps n m)) × (get_or (headed ps n m) (length (headed ps p m)) 0 ≡ p)
headed_at ps zero p m h e = absurd (omega arith)
headed_at ps (suc n) p m h e = ⊎_elim (λ b. before (headed_at ps n p m b e)) last (before_or_last p n h)
  where
    more : List ℕ
    more = cond (head_at ps n == m) (n ∷ []) []

    before : (length (headed ps p m) < length (headed ps n m)) × (get_or (headed ps n m) (length (headed ps p m)) 0 ≡ p) →
        (length (headed ps p m) < length (headed ps (suc n) m)) × (get_or (headed ps (suc n) m) (length (headed ps p m)) 0 ≡ p)
    before r =
        let l = r.0 in (
          omega (arith, ap length (headed-next ps n m), length-append (headed ps n m) more),
          ap (λ xs. get_or xs (length (headed ps p m)) 0) (headed-next ps n m) ∙ (get_or_append_left (headed ps n m) more 0 (length (headed ps p m)) l ∙ r.1),
        )

    last : p ≡ n → (length (headed ps p m) < length (headed ps (suc n) m)) × (get_or (headed ps (suc n) m) (length (headed ps p m)) 0 ≡ p)
    last same =
        let is : (head_at ps n == m) ≡ true = eq-eqb (head_at ps n) m (ap (head_at ps) (sym same) ∙ e) in
        let next : headed ps (suc n) m ≡ headed ps p m ++ p ∷ [] = headed-next ps n m ∙ (ap (λ b. headed ps n m ++ cond b (n ∷ []) []) is ∙ ap (λ k. headed ps k m ++ k ∷ []) (sym same)) in (
          omega (arith, ap length next, length-append (headed ps p m) (p ∷ [])),
          ap (λ xs. get_or xs (length (headed ps p m)) 0) next ∙ get_or-append_seam (headed ps p m) p [] 0,
        )

-- a production of a module stands among those of the module at its alternative number
pub at_alternative : (g : Grammar) (p m : ℕ) → IsProductionOf g p m → (alternative_of g p < length (productions_of g m)) × (get_or (productions_of g m) (alternative_of g p) 0 ≡ p)
at_alternative g p m h =
    let inside = h.0 in
    let count : length (headed g.productions p m) ≡ alternative_of g p =
    headed_count g.productions p m (omega arith) ∙ ap (λ k. count_by (λ (r : Production). r.head == k) (take p g.productions)) (sym h.1) in
    let r = headed_at g.productions (length g.productions) p m h.0 h.1 in
    (subst (λ a. a < length (productions_of g m)) count r.0, ap (λ a. get_or (productions_of g m) a 0) (sym count) ∙ r.1)
