-- The place of a production in the list of a module is its alternative number.
use Rattle.std.proofs.Common.{◌≡◌, ℕ, zero, suc, ◌+◌, ◌<◌, Bool, true, false, cond, ◌==◌, List, [], ◌∷◌, ◌++◌, length, get_or, map, refl, sym, ap, ◌∙◌, subst, ⊎_elim, arith, append-nil, length-append}
use Rattle.std.proofs.Math.Seq.{get_or-append_seam}
use Rattle.std.proofs.lemmas.Bool.{cases_lt}
use Rattle.std.proofs.lemmas.List.{get_or_append_left, get_or-map, length-map}
use Rattle.wf_model.specs.declared.numbers.ProdNo.{ProdNo}
use Rattle.wf_model.specs.Grammar.{Grammar, Production, head_of, alternative_of}
use Rattle.wf_spec.specs.Tables.{productions_of, head_at, headed}
use Rattle.wf_spec.proofs.Tables.{get_in, headed-next, headed_count}
use Rattle.wf_spec.proofs.Heads.{headed_gives}
use Rattle.wf_label.proofs.ByAlternative.{at_alternative}
use Rattle.wf_label.specs.Parts.{HasNoNumber, HasNoAlternative}

-- before a production stand as many of its head as its place among them says
headed_place : (ps : List Production) (n m a : ℕ) → a < length (headed ps n m) → length (headed ps (get_or (headed ps n m) a 0) m) ≡ a
headed_place ps zero m a h = absurd (omega arith)
headed_place ps (suc n) m a h = by (λ l. headed_place ps n m a l) (head_at ps n == m) refl
  where
    by : (a < length (headed ps n m) → length (headed ps (get_or (headed ps n m) a 0) m) ≡ a) → (b : Bool) → (head_at ps n == m) ≡ b → length (headed ps (get_or (headed ps (suc n) m) a 0) m) ≡ a
    by before false is =
        let e : headed ps (suc n) m ≡ headed ps n m = headed-next ps n m ∙ (ap (λ c. headed ps n m ++ cond c (n ∷ []) []) is ∙ append-nil (headed ps n m)) in
        ap (λ l. length (headed ps (get_or l a 0) m)) e ∙ before (subst (λ l. a < length l) e h)
    by before true is =
        let e : headed ps (suc n) m ≡ headed ps n m ++ n ∷ [] = headed-next ps n m ∙ ap (λ c. headed ps n m ++ cond c (n ∷ []) []) is in
        let few : a < length (headed ps n m) + 1 = omega (arith, h, ap length e, length-append (headed ps n m) (n ∷ [])) in
        ap (λ l. length (headed ps (get_or l a 0) m)) e ∙
        ⊎_elim
        (λ (l : a < length (headed ps n m)). ap (λ k. length (headed ps k m)) (get_or_append_left (headed ps n m) (n ∷ []) 0 a l) ∙ before l)
        (λ l. let last : a ≡ length (headed ps n m) = omega arith in
        ap (λ k. length (headed ps (get_or (headed ps n m ++ n ∷ []) k 0) m)) last ∙ (ap (λ k. length (headed ps k m)) (get_or-append_seam (headed ps n m) n [] 0) ∙ sym last))
        (cases_lt a (length (headed ps n m)))

-- the production at a place of the list has this alternative number
alternative_at : (g : Grammar) (m a : ℕ) → a < length (productions_of g m) → alternative_of g (get_or (productions_of g m) a 0) ≡ a
alternative_at g m a h =
    let p = get_or (productions_of g m) a 0 in
    let of_it = headed_gives g m p (get_in a (productions_of g m) 0 h) in
    let low = of_it.0 in
    sym (headed_count g.productions p (head_of g p) (omega arith)) ∙ (ap (λ k. length (headed g.productions p k)) of_it.1 ∙ headed_place g.productions (length g.productions) m a h)

-- a production of the list, as it is held
pub listed_alternative : (g : Grammar) (m a : ℕ) (list : List ProdNo) (d : ProdNo) → map (λ (p : ProdNo). p.0) list ≡ productions_of g m → a < length list → alternative_of g (get_or list a d).0 ≡ a
listed_alternative g m a list d is h =
    let few : a < length (productions_of g m) = omega (arith, ap length is, length-map list (λ (p : ProdNo). p.0)) in
    ap (alternative_of g) (sym (get_or-map (λ (p : ProdNo). p.0) list a d 0 h) ∙ ap (λ ps. get_or ps a 0) is) ∙ alternative_at g m a few

-- where no place of the list is left, no alternative number is
pub none_listed : (g : Grammar) (m : ℕ) (list : List ProdNo) (bits : List Bool) → map (λ (p : ProdNo). p.0) list ≡ productions_of g m → HasNoNumber (length list) bits → HasNoAlternative g m bits
none_listed g m list bits is none p rest of_it e =
    none (alternative_of g p) rest (omega (arith, (at_alternative g p m of_it).0, ap length is, length-map list (λ (p : ProdNo). p.0))) e
