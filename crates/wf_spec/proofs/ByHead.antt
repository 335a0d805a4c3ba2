-- The lists of the productions of each module, as they are made.
use Rattle.std.proofs.Common.{◌≡◌, ◌≢◌, ℕ, ◌+◌, ◌<◌, ◌≤◌, Bool, true, false, cond, ◌==◌, add-one, zero-add, List, [], ◌∷◌, ◌++◌, Vec, Global, map, length, get_or, set, take, refl, sym, ap, subst, ◌∙◌, arith}
use Rattle.std.proofs.lemmas.Bool.{eqb-true, eqb-false, eq-eqb}
use Rattle.std.proofs.lemmas.List.{length-set, length-take-le, get_or-set_same, get_or-set_other, append-nil, length-map, map-set, map-append, get_or-map}
use Rattle.wf_model.specs.declared.numbers.ProdNo.{ProdNo}
use Rattle.wf_model.specs.Lists.{IsIn, numbers_from}
use Rattle.std.proofs.lemmas.List.Sums.{count_by-le-length}
use Rattle.wf_model.specs.Grammar.{Grammar, Production}
use Rattle.wf_model.specs.WellFormed.{IsWellFormed}
use Rattle.wf_model.proofs.Lists.{in_at, at_is, at_below}
use Rattle.wf_spec.specs.Tables.{head_at, headed, places, AreByHead, numbers_in}
use Rattle.wf_spec.proofs.Tables.{get_in, headed-next, numbers, listed, headed_count}
use Rattle.wf_model.proofs.NumberLists.{length-numbers, numbers_from-last}

-- the next production goes into the list of its head
pub by_head_more : (modules : ℕ) (ps : List Production) (n h : ℕ) (lists : List (List ℕ)) (list : List ℕ) → AreByHead modules ps n lists → head_at ps n ≡ h
    → list ≡ get_or lists h [] ++ n ∷ [] → AreByHead modules ps (n + 1) (set lists h list)
by_head_more modules ps n h lists list known head is = record {
  one_each = length-set lists h list ∙ known.one_each;
  each = λ m within. by (h == m) m within refl;
}
  where
    step : (m : ℕ) → headed ps (n + 1) m ≡ headed ps n m ++ cond (h == m) (n ∷ []) []
    step m = ap (λ k. headed ps k m) (add-one n) ∙ headed-next ps n m ∙ ap (λ k. headed ps n m ++ cond (k == m) (n ∷ []) []) head

    by : (b : Bool) (m : ℕ) → m < modules → (h == m) ≡ b → get_or (set lists h list) m [] ≡ headed ps (n + 1) m
    by true m within same =
        let e : h ≡ m = eqb-true h m same in
        let here : h < modules = omega arith in
        let inside : h < length lists = omega (arith, known.one_each) in
        subst (λ k. get_or (set lists h list) k [] ≡ headed ps (n + 1) k) e
        (get_or-set_same lists h list [] inside ∙ is ∙ ap (λ xs. xs ++ n ∷ []) (known.each h here)
        ∙ sym (step h ∙ ap (λ b. headed ps n h ++ cond b (n ∷ []) []) (eq-eqb h h refl)))
    by false m within same =
        let ne : m ≢ h = λ e. eqb-false h m same (sym e) in
        get_or-set_other lists h m list [] ne ∙ known.each m within
        ∙ sym (step m ∙ ap (λ b. headed ps n m ++ cond b (n ∷ []) []) same ∙ append-nil (headed ps n m))

-- the same over the lists as they are kept
pub pushed : (modules : ℕ) (ps : List Production) (n h : ℕ) (lists : List (Vec ProdNo Global)) (old new : Vec ProdNo Global) (p : ProdNo)
    → AreByHead modules ps n (numbers_in lists) → head_at ps n ≡ h → h < length lists → old ≡ get_or lists h old
    → new.items ≡ old.items ++ p ∷ [] → p.0 ≡ n → AreByHead modules ps (n + 1) (numbers_in (set lists h new))
pushed modules ps n h lists old new p known head inside was is number =
    subst (AreByHead modules ps (n + 1)) (sym (map-set numbers lists h new))
    (by_head_more modules ps n h (numbers_in lists) (numbers new) known head
    (ap (map (λ (q : ProdNo). q.0)) is ∙ map-append (λ (q : ProdNo). q.0) old.items (p ∷ []) ∙ ap (λ k. numbers old ++ k ∷ []) number
    ∙ ap (λ l. l ++ n ∷ []) (ap numbers was ∙ sym (get_or-map numbers lists h old [] inside))))

-- a production that stands in a list has its head in range
pub head_within : (modules : ℕ) (ps : List Production) (n : ℕ) (r : Production) → ((q : Production) → IsIn q ps → q.head < modules)
    → r ≡ get_or ps n r → n < length ps → r.head < modules
head_within modules ps n r all was inside = all r (subst (λ q. IsIn q ps) (sym was) (get_in n ps r inside))

-- the heads of a well-formed grammar, production by production
pub heads_within : (g : Grammar) → IsWellFormed g → (r : Production) → IsIn r g.productions → r.head < length g.modules
heads_within g formed r here =
    let at = in_at r g.productions here in
    subst (λ (q : Production). q.head < length g.modules) (at_is r at.0 g.productions _ at.1) (formed.heads at.0 (at_below r at.0 g.productions at.1))

-- one place more
pub placed_more : (ps : List Production) (n k : ℕ) (old new : List ℕ) → old ≡ places ps n → k ≡ length (headed ps n (head_at ps n)) → new ≡ old ++ k ∷ [] → new ≡ places ps (n + 1)
placed_more ps n k old new so_far here is =
    is ∙ ap (λ ks. ks ++ k ∷ []) so_far ∙ ap (λ j. places ps n ++ j ∷ []) here
    ∙ sym (ap (places ps) (add-one n) ∙ ap (map place) (numbers_from-last 0 n) ∙ map-append place (numbers_from 0 n) ((0 + n) ∷ []) ∙ ap (λ j. places ps n ++ place j ∷ []) (zero-add n))
  where
    place : ℕ → ℕ
    place p = length (headed ps p (head_at ps p))

-- a list is no longer than the productions before it
pub headed_few : (ps : List Production) (n m : ℕ) → n ≤ length ps → length (headed ps n m) ≤ n
headed_few ps n m h =
    subst (λ k. k ≤ n) (sym (headed_count ps n m h))
    (omega (arith, count_by-le-length (λ (r : Production). r.head == m) (take n ps), length-take-le n ps h))

-- how long the list of a production's head is
pub list_length : (modules : ℕ) (ps : List Production) (n h : ℕ) (lists : List (Vec ProdNo Global)) (v : Vec ProdNo Global) → AreByHead modules ps n (numbers_in lists)
    → h < modules → v ≡ get_or lists h v → length v.items ≡ length (headed ps n h)
list_length modules ps n h lists v known below was =
    sym (length-map v.items (λ (q : ProdNo). q.0)) ∙ ap length (listed modules ps n h lists v known below was)

-- each production has a place
pub places_all : (ps : List Production) (kept : List ℕ) → kept ≡ places ps (length ps) → length kept ≡ length ps
places_all ps kept known =
    ap length known ∙ length-map (numbers_from 0 (length ps)) (λ p. length (headed ps p (head_at ps p))) ∙ length-numbers 0 (length ps)
