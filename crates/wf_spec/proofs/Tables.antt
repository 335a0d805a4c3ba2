-- The tables of a grammar.
use Rattle.std.proofs.Common.{◌≡◌, ℕ, zero, suc, ◌+◌, ◌<◌, ◌≤◌, Bool, true, false, cond, ◌==◌, add-one, zero-add, List, [], ◌∷◌, ◌++◌, Vec, Global, map, length, get_or, take, filter, count_by, refl, sym, ap, subst, ◌∙◌, arith}
use Rattle.std.proofs.lemmas.Bool.{eq-eqb}
use Rattle.std.proofs.lemmas.List.{length-append, append-nil, length-map, get_or-map}
use Rattle.std.proofs.lemmas.List.Elements.{filter-append}
use Rattle.wf_model.specs.declared.numbers.ProdNo.{ProdNo}
use Rattle.wf_model.specs.Lists.{IsIn, numbers_from}
use Rattle.std.proofs.lemmas.List.Sums.{count_by_more_yes, count_by_more_no}
use Rattle.wf_model.specs.Grammar.{Grammar, Production, alternative_of, head_of, IsAtomic}
use Rattle.wf_model.proofs.Lists.{in_filter, at_in, is_at}
use Rattle.wf_spec.specs.Tables.{productions_of, head_at, headed, AreByHead, AreRows, AreRowsOf, numbers_in}
use Rattle.wf_spec.specs.Held.{HeldProduction}
use Rattle.wf_model.proofs.NumberLists.{length-numbers, number_at, numbers_from-last}

pub get_in : {A : Type 0} (k : ℕ) (xs : List A) (d : A) → k < length xs → IsIn (get_or xs k d) xs
get_in k xs d h = at_in (get_or xs k d) k xs (is_at k xs d h)

pub headed-next : (ps : List Production) (n m : ℕ) → headed ps (suc n) m ≡ headed ps n m ++ cond (head_at ps n == m) (n ∷ []) []
headed-next ps n m =
    ap (filter (λ p. head_at ps p == m)) (numbers_from-last 0 n)
    ∙ filter-append (λ p. head_at ps p == m) (numbers_from 0 n) ((0 + n) ∷ [])
    ∙ ap (λ k. headed ps n m ++ cond (head_at ps k == m) (k ∷ []) []) (zero-add n)

-- the numbers in a list as it is kept
abbrev pub numbers : Vec ProdNo Global → List ℕ
numbers v = map (λ (q : ProdNo). q.0) v.items

pub list_within : (modules : ℕ) (ps : List Production) (n h : ℕ) (lists : List (Vec ProdNo Global)) → AreByHead modules ps n (numbers_in lists) → h < modules → h < length lists
list_within modules ps n h lists known below = omega (arith, known.one_each, length-map lists numbers)

-- the list of a module, as it is kept
pub listed : (modules : ℕ) (ps : List Production) (n m : ℕ) (lists : List (Vec ProdNo Global)) (v : Vec ProdNo Global) → AreByHead modules ps n (numbers_in lists)
    → m < modules → v ≡ get_or lists m v → numbers v ≡ headed ps n m
listed modules ps n m lists v known below was =
    ap numbers was ∙ sym (get_or-map numbers lists m v [] (list_within modules ps n m lists known below)) ∙ known.each m below

-- the rows of a module, as they are kept
pub rowed : (g : Grammar) (m : ℕ) (lists : List (Vec ℕ Global)) (v : Vec ℕ Global) (rows : List ℕ) → AreRows g (map (λ (r : Vec ℕ Global). r.items) lists)
    → m < length g.modules → v ≡ get_or lists m v → rows ≡ v.items → AreRowsOf g m rows
rowed g m lists v rows known below was is =
    subst (AreRowsOf g m) (sym (is ∙ ap items was ∙ sym (get_or-map items lists m v [] inside))) (known.1 m below)
  where
    items : Vec ℕ Global → List ℕ
    items r = r.items

    inside : m < length lists
    inside = omega (arith, length-map lists items, known.0)

-- the alternative number of a production, as it is kept
pub alternative_is : (g : Grammar) (p : ℕ) (held : List HeldProduction) (r : HeldProduction) → map (λ (q : HeldProduction). q.alternative) held ≡ map (alternative_of g) (numbers_from 0 (length g.productions))
    → map (λ (q : HeldProduction). q.core) held ≡ g.productions → p < length g.productions → r ≡ get_or held p r → r.alternative ≡ alternative_of g p
alternative_is g p held r known same below was =
    ap number was ∙ sym (get_or-map number held p r 0 inside) ∙ ap (λ ks. get_or ks p 0) known
    ∙ get_or-map (alternative_of g) (numbers_from 0 (length g.productions)) p 0 0 (subst (λ n. p < n) (sym (length-numbers 0 (length g.productions))) below)
    ∙ ap (alternative_of g) (number_at 0 (length g.productions) p below ∙ zero-add p)
  where
    number : HeldProduction → ℕ
    number q = q.alternative

    inside : p < length held
    inside = omega (arith, length-map held (λ (q : HeldProduction). q.core), ap length same)

-- the productions before the n-th that have a head, by their numbers and by their count
pub headed_count : (ps : List Production) (n m : ℕ) → n ≤ length ps → length (headed ps n m) ≡ count_by (λ (r : Production). r.head == m) (take n ps)
headed_count ps zero m h = refl
headed_count ps (suc n) m h = by (headed_count ps n m (omega arith)) (head_at ps n == m) refl
  where
    none : Production
    none = record { head = 0; positions = []; edges = []; entries = []; exits = [] }

    test : Production → Bool
    test r = r.head == m

    by : length (headed ps n m) ≡ count_by test (take n ps) → (b : Bool) → (head_at ps n == m) ≡ b → length (headed ps (suc n) m) ≡ count_by test (take (suc n) ps)
    by before true is =
        let inside : n < length ps = omega arith in
        ap length (headed-next ps n m ∙ ap (λ c. headed ps n m ++ cond c (n ∷ []) []) is) ∙ length-append (headed ps n m) (n ∷ []) ∙ ap (λ k. k + 1) before
        ∙ sym (ap (λ k. count_by test (take k ps)) (sym (add-one n)) ∙ count_by_more_yes test ps n none inside is)
    by before false is =
        let inside : n < length ps = omega arith in
        ap length (headed-next ps n m ∙ ap (λ c. headed ps n m ++ cond c (n ∷ []) []) is ∙ append-nil (headed ps n m)) ∙ before
        ∙ sym (ap (λ k. count_by test (take k ps)) (sym (add-one n)) ∙ count_by_more_no test ps n none inside is)

-- a module that heads no production is atomic
pub none_atomic : (g : Grammar) (m : ℕ) (told : List ProdNo) → map (λ (p : ProdNo). p.0) told ≡ productions_of g m → length told ≡ 0 → IsAtomic g m
none_atomic g m told are none p inside head =
    let there : IsIn p (numbers_from 0 (length g.productions)) =
    subst (λ k. IsIn k (numbers_from 0 (length g.productions))) (number_at 0 (length g.productions) p inside ∙ zero-add p)
    (get_in p (numbers_from 0 (length g.productions)) 0 (subst (λ n. p < n) (sym (length-numbers 0 (length g.productions))) inside)) in
    some_listed (productions_of g m) p (in_filter (λ q. head_of g q == m) p (numbers_from 0 (length g.productions)) there (eq-eqb (head_of g p) m head))
    (ap length (sym are) ∙ (length-map told (λ (q : ProdNo). q.0) ∙ none))
  where
    some_listed : (ps : List ℕ) (q : ℕ) → IsIn q ps → length ps ≡ 0 → ⊥
    some_listed [] q h e = h
    some_listed (x ∷ ps) q h e = absurd (omega arith)
