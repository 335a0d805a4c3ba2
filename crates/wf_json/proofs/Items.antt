-- The items of a list, read one by one.
use Rattle.std.proofs.Common.{◌≡◌, ◌≤◌, ◌-◌, List, [], ◌∷◌, ◌++◌, length, take, drop, get_or, ap, refl, sym, ◌∙◌, append_assoc, append-nil, true, nat_eq, arith}
use Rattle.std.proofs.lemmas.Bool.Decides.{nat_tests}
use Rattle.std.specs.Prelude.{Option, Some, None, option_map, option_and_then}
use Rattle.std.proofs.lemmas.List.{take_all, nil_from_length}
use Rattle.serde_json.specs.Data.{Data}
use Rattle.serde_json.specs.View.{view, items_view}
use Rattle.serde_json.specs.declared.value.Value.{Value}
use Rattle.wf_json.specs.Forms.{items_form, two_items, both}

-- what the items say after those that are read, and one item more
item_more : {A : Type 0} (old : List A) (x : A) (o : Option (List A)) → option_map (λ ss. old ++ ss) (option_map (λ xs. x ∷ xs) o) ≡ option_map (λ ss. (old ++ x ∷ []) ++ ss) o
item_more old x None = refl
item_more old x (Some xs) = ap Some (sym (append_assoc old (x ∷ []) xs))

-- one item is read
pub read_more : {A : Type 0} (form : Data → Option A) (all : Option (List A)) (old new : List A) (x : A) (left : List Value) (v : Value) (o : Option A) → all ≡ option_map (λ ss. old ++ ss) (items_form form (items_view left))
    → 1 ≤ length left → v ≡ get_or left 0 v → o ≡ form (view v) → o ≡ Some x → new ≡ old ++ x ∷ [] → all ≡ option_map (λ ss. new ++ ss) (items_form form (items_view (take (length left - 1) (drop 1 left))))
read_more form all old new x [] v o so_far inside is of some_x more = absurd (omega arith)
read_more form all old new x (w ∷ ws) v o so_far inside is of some_x more =
    so_far
    ∙ ap (λ p. option_map (λ ss. old ++ ss) (option_and_then (λ y. option_map (λ ys. y ∷ ys) (items_form form (items_view ws))) p)) (ap (λ z. form (view z)) (sym is) ∙ sym of ∙ some_x)
    ∙ item_more old x (items_form form (items_view ws))
    ∙ ap (λ n. option_map (λ ss. n ++ ss) (items_form form (items_view ws))) (sym more)
    ∙ ap (λ l. option_map (λ ss. new ++ ss) (items_form form (items_view l))) (sym (take_all (length (w ∷ ws) - 1) ws (omega arith)))

-- before any item is read
pub read_none : {A : Type 0} (form : Data → Option A) (all left : List Value) (found : List A) → left ≡ all → found ≡ [] → items_form form (items_view all) ≡ option_map (λ ss. found ++ ss) (items_form form (items_view left))
read_none form all left found same none =
    sym (ap (λ l. option_map (λ ss. found ++ ss) (items_form form (items_view l))) same ∙ (ap (λ f. option_map (λ ss. f ++ ss) (items_form form (items_view all))) none ∙ nothing_more (items_form form (items_view all))))
  where
    nothing_more : {A : Type 0} (o : Option (List A)) → option_map (λ ss. [] ++ ss) o ≡ o
    nothing_more None = refl
    nothing_more (Some xs) = refl

-- one item is read, and then those behind it
pub read_next : {A : Type 0} (form : Data → Option A) (all : Option (List A)) (old new : List A) (x : A) (left rest : List Value) (v : Value) (o : Option A) → all ≡ option_map (λ ss. old ++ ss) (items_form form (items_view left))
    → left ≡ v ∷ rest → o ≡ form (view v) → o ≡ Some x → new ≡ old ++ x ∷ [] → all ≡ option_map (λ ss. new ++ ss) (items_form form (items_view rest))
read_next form all old new x left rest v o so_far is of some_x more =
    so_far
    ∙ ap (λ l. option_map (λ ss. old ++ ss) (items_form form (items_view l))) is
    ∙ ap (λ p. option_map (λ ss. old ++ ss) (option_and_then (λ y. option_map (λ ys. y ∷ ys) (items_form form (items_view rest))) p)) (sym of ∙ some_x)
    ∙ item_more old x (items_form form (items_view rest))
    ∙ ap (λ n. option_map (λ ss. n ++ ss) (items_form form (items_view rest))) (sym more)

-- the next item has not the form
pub not_next : {A : Type 0} (form : Data → Option A) (all : Option (List A)) (old : List A) (left rest : List Value) (v : Value) (o : Option A) → all ≡ option_map (λ ss. old ++ ss) (items_form form (items_view left))
    → left ≡ v ∷ rest → o ≡ form (view v) → o ≡ None → None ≡ all
not_next form all old left rest v o so_far is of none =
    sym (so_far
    ∙ ap (λ l. option_map (λ ss. old ++ ss) (items_form form (items_view l))) is
    ∙ ap (λ p. option_map (λ ss. old ++ ss) (option_and_then (λ y. option_map (λ ys. y ∷ ys) (items_form form (items_view rest))) p)) (sym of ∙ none))

-- all items are read
pub read_all : {A : Type 0} (form : Data → Option A) (all : Option (List A)) (found : List A) (left : List Value) → all ≡ option_map (λ ss. found ++ ss) (items_form form (items_view left)) → length left ≡ 0 → Some found ≡ all
read_all form all found left so_far none = sym (so_far ∙ ap (λ l. option_map (λ ss. found ++ ss) (items_form form (items_view l))) (nil_from_length left none) ∙ ap Some (append-nil found))

-- what follows the first item
rest_is : (left rest : List Value) (w : Value) → rest ≡ take (length (w ∷ left) - 1) (drop 1 (w ∷ left)) → rest ≡ left
rest_is left rest w is = is ∙ take_all (length (w ∷ left) - 1) left (omega arith)

-- two items are read, and there are no others
pub read_two : {A B : Type 0} (f : Data → Option A) (g : Data → Option B) (list rest more : List Value) (v w : Value) (a : A) (b : B) (oa : Option A) (ob : Option B) → 1 ≤ length list → v ≡ get_or list 0 v
    → rest ≡ take (length list - 1) (drop 1 list) → 1 ≤ length rest → w ≡ get_or rest 0 w → more ≡ take (length rest - 1) (drop 1 rest) → nat_eq (length more) 0 ≡ true
    → oa ≡ f (view v) → oa ≡ Some a → ob ≡ g (view w) → ob ≡ Some b → Some (a, b) ≡ two_items f g (items_view list)
read_two f g [] rest more v w a b oa ob inside first is inside' second then none of some_a of' some_b = absurd (omega arith)
read_two f g (x ∷ []) rest more v w a b oa ob inside first is inside' second then none of some_a of' some_b =
    absurd (let e = ap length (rest_is [] rest x is) in omega arith)
read_two f g (x ∷ y ∷ z ∷ zs) rest more v w a b oa ob inside first is inside' second then none of some_a of' some_b =
    let e = rest_is (y ∷ z ∷ zs) rest x is in
    let m = ap length (rest_is (z ∷ zs) more y (then ∙ ap (λ l. take (length l - 1) (drop 1 l)) e)) in
    absurd (grind (arith, nat_tests))
read_two f g (x ∷ y ∷ []) rest more v w a b oa ob inside first is inside' second then none of some_a of' some_b =
    let e = rest_is (y ∷ []) rest x is in
    let p : f (view x) ≡ Some a = ap (λ k. f (view k)) (sym first) ∙ sym of ∙ some_a in
    let q : g (view y) ≡ Some b = ap (λ k. g (view k)) (sym (second ∙ ap (λ l. get_or l 0 w) e)) ∙ sym of' ∙ some_b in
    sym (ap (λ k. both k (g (view y))) p ∙ ap (λ k. both (Some a) k) q)
