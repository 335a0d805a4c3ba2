-- A production of a package has the alternative number that it has in the grammar.
use Rattle.std.proofs.Common.{◌≡◌, ℕ, zero, suc, ◌+◌, ◌<◌, ◌≤◌, ◌⊎◌, ◌==◌, Bool, true, false, cond, List, [], ◌∷◌, map, length, get_or, take, drop, filter, count_by, refl, sym, ap, ◌∙◌, subst, inl, inr, ⊎_elim, arith}
use Rattle.std.proofs.lemmas.Bool.{eqb-true, eq-eqb}
use Rattle.std.proofs.lemmas.List.{length-map, take-map, take-append-drop}
use Rattle.std.proofs.lemmas.List.Sums.{length-filter}
use Rattle.wf_model.specs.Lists.{IsIn, IsAt, AllDiffer, numbers_from}
use Rattle.wf_model.specs.Grammar.{Grammar, Production, head_of, alternative_of}
use Rattle.wf_model.specs.View.{View, expands, IsSeenModule}
use Rattle.wf_model.specs.Finishing.{ExpandsComposites}
use Rattle.wf_model.proofs.Lists.{in_filter, in_filter_from, at_is, at_in}
use Rattle.wf_model.proofs.Level.{in_numbers, numbers_in}
use Rattle.label_model.proofs.Differing.{no_more, in_order_differ, numbers_differ, differ_filter, differ_parts}
use Rattle.package_model.specs.Shown.{IsOpenProduction, AreSeen, place_in, shown_production}
use Rattle.package_model.specs.Packages.{package_production}
use Rattle.package_model.specs.Laws.{packaged}
use Rattle.package_model.proofs.Places.{placed_at}
use Rattle.package_model.proofs.Sums.{numbers_shift}
use Rattle.package_model.proofs.PackageParts.{one_place, same_production}

filter-map : {A B : Type 0} (t : B → Bool) (f : A → B) (xs : List A) → filter t (map f xs) ≡ map f (filter (λ x. t (f x)) xs)
filter-map t f [] = refl
filter-map {A} {B} t f (x ∷ xs) = go (filter-map t f xs) (t (f x))
  where
    go : filter t (map f xs) ≡ map f (filter (λ x. t (f x)) xs) → (b : Bool) → cond b (f x ∷ filter t (map f xs)) (filter t (map f xs)) ≡ map f (cond b (x ∷ filter (λ x. t (f x)) xs) (filter (λ x. t (f x)) xs))
    go ih true = ap (λ l. f x ∷ l) ih
    go ih false = ih

-- how many images pass
count_map : {A B : Type 0} (t : B → Bool) (f : A → B) (xs : List A) → count_by t (map f xs) ≡ length (filter (λ x. t (f x)) xs)
count_map t f xs = sym (length-filter t (map f xs)) ∙ (ap length (filter-map t f xs) ∙ length-map (filter (λ x. t (f x)) xs) f)

-- the front of a list, by its places
take_places : {A : Type 0} (n : ℕ) (xs : List A) (d : A) → n ≤ length xs → take n xs ≡ map (λ k. get_or xs k d) (numbers_from 0 n)
take_places zero xs d h = refl
take_places (suc n) [] d h = absurd (omega arith)
take_places (suc n) (x ∷ xs) d h =
    let l : n ≤ length xs = omega arith in
    ap (λ z. x ∷ z) (take_places n xs d l ∙ sym (ap (map (λ k. get_or (x ∷ xs) k d)) (numbers_shift 0 n) ∙ each (numbers_from 0 n)))
  where
    each : (ks : List ℕ) → map (λ k. get_or (x ∷ xs) k d) (map suc ks) ≡ map (λ k. get_or xs k d) ks
    each [] = refl
    each (k ∷ ks) = ap (λ z. get_or xs k d ∷ z) (each ks)

in_take : {A : Type 0} (x : A) (n : ℕ) (xs : List A) → IsIn x (take n xs) → (k : ℕ) × (k < n) × IsAt x k xs
in_take x zero xs h = absurd h
in_take x (suc n) [] h = absurd h
in_take x (suc n) (y ∷ xs) (inl e) = (0, omega arith, e)
in_take x (suc n) (y ∷ xs) (inr h) = let r = in_take x n xs h in (suc r.0, omega (arith, r.1), r.2)

take_in : {A : Type 0} (x : A) (n k : ℕ) (xs : List A) → k < n → IsAt x k xs → IsIn x (take n xs)
take_in x zero k xs h a = absurd (omega arith)
take_in x (suc n) k [] h a = absurd a
take_in x (suc n) zero (y ∷ xs) h a = inl a
take_in x (suc n) (suc k) (y ∷ xs) h a = inr (take_in x n k xs (omega arith) a)

module _ (g : Grammar) (u : View) (ms ps : List ℕ) (ec : ExpandsComposites g u) (s : AreSeen g u ms ps) (p : ℕ) (sp : IsOpenProduction g u p) where
  -- a production of the same head, in the grammar and in the package
  abbrev has_head : ℕ → Bool
  has_head q = head_of g q == head_of g p

  abbrev has_place : ℕ → Bool
  has_place q = place_in ms (head_of g q) == head_of (packaged g u ms ps) (place_in ps p)

  abbrev before : List ℕ
  before = filter has_head (numbers_from 0 p)

  abbrev shown_before : List ℕ
  shown_before = filter has_place (take (place_in ps p) ps)

  head_there : head_of (packaged g u ms ps) (place_in ps p) ≡ place_in ms (head_of g p)
  head_there = (same_production g u ms ps ec s p sp).head

  here : IsAt p (place_in ps p) ps
  here = placed_at ps p ((s.productions p).1 sp)

  there : (k : ℕ) → IsIn k before → IsIn k shown_before
  there k h =
      let f = in_filter_from has_head k (numbers_from 0 p) h in
      let l : k < 0 + p = in_numbers k 0 p f.0 in
      let e : head_of g k ≡ head_of g p = eqb-true (head_of g k) (head_of g p) f.1 in
      let hp = sp.0 in
      let o : IsOpenProduction g u k = (omega arith, subst (λ z. IsSeenModule g u z) (sym e) sp.1, subst (λ z. expands u z ≡ true) (sym e) sp.2) in
      let a = placed_at ps k ((s.productions k).1 o) in
      let in_front : IsIn k (take (place_in ps p) ps) = ⊎_elim (λ q. take_in k (place_in ps p) (place_in ps k) ps q a) (λ q. absurd (not_behind k (omega arith) a q)) cases in
      in_filter has_place k (take (place_in ps p) ps) in_front (eq-eqb (place_in ms (head_of g k)) (head_of (packaged g u ms ps) (place_in ps p)) (ap (place_in ms) e ∙ sym head_there))
    where
      cases : (place_in ps k < place_in ps p) ⊎ (place_in ps p ≤ place_in ps k)
      cases = grind arith

      not_behind : (k : ℕ) → k < p → IsAt k (place_in ps k) ps → place_in ps p ≤ place_in ps k → ⊥
      not_behind k l a q = ⊎_elim
          (λ (e : place_in ps p ≡ place_in ps k). let z : k ≡ p = sym (at_is k (place_in ps k) ps 0 a) ∙ (ap (λ j. get_or ps j 0) (sym e) ∙ at_is p (place_in ps p) ps 0 here) in absurd (omega arith))
          (λ w. let z = s.productions_in_order (place_in ps p) (place_in ps k) p k w here a in absurd (omega arith))
          same_or
        where
          same_or : (place_in ps p ≡ place_in ps k) ⊎ (place_in ps p < place_in ps k)
          same_or = grind arith

  back : (q : ℕ) → IsIn q shown_before → IsIn q before
  back q h =
      let f = in_filter_from has_place q (take (place_in ps p) ps) h in
      let t = in_take q (place_in ps p) ps f.0 in
      let l : q < p = s.productions_in_order t.0 (place_in ps p) q p t.1 t.2 here in
      let o = (s.productions q).0 (at_in q t.0 ps t.2) in
      let e : head_of g q ≡ head_of g p = one_place g u ms ps ec s (head_of g q) (head_of g p) o.1 sp.1 (eqb-true (place_in ms (head_of g q)) (head_of (packaged g u ms ps) (place_in ps p)) f.1 ∙ head_there) in
      in_filter has_head q (numbers_from 0 p) (numbers_in q 0 p (omega arith) (omega arith)) (eq-eqb (head_of g q) (head_of g p) e)

  in_front_differ : AllDiffer (take (place_in ps p) ps)
  in_front_differ = (differ_parts (take (place_in ps p) ps) (drop (place_in ps p) ps) (subst AllDiffer (sym (take-append-drop (place_in ps p) ps)) (in_order_differ ps s.productions_in_order))).0

  same_length : length shown_before ≡ length before
  same_length =
      let a = no_more before shown_before (differ_filter has_head (numbers_from 0 p) (numbers_differ 0 p)) there in
      let b = no_more shown_before before (differ_filter has_place (take (place_in ps p) ps) in_front_differ) back in
      omega arith

  pub alternative_up : alternative_of (packaged g u ms ps) (place_in ps p) ≡ alternative_of g p
  alternative_up =
      let few = sp.0 in
      let empty : Production = record { head = 0; positions = []; edges = []; entries = []; exits = [] } in
      let test : Production → Bool = λ (r : Production). r.head == head_of (packaged g u ms ps) (place_in ps p) in
      let own : Production → Bool = λ (r : Production). r.head == head_of g p in
      let up : alternative_of (packaged g u ms ps) (place_in ps p) ≡ length shown_before =
      ap (count_by test) (take-map package_production (place_in ps p) (map (shown_production g ms) ps) ∙ ap (map package_production) (take-map (shown_production g ms) (place_in ps p) ps)) ∙
      (count_map test package_production (map (shown_production g ms) (take (place_in ps p) ps)) ∙
      (length-filter (λ r. test (package_production r)) (map (shown_production g ms) (take (place_in ps p) ps)) ∙ count_map (λ r. test (package_production r)) (shown_production g ms) (take (place_in ps p) ps))) in
      let down : alternative_of g p ≡ length before = ap (count_by own) (take_places p g.productions empty (omega arith)) ∙ count_map own (λ k. get_or g.productions k empty) (numbers_from 0 p) in
      up ∙ (same_length ∙ sym down)
