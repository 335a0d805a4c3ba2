-- Places of instances that are added, and that are set.
use Rattle.std.proofs.Common.{◌≡◌, ℕ, zero, suc, ◌<◌, ◌≤◌, ◌+◌, ◌-◌, cond, List, [], ◌∷◌, ◌++◌, map, take, length, Option, None, Some, Result, Ok, Err, OnOk, OnErr, refl, sym, ap, ◌∙◌, arith}
use Rattle.std.specs.Prelude.{is_ok, replicate, slice_set}
use Rattle.std.proofs.lemmas.List.{map-append, map-set, take_all, take_at, take-map, set-append_left, length-map, length-append, length-replicate}
use Rattle.wf_intake.specs.declared.reported.ReportedBy.{ReportedBy}
use Rattle.wf_model.specs.declared.event.Event.TheVariants.{Start, Expand}
use Rattle.wf_intake.specs.Reported.{ReportedSeen, reported_as, expansion_told, expanded_at, with_places, SetsExpansion, noted}

told_replicate : (n : ℕ) (x : ReportedBy) → expansion_told x ≡ None → map expansion_told (replicate n x) ≡ replicate n None
told_replicate zero x e = refl
told_replicate (suc n) x e = let ih = told_replicate n x e in λ t. e t ∷ ih t

pub places_added : {T E : Type 0} (r : Result T E) (ys xs : List ReportedBy) (m n count : ℕ) (x : ReportedBy) → ys ≡ cond (is_ok r) (take n xs ++ replicate (n - m) x) xs → m ≡ length xs → n ≡ m + count → expansion_told x ≡ None →
    OnOk r (map expansion_told ys ≡ map expansion_told xs ++ replicate count None)
places_added (Ok v) ys xs m n count x e a b none =
    let c : length xs ≤ n = omega (arith, a, b) in
    let d : n - m ≡ count = omega (arith, b) in
    ap (map expansion_told) e ∙
    (map-append expansion_told (take n xs) (replicate (n - m) x) ∙
    (ap (λ l. map expansion_told l ++ map expansion_told (replicate (n - m) x)) (take_all n xs c) ∙
    ap (λ l. map expansion_told xs ++ l) (told_replicate (n - m) x none ∙ ap (λ k. replicate k None) d)))
places_added (Err f) ys xs m n count x e a b none = tt

-- where no places are added they are as they were
pub places_same : {T E : Type 0} (r : Result T E) (ys xs zs : List ReportedBy) → ys ≡ cond (is_ok r) zs xs → OnErr r (map expansion_told ys ≡ map expansion_told xs)
places_same (Ok v) ys xs zs e = tt
places_same (Err f) ys xs zs e = ap (map expansion_told) e

-- a place past the end is not set
set_past : (slots : List (Option ReportedBy)) (k : ℕ) (x : Option ReportedBy) → length slots ≤ k → slice_set slots k x ≡ slots
set_past [] k x l = refl
set_past (s ∷ slots) zero x l = absurd (omega (arith, l))
set_past (s ∷ slots) (suc k) x l = ap (λ z. s ∷ z) (set_past slots k x (omega (arith, l)))

-- how many places there are before those that were added
places_before : (xs : List ReportedBy) (slots : List (Option ReportedBy)) (count : ℕ) → map expansion_told xs ≡ slots ++ replicate count None → length xs ≡ length slots + count
places_before xs slots count e =
    let a = ap length e in
    let b = length-map xs expansion_told in
    let c = length-append slots (replicate count None) in
    let d : length (replicate {A = Option ReportedBy} count None) ≡ count = length-replicate count None in
    omega (arith, a, b, c, d)

-- the expansion of no instance is set
pub set_none : (xs : List ReportedBy) (count : ℕ) (number : Option ℕ) (by : ReportedBy) → number ≡ None → SetsExpansion (map expansion_told xs) count number by (map expansion_told xs)
set_none xs count number by none slots told kept e = e ∙ ap (λ n. expanded_at slots n told ++ replicate count None) (sym none)

-- that of an instance is
pub set_at_place : (xs : List ReportedBy) (count k : ℕ) (number : Option ℕ) (by : ReportedBy) → number ≡ Some k → k < length xs - count → SetsExpansion (map expansion_told xs) count number by (map expansion_told (slice_set xs k by))
set_at_place xs count k number by is less slots told kept e =
    let size = places_before xs slots count e in
    map-set expansion_told xs k by ∙
    (ap (λ l. slice_set l k (expansion_told by)) e ∙
    (set-append_left slots (replicate count None) k (expansion_told by) (omega (arith, size, less)) ∙
    (ap (λ x. slice_set slots k x ++ replicate count None) kept ∙ ap (λ n. expanded_at slots n told ++ replicate count None) (sym is))))

-- one that has no place is not
pub set_no_place : (xs : List ReportedBy) (count k : ℕ) (number : Option ℕ) (by : ReportedBy) → number ≡ Some k → length xs - count ≤ k → SetsExpansion (map expansion_told xs) count number by (map expansion_told xs)
set_no_place xs count k number by is past slots told kept e =
    let size = places_before xs slots count e in
    e ∙ (ap (λ l. l ++ replicate count None) (sym (set_past slots k (Some told) (omega (arith, size, past)))) ∙ ap (λ n. expanded_at slots n told ++ replicate count None) (sym is))

-- the lines whose last places are taken out
pub places_out : (start : ℕ) (xs : List ReportedBy) (left count : ℕ) → left ≡ length xs - count → (seen : ReportedSeen) → record { start = start; expansions = map expansion_told xs } ≡ with_places seen count → record { start = start; expansions = map expansion_told (take left xs) } ≡ seen
places_out start xs left count is seen e =
    let slots : map expansion_told xs ≡ seen.expansions ++ replicate count None = ap (λ (z : ReportedSeen). z.expansions) e in
    let size = places_before xs seen.expansions count slots in
    let same : map expansion_told (take left xs) ≡ seen.expansions = sym (take-map expansion_told left xs) ∙ (ap (take left) slots ∙ take_at seen.expansions (replicate count None) left (omega (arith, is, size))) in
    λ t. record { start = (ap (λ (z : ReportedSeen). z.start) e t); expansions = same t }

-- the line of a start event is noted
pub start_noted_so : (line start : ℕ) (slots : List (Option ReportedBy)) (name : List ℕ) (number : Option ℕ) (seen : ReportedSeen) → record { start = start; expansions = slots } ≡ with_places seen 1 → record { start = line; expansions = slots } ≡ noted seen number line (Start name)
start_noted_so line start slots name number seen e = ap (λ l. record { start = line; expansions = l }) (ap (λ (z : ReportedSeen). z.expansions) e)

-- that of an expansion is
pub expansion_noted_so : (line start production : ℕ) (old new : List (Option ReportedBy)) (instance : List ℕ) (names : List (List ℕ)) (number : Option ℕ) (by : ReportedBy) → expansion_told by ≡ Some (reported_as line production) → SetsExpansion old (length names) number by new →
    (seen : ReportedSeen) → record { start = start; expansions = old } ≡ with_places seen (length names) → record { start = start; expansions = new } ≡ noted seen number line (Expand instance production names)
expansion_noted_so line start production old new instance names number by kept sets seen e =
    let same = sets seen.expansions (reported_as line production) kept (ap (λ (z : ReportedSeen). z.expansions) e) in
    λ t. record { start = (ap (λ (z : ReportedSeen). z.start) e t); expansions = same t }
