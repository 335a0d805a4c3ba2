-- The ports of a flat graph by number.
use Rattle.std.proofs.Common.{◌≡◌, ℕ, zero, suc, ◌+◌, ◌*◌, ◌<◌, ◌≤◌, ◌⊎◌, true, List, [], ◌∷◌, ◌++◌, length, get_or, refl, sym, ap, subst, ◌∙◌, arith, ⊎_elim, length-append}
use Rattle.std.proofs.lemmas.Bool.Decides.{nat_tests}
use Rattle.std.proofs.lemmas.List.{get_or_append_left}
use Rattle.wf_model.specs.declared.numbers.Side.{Side}
use Rattle.wf_model.specs.declared.numbers.Side.TheVariants.{Input, Output}
use Rattle.wf_model.specs.Lists.{IsIn}
use Rattle.wf_model.proofs.Lists.{at_in, is_at}
use Rattle.wf_flat.specs.declared.graph.Port.{Port}
use Rattle.wf_flat.specs.declared.graph.Link.{Link}
use Rattle.wf_flat.specs.contracts.graph.PortPartialEq.TheImpl.{eq-value}
use Rattle.wf_spec.specs.Sides.{side_place}
use Rattle.wf_flat.specs.Numbering.{side_of, IsWide, AreWide, number_of, IsNumbered, AreNumbered, IsRising, AreSums}

pub port_same : (a b : Port) → (eq-value).it a b ≡ true → a ≡ b
port_same a b e = grind (arith, nat_tests)

pub port_self : (a : Port) → (eq-value).it a a ≡ true
port_self a = grind (arith, nat_tests)

pub within_length : (xs : List ℕ) (k : ℕ) → 0 < get_or xs k 0 → k < length xs
within_length [] k h = absurd (omega arith)
within_length (x ∷ xs) zero h = omega arith
within_length (x ∷ xs) (suc k) h = let r = within_length xs k h in omega arith

side_places : (i j : ℕ) (s t : Side) → 2 * i + side_place s ≡ 2 * j + side_place t → (i ≡ j) × (s ≡ t)
side_places i j Input Input e = (omega arith, refl)
side_places i j Input Output e = absurd (omega arith)
side_places i j Output Input e = absurd (omega arith)
side_places i j Output Output e = (omega arith, refl)

-- ports of one number are one port
pub number_same : (begins : List ℕ) → IsRising begins → (x y : Port) → IsNumbered begins x → IsNumbered begins y → number_of begins x ≡ number_of begins y → x ≡ y
number_same begins rising x y h k e = ⊎_elim (λ l. absurd (apart x y h k e l)) (λ o. ⊎_elim same (λ l. absurd (apart y x k h (sym e) l)) o) cases
  where
    cases : (side_of x < side_of y) ⊎ ((side_of x ≡ side_of y) ⊎ (side_of y < side_of x))
    cases = grind arith

    apart : (x y : Port) → IsNumbered begins x → IsNumbered begins y → number_of begins x ≡ number_of begins y → side_of x < side_of y → ⊥
    apart x y h k e l =
        let next : 0 < get_or begins (side_of y + 1) 0 = omega arith in
        let there = within_length begins (side_of y + 1) next in
        let low : side_of x + 1 ≤ side_of y = omega arith in
        let in_list : side_of y < length begins = omega arith in
        let r : get_or begins (side_of x + 1) 0 ≤ get_or begins (side_of y) 0 = rising (side_of x + 1) (side_of y) low in_list in
        omega arith

    same : side_of x ≡ side_of y → x ≡ y
    same s =
        let p = side_places x.instance y.instance x.side y.side s in
        let b : get_or begins (side_of x) 0 ≡ get_or begins (side_of y) 0 = ap (λ k. get_or begins k 0) s in
        let n : x.port.0 ≡ y.port.0 = omega arith in
        (λ t. record { instance = p.0 t; side = p.1 t; port = record { 0 = n t } })

pub wide_numbered : (widths begins : List ℕ) → AreSums widths begins (length widths) → (x : Port) → IsWide widths x → IsNumbered begins x
wide_numbered widths begins sums x h =
    let some : 0 < get_or widths (side_of x) 0 = omega arith in
    let e = sums.step (side_of x) (within_length widths (side_of x) some) in
    omega arith

pub all_numbered : (widths begins : List ℕ) → AreSums widths begins (length widths) → (ls : List Link) → AreWide widths ls → AreNumbered begins ls
all_numbered widths begins sums ls h l i = let r = h l i in (wide_numbered widths begins sums l.from r.0, wide_numbered widths begins sums l.to r.1)

rises_next : (widths begins : List ℕ) (n i j : ℕ) → AreSums widths begins n → j < n → get_or begins i 0 ≤ get_or begins j 0 → get_or begins i 0 ≤ get_or begins (suc j) 0
rises_next widths begins n i j sums low r =
    let next : j + 1 ≡ suc j = omega arith in
    let s : get_or begins (suc j) 0 ≡ get_or begins j 0 + get_or widths j 0 = subst (λ z. get_or begins z 0 ≡ get_or begins j 0 + get_or widths j 0) next (sums.step j low) in
    omega arith

pub sums_rise : (widths begins : List ℕ) (n : ℕ) → AreSums widths begins n → IsRising begins
sums_rise widths begins n sums i zero h k = let e : i ≡ 0 = omega arith in subst (λ j. get_or begins j 0 ≤ get_or begins 0 0) (sym e) (omega arith)
sums_rise widths begins n sums i (suc j) h k =
    let c = sums.count in
    let low : j < n = omega arith in
    let below : j < length begins = omega arith in
    let cases : (i ≤ j) ⊎ (i ≡ suc j) = grind arith in
    ⊎_elim
    (λ l. rises_next widths begins n i j sums low (sums_rise widths begins n sums i j l below))
    (λ e. subst (λ z. get_or begins z 0 ≤ get_or begins (suc j) 0) (sym e) (omega arith))
    cases

past_end : (xs : List ℕ) (k : ℕ) → length xs ≤ k → get_or xs k 0 ≡ 0
past_end [] k h = refl
past_end (x ∷ xs) zero h = absurd (omega arith)
past_end (x ∷ xs) (suc k) h = let r : length xs ≤ k = omega arith in past_end xs k r

-- the last of them is the greatest
pub below_last : (widths begins : List ℕ) (n : ℕ) → AreSums widths begins n → (k : ℕ) → get_or begins k 0 ≤ get_or begins n 0
below_last widths begins n sums k = ⊎_elim
    (λ (l : k ≤ n). let c = sums.count in let end : n < length begins = omega arith in sums_rise widths begins n sums k n l end)
    (λ (l : n < k). let c = sums.count in let past : length begins ≤ k = omega arith in let e = past_end begins k past in omega arith)
    cases
  where
    cases : (k ≤ n) ⊎ (n < k)
    cases = grind arith

got_last : (xs : List ℕ) (x k : ℕ) → k ≡ length xs → get_or (xs ++ x ∷ []) k 0 ≡ x
got_last [] x zero e = refl
got_last [] x (suc k) e = absurd (omega arith)
got_last (y ∷ xs) x zero e = absurd (omega arith)
got_last (y ∷ xs) x (suc k) e = let r : k ≡ length xs = omega arith in got_last xs x k r

pub sums_more : (widths begins new : List ℕ) (n next sum width : ℕ) → AreSums widths begins n → get_or begins n 0 ≡ next → width ≡ get_or widths n 0 → sum ≡ next + width → new ≡ begins ++ sum ∷ [] → AreSums widths new (n + 1) × (get_or new (n + 1) 0 ≡ sum)
sums_more widths begins new n next sum width sums at w s is =
    let c = sums.count in
    let here : n + 1 ≡ length begins = sym c in
    let last : get_or new (n + 1) 0 ≡ sum = ap (λ l. get_or l (n + 1) 0) is ∙ got_last begins sum (n + 1) here in (
      record {
        count = let l = ap length is ∙ length-append begins (sum ∷ []) in omega arith;
        step = λ k h. ⊎_elim
            (λ (l : k < n).
            let a : k < length begins = omega arith in
            let b : k + 1 < length begins = omega arith in
            let p = ap (λ z. get_or z k 0) is ∙ get_or_append_left begins (sum ∷ []) 0 k a in
            let q = ap (λ z. get_or z (k + 1) 0) is ∙ get_or_append_left begins (sum ∷ []) 0 (k + 1) b in
            let r = sums.step k l in
            q ∙ (r ∙ ap (λ z. z + get_or widths k 0) (sym p)))
            (λ (e : k ≡ n).
            let a : n < length begins = omega arith in
            let p : get_or new n 0 ≡ next = ap (λ z. get_or z n 0) is ∙ (get_or_append_left begins (sum ∷ []) 0 n a ∙ at) in
            subst (λ z. get_or new (z + 1) 0 ≡ get_or new z 0 + get_or widths z 0) (sym e) (let f : get_or new (n + 1) 0 ≡ get_or new n 0 + get_or widths n 0 = omega arith in f))
            (cases k h);
      },
      last,
    )
  where
    cases : (k : ℕ) → k < n + 1 → (k < n) ⊎ (k ≡ n)
    cases k h = grind arith

abbrev pub no_port : Port
no_port = record { instance = 0; side = Input; port = record { 0 = 0 } }

abbrev pub no_link : Link
no_link = record { from = no_port; to = no_port }

pub link_in : (ls : List Link) (k : ℕ) → k < length ls → IsIn (get_or ls k no_link) ls
link_in ls k h = at_in (get_or ls k no_link) k ls (is_at k ls no_link h)
