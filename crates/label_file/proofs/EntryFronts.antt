-- An entry at the front of bytes, part by part.
use Rattle.std.proofs.Common.{◌≡◌, ◌≢◌, ℕ, ◌+◌, ◌*◌, ◌/◌, ◌%◌, ◌≤◌, ◌<◌, List, [], ◌∷◌, ◌++◌, length, take, drop, get_or, Option, Some, None, sym, ap, ◌∙◌, arith}
use Rattle.std.proofs.lemmas.List.{take-append-drop}
use Rattle.std.specs.Borrow.{Bor}
use Rattle.std.specs.List.{IsSplitAt}
use Rattle.std.specs.Option.{IfSome, MatchOption}
use Rattle.bit_pack.proofs.Fronts.{same_front}
use Rattle.label_model.specs.Files.{Entry, IsFront}
use Rattle.label_model.proofs.FileReadings.{entry_spread}

-- two bytes that are a number, the higher first, then so many bytes, and what follows them
label_whole : (s two behind label rest : List ℕ) (n : ℕ) → 2 ≤ length s → ((i : ℕ) → get_or s i 0 < 256) → two ≡ take 2 s → behind ≡ drop 2 s → n ≡ get_or two 0 0 * 256 + get_or two 1 0 → IsSplitAt behind n label rest →
    s ≡ length label / 256 ∷ (length label % 256 ∷ (label ++ rest))
label_whole [] two behind label rest n long small a b is split = absurd (omega arith)
label_whole (x ∷ []) two behind label rest n long small a b is split = absurd (omega arith)
label_whole (x ∷ y ∷ t) two behind label rest n long small a b is split =
    let high : x < 256 = small 0 in
    let low : y < 256 = small 1 in
    let number : n ≡ x * 256 + y = is ∙ ap (λ z. get_or z 0 0 * 256 + get_or z 1 0) a in
    let len : length label ≡ n = split.3 in
    let first : x ≡ length label / 256 = omega (arith, high, low, number, len) in
    let second : y ≡ length label % 256 = omega (arith, high, low, number, len) in
    let parts : t ≡ label ++ rest = sym b ∙ (sym (take-append-drop n behind) ∙ (ap (λ z. z ++ drop n behind) (sym split.1) ∙ ap (λ z. label ++ z) (sym split.2))) in
    cc

-- what was cut is the label that stands behind the two bytes
pub label_first : (s two behind : List ℕ) (n : ℕ) (r : Option (Bor (List ℕ) × Bor (List ℕ))) → 2 ≤ length s → ((i : ℕ) → get_or s i 0 < 256) → two ≡ take 2 s → behind ≡ drop 2 s → n ≡ get_or two 0 0 * 256 + get_or two 1 0 →
    MatchOption r (length behind < n) (λ p. IsSplitAt behind n p.0.now p.1.now) → IfSome r (λ p. s ≡ length p.0.now / 256 ∷ (length p.0.now % 256 ∷ (p.0.now ++ p.1.now)))
label_first s two behind n None long small a b is split = tt
label_first s two behind n (Some p) long small a b is split = label_whole s two behind p.0.now p.1.now n long small a b is split

-- no entry stands where a name stands with its length, and no label behind it
pub no_label : (s name behind : List ℕ) → s ≡ length name ∷ (name ++ behind) → ((label rest : List ℕ) → behind ≢ length label / 256 ∷ (length label % 256 ∷ (label ++ rest))) → (e : Entry) (rest : List ℕ) → IsFront e s rest → ⊥
no_label s name behind q none e rest h =
    let w = sym q ∙ (h.is ∙ entry_spread e rest) in
    let n : length name ≡ length e.name = cc in
    let t : name ++ behind ≡ e.name ++ (length e.label / 256 ∷ (length e.label % 256 ∷ (e.label ++ rest))) = cc in
    none e.label rest (same_front name e.name _ _ n t).1
