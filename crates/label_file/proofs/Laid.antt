-- Parts that are laid one behind another.
use Rattle.std.proofs.Common.{◌≡◌, ℕ, ◌+◌, ◌≤◌, List, ◌++◌, length, take, drop, sym, ap, ◌∙◌, arith, append_assoc}
use Rattle.std.proofs.Math.Seq.{take-append-add}
use Rattle.std.proofs.lemmas.List.{take-take, take-append-drop, length-take-le}

-- the first bytes of a part are laid, and then the last, which may be some of the first again
pub ends_laid : (old half new part : List ℕ) (at n rest : ℕ) → rest + n ≡ length part → rest ≤ n → at ≤ length old →
    take (at + n) half ≡ take at old ++ take n part → take (at + rest + n) new ≡ take (at + rest) half ++ drop rest part → take (at + length part) new ≡ take at old ++ part
ends_laid old half new part at n rest all order inside first last =
    let front = take at old in
    let k : at + rest + n ≡ at + length part = omega arith in
    let l : at + rest ≡ length front + rest = omega (arith, length-take-le at old inside) in
    let begun : take (at + rest) half ≡ front ++ take rest part =
    sym (take-take (at + rest) (at + n) half (omega arith)) ∙ (ap (take (at + rest)) first ∙ (ap (λ z. take z (front ++ take n part)) l ∙
    (take-append-add front (take n part) rest ∙ ap (λ z. front ++ z) (take-take rest n part order)))) in
    ap (λ z. take z new) (sym k) ∙ (last ∙ (ap (λ z. z ++ drop rest part) begun ∙ (append_assoc front (take rest part) (drop rest part) ∙ ap (λ z. front ++ z) (take-append-drop rest part))))
