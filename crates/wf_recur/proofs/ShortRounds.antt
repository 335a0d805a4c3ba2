-- How many modules a round has at most.
use Rattle.std.proofs.Common.{◌≡◌, ◌<◌, ◌≤◌, ℕ, zero, suc, List, [], ◌∷◌, map, length, get_or, Vec, ap, arith}
use Rattle.std.specs.declared.alloc.Global.{Global}
use Rattle.std.proofs.lemmas.List.{length-map}
use Rattle.wf_model.specs.declared.numbers.ModNo.{ModNo}
use Rattle.wf_recur.specs.Rounds.{rounds_in}

-- where the rounds that are seen are short, so is each that is held
pub round_short : (rounds : List (Vec ModNo Global)) (k : ℕ) (r : Vec ModNo Global) → k < length (rounds_in rounds) → r ≡ get_or rounds k r → ((j : ℕ) → length (get_or (rounds_in rounds) j []) ≤ 1024) → length r.items ≤ 1024
round_short [] k r low is short = absurd (omega (arith, low))
round_short (x ∷ rounds) zero r low is short =
    let items = ap (λ (v : Vec ModNo Global). length v.items) is in
    let few : length (map (λ (m : ModNo). m.0) x.items) ≤ 1024 = short 0 in
    let size = length-map x.items (λ (m : ModNo). m.0) in
    omega (arith, items, few, size)
round_short (x ∷ rounds) (suc k) r low is short = round_short rounds k r (omega (arith, low)) is (λ j. short (suc j))
