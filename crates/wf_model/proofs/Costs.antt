-- What a loop costs whose rounds each cost a number of steps at most.
use Rattle.std.proofs.Common.{ℕ, ◌+◌, ◌*◌, ◌<◌, ◌≤◌, arith}
use Rattle.std.proofs.Math.Nat.{mul-le-mul_right}

-- one round more, of n at most
pub one_dearer : (old mid new k n most : ℕ) → mid ≤ old + k * most → new ≤ mid + most → k < n → new ≤ old + n * most
one_dearer old mid new k n most before one low = let h : (k + 1) * most ≤ n * most = mul-le-mul_right most (omega arith) in omega (arith, h)

pub one_more_cost : (old mid new k most : ℕ) → mid ≤ old + k * most → new ≤ mid + most → new ≤ old + (k + 1) * most
one_more_cost old mid new k most before one = omega arith

-- all rounds
pub all_cost : (old mid k n most : ℕ) → mid ≤ old + k * most → k ≤ n → mid ≤ old + n * most
all_cost old mid k n most before low = let h : k * most ≤ n * most = mul-le-mul_right most low in omega (arith, h)
