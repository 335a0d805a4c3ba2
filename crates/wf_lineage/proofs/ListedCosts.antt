-- How many row products the decisions on the entries take, and one before them.
use Rattle.std.proofs.Common.{ℕ, ◌+◌, ◌*◌, ◌≤◌, arith}

pub cost_behind_one : (old mid new n most : ℕ) → mid ≤ old + most → new ≤ mid + n * most → new ≤ old + (n + 1) * most
cost_behind_one old mid new n most first rest = omega arith
