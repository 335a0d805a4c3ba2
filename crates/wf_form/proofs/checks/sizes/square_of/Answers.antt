use Rattle.std.proofs.Common.{ℕ, ◌*◌, ◌≤◌, length, subst, sym, arith}
use Rattle.std.proofs.lemmas.Nat.{mul-le}
use Rattle.wf_form.proofs.checks.sizes.square_of.Goals as goal

square_small : (n : ℕ) → n ≤ 64 → n * n ≤ 4096
square_small n h = mul-le n n 64 64 h h

pub overflow_mul-result : goal.overflow_mul-result
overflow_mul-result c = let s = square_small (length c.items-len.result.now) (subst (λ l. length l ≤ 64) (sym c.items-len.ensures) c.requires) in omega arith

pub returns-clause-small : goal.returns-clause-small
returns-clause-small c = square_small (length c.items-len.result.now) (subst (λ l. length l ≤ 64) (sym c.items-len.ensures) c.requires)
