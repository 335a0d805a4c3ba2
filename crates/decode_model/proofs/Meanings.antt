-- What products and powers of matrices mean.
use Rattle.std.proofs.Common.{ℕ}
use Rattle.bool_mat.specs.Matrix.{Matrix, Then, Power, Joined, Means, IsProduct, IsPower}
use Rattle.bool_mat.proofs.Relations.{same_trans, then_same, power_same}

-- a product means one relation after another
pub means_product : (a b p : Matrix) (R S : ℕ → ℕ → Type 0) → Means a R → Means b S → IsProduct a b p → Means p (Then R S)
means_product a b p R S ha hb hp = same_trans hp.pairs (then_same ha hb)

-- a power means the relation taken so many times
pub means_power : (a p : Matrix) (R : ℕ → ℕ → Type 0) (n : ℕ) → Means a R → IsPower a n p → Means p (Power R n)
means_power a p R n ha hp = same_trans hp.pairs (power_same (Joined a) R n ha)
